-- What holds of replies.
use Rattle.std.specs.Prelude.{◌≡◌, ℕ, ◌&&◌, if◌then◌else◌, Some}
use Rattle.bus_word.specs.declared.mode.ModeRow.{ModeRow}
use Rattle.bus_word.specs.declared.cell.Cell.TheVariants.{OwnMode}
use Rattle.bus_word.specs.Mode.{mode_row}
use Rattle.terminal_rules.specs.Reply.{words_after_status}

-- A data word follows the status of an own mode code exactly if the code goes with T/R 1 and has a word.
abbrev pub WordIsSent : Type 0
WordIsSent = (code : ℕ) (row : ModeRow) → mode_row code ≡ Some row → words_after_status (Some (OwnMode code)) ≡ (if row.transmit && row.word then 1 else 0)
