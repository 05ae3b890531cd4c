-- Which words a reply can send.
use Rattle.std.specs.Prelude.{ℕ, Bool, true, Option, Some}
use Rattle.bus_word.specs.declared.cell.Cell.{Cell}
use Rattle.bus_word.specs.declared.cell.Cell.TheVariants.{OwnTransmit}
use Rattle.bus_word.specs.Cell.{is_data_place}
use Rattle.terminal_rules.specs.Reply.{words_after_status}

-- the data words of a reply, m of them, are those of places that can be read
abbrev pub has_place : Option Cell → ℕ → Bool
has_place (Some (OwnTransmit s n)) m = is_data_place s m
has_place _ m = true

-- so are those that follow the status, by the cell of what was done
abbrev pub can_reply : Option Cell → Bool
can_reply cell = has_place cell (words_after_status cell)
