-- The data word that goes with an own mode code.
use Rattle.std.proofs.Common.{Bool, ◌&&◌, if◌then◌else◌, refl, ap}
use Rattle.bus_word.specs.Mode.{ModeEntry, mode_table}
use Rattle.bus_word.specs.Cell.{same_bool}
use Rattle.bus_word.proofs.ModeLaws.{passes_in, same_bool-true}
use Rattle.terminal_rules.specs.Reply.{has_word}
use Rattle.terminal_rules.specs.ReplyLaws.{WordIsSent}

abbrev is_sent_where_transmitted : ModeEntry → Bool
is_sent_where_transmitted e = same_bool (has_word e.code) (e.row.transmit && e.row.word)

pub word_is_sent : WordIsSent
word_is_sent code row is =
    ap (λ b. if b then 1 else 0) (same_bool-true (has_word code) (row.transmit && row.word) (passes_in is_sent_where_transmitted mode_table code row refl is))
