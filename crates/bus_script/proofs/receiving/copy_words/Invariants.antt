use Rattle.std.proofs.Common.{ℕ, List, ◌≡◌, ◌+◌, ◌*◌, ◌++◌, length, drop, flat_map}
use Rattle.arrayvec.specs.ArrayString.{array_string_len}
use Rattle.bus_terminal.specs.Received.{data_words_on}
use Rattle.script_lines.specs.Transcript.{word_field}
use Rattle.bus_script.specs.inner.Lines.{LinesFirst}
use Rattle.bus_script.proofs.receiving.copy_words.Given as goal

abbrev pub invariant-loop : goal.invariant-loop
invariant-loop l = (ds : List ℕ) × (length ds ≡ l.counter) × LinesFirst l.bytes (9 * l.counter) l.counter (data_words_on l.bus ds) × (l.rest ≡ drop (9 * l.counter) l.bytes)
    × (l.text.bytes ≡ l.fn.text.bytes ++ flat_map word_field ds) × (array_string_len l.text ≡ array_string_len l.fn.text + 5 * l.counter)
