use Rattle.std.proofs.Common.{◌≡◌, ◌≤◌, ◌+◌, ◌*◌, ◌++◌, take}
use Rattle.std.specs.List.{flat_map}
use Rattle.arrayvec.specs.ArrayString.{array_string_len}
use Rattle.rt1553_expand.specs.Gathered.{spaced_word}
use Rattle.rt1553_expand.proofs.spelling.push_data_words.Given as goal

abbrev pub invariant-loop-word : goal.invariant-loop-word
invariant-loop-word l = (l.line.bytes ≡ l.fn.line.bytes ++ flat_map spaced_word (take l.word-index l.words)) × (array_string_len l.line ≤ array_string_len l.fn.line + 5 * l.word-index)
