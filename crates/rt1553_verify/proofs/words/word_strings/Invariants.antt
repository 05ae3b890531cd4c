use Rattle.std.proofs.Common.{◌≡◌, map, take}
use Rattle.std.specs.String.{string_bytes}
use Rattle.script_lines.specs.Digits.{digits_of}
use Rattle.rt1553_verify.proofs.words.word_strings.Given as goal

abbrev pub invariant-loop-word : goal.invariant-loop-word
invariant-loop-word l = map string_bytes l.list.items ≡ map digits_of (take l.word-index l.words)
