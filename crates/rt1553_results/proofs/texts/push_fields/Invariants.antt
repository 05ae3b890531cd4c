use Rattle.std.proofs.Common.{◌≡◌, ◌++◌, take, flat_map}
use Rattle.script_lines.specs.Transcript.{word_field}
use Rattle.rt1553_results.proofs.texts.push_fields.Given as goal

abbrev pub invariant-loop-word : goal.invariant-loop-word
invariant-loop-word l = l.text.items ≡ l.fn.text.items ++ flat_map word_field (take l.word-index l.words)
