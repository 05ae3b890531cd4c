use Rattle.std.proofs.Common.{◌≡◌, length}
use Rattle.rt1553_results.specs.Results.{words_said}
use Rattle.rt1553_results.proofs.FieldLaws.{behind}
use Rattle.rt1553_results.proofs.fields.read_words.Given as goal

abbrev pub invariant-loop-rest : goal.invariant-loop-rest
invariant-loop-rest l = behind l.words.items (words_said l.rest) ≡ words_said l.field

abbrev pub decreases-loop-rest : goal.decreases-loop-rest
decreases-loop-rest l = length l.rest
