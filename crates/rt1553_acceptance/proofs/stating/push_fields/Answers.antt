use Rattle.std.proofs.Common.{arith}
use Rattle.std.proofs.lemmas.List.{drop_all}
use Rattle.rt1553_acceptance.proofs.FieldSteps.{fields_end}
use Rattle.rt1553_acceptance.proofs.stating.push_fields.Goals as goal

pub returns : goal.returns
returns c = fields_end c.loop-word.room c.loop-word.text.bytes _ _ _ (drop_all c.loop-word.word-index c.args.words.now (omega (arith, c.loop-word-test.false))) c.push_str.ensures.bytes c.loop-word.invariant.text
