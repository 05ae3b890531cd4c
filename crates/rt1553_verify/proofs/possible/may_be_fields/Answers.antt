use Rattle.std.proofs.Common.{◌∙◌, sym, arith}
use Rattle.rt1553_verify.proofs.PossibleLaws.{fields-next, fields-end}
use Rattle.rt1553_verify.proofs.possible.may_be_fields.Goals as goal

pub returns-in-None : goal.returns-in-None
returns-in-None c = sym (sym c.loop-fields.invariant ∙ fields-end c.args.masked c.loop-fields.fields.now (grind arith) (sym c.in-None.ensures.value))

pub loop-fields-preserved : goal.loop-fields-preserved
loop-fields-preserved c = sym (fields-next c.args.masked c.loop-fields.fields.now _ (sym c.in-Some.ensures.value)) ∙ c.loop-fields.invariant
