use Rattle.std.proofs.Common.{[], subst, arith}
use Rattle.bus_legal.specs.Parts.{description_in}
use Rattle.bus_legal.specs.Tables.{tables_say}
use Rattle.bus_legal.proofs.NormalLaws.{set_up_normal}
use Rattle.bus_terminal.specs.Stands.{StandsAt}
use Rattle.rt1553_acceptance.proofs.AnswerLaws.{left-on, left-all}
use Rattle.rt1553_acceptance.proofs.answering.script_answered.Goals as goal

pub loop-rest-init : goal.loop-rest-init
loop-rest-init c = record {
  h = [];
  at = subst (λ P. StandsAt (λ normal. tables_say normal.tables) P [] c.power_up-terminal.result)
      (set_up_normal c.args.normal.now c.setup-setup.result c.setup-setup.ensures.parts) c.power_up-terminal.ensures.stands;
  all = cc;
  fit = λ fits. fits;
}

pub loop-rest-preserved : goal.loop-rest-preserved
loop-rest-preserved c =
    let i = c.loop-rest.invariant in
    left-on i c.first_line.result.0.now c.first_line.result.1.now c.first_line.ensures.lines
    (c.in_ok-push_answered.ensures (description_in c.args.normal.now) i.h i.at)

pub returns : goal.returns
returns c = left-all c.loop-rest.rest.now (grind arith) c.loop-rest.invariant
