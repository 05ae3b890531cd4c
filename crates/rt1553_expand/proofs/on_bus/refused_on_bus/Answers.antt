use Rattle.std.proofs.Common.{◌∙◌, ap, arith, map, sym}
use Rattle.script_lines.specs.Text.{lines_of}
use Rattle.rt1553_expand.specs.OnBus.{bus_refusal_of}
use Rattle.rt1553_expand.proofs.OnBusLaws.{bus_refusals-on, bus_refusals-all, all-expanded}
use Rattle.rt1553_expand.proofs.on_bus.refused_on_bus.Goals as goal

pub loop-rest-preserved : goal.loop-rest-preserved
loop-rest-preserved c = (
  omega (arith, c.loop-rest.invariant.0, c.first_line.ensures.shorter),
  bus_refusals-on c.args.own.now c.loop-rest.number c.loop-rest.rest.now c.first_line.result.0.now c.first_line.result.1.now _ _ _ c.first_line.ensures.lines c.in_ok-push_refused.ensures c.loop-rest.invariant.1,
)

pub returns-clause-lines : goal.returns-clause-lines
returns-clause-lines c = bus_refusals-all c.args.own.now c.loop-rest.number c.loop-rest.rest.now _ _ (grind arith) c.loop-rest.invariant.1

pub returns-clause-expanded : goal.returns-clause-expanded
returns-clause-expanded c = λ none.
    all-expanded c.args.own.now 1 (lines_of c.args.text.now)
    (sym (bus_refusals-all c.args.own.now c.loop-rest.number c.loop-rest.rest.now _ _ (grind arith) c.loop-rest.invariant.1) ∙ ap (map bus_refusal_of) none)
