use Rattle.std.proofs.Common.{◌≡◌, subst, IfSome}
use Rattle.script_lines.specs.Text.{lines_of}
use Rattle.bus_script.specs.Reading.{reading, adds, nothing}
use Rattle.rt1553_expand.proofs.PieceLaws.{gives-back}
use Rattle.rt1553_expand.proofs.gathering.gather.Goals as goal

pub returns-in_ok-lines_of_events-in-Some-clause-back : goal.returns-in_ok-lines_of_events-in-Some-clause-back
returns-in_ok-lines_of_events-in-Some-clause-back c =
    gives-back c.args.own.now _ _ _ _ c.in_ok-lines_of_events-in-Some.ensures c.as_slice.ensures.value
    (subst (λ o. IfSome o (λ events. reading 0 (lines_of c.args.script.now) ≡ adds events.items nothing)) c.in-Some.is c.in_ok-events.ensures.some)
