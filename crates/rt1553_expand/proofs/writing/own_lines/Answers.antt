use Rattle.std.proofs.Common.{length, ap, arith}
use Rattle.rt1553_expand.specs.Events.{own_events}
use Rattle.rt1553_expand.proofs.writing.own_lines.Goals as goal

pub returns-in-Some-clause-value : goal.returns-in-Some-clause-value
returns-in-Some-clause-value c bus = omega (arith, c.end_lines.ensures.value bus, ap (λ s. length (own_events bus s)) c.in-Some.is)
