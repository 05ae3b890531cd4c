use Rattle.std.proofs.Common.{ap, sym, ◌∙◌}
use Rattle.bus_legal.proofs.TableSteps.{own_codes-bits, broadcast_codes-bits}
use Rattle.spare_entries.specs.inner.Codes.{may_be_legal}
use Rattle.spare_entries.proofs.modes.codes_of.Goals as goal

pub returns-in-Own : goal.returns-in-Own
returns-in-Own c = λ i l. own_codes-bits i l ∙ ap (λ table. may_be_legal table i) (sym c.in-Own.is)

pub returns-in-Broadcast : goal.returns-in-Broadcast
returns-in-Broadcast c = λ i l. broadcast_codes-bits i l ∙ ap (λ table. may_be_legal table i) (sym c.in-Broadcast.is)
