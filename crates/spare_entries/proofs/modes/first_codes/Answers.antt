use Rattle.std.proofs.Common.{ap, sym, ◌∙◌}
use Rattle.bus_legal.proofs.TableSteps.{required_codes-bits}
use Rattle.spare_entries.specs.inner.Codes.{is_first_legal}
use Rattle.spare_entries.proofs.modes.first_codes.Goals as goal

pub returns-in-Own : goal.returns-in-Own
returns-in-Own c = λ i l. required_codes-bits i l ∙ ap (λ table. is_first_legal table i) (sym c.in-Own.is)
