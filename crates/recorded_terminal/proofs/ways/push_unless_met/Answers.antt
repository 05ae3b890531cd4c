use Rattle.std.proofs.Common.{refl, inr, subst}
use Rattle.recorded_terminal.specs.Ways.{AnyOf, WaysHaveMet}
use Rattle.recorded_terminal.proofs.ways.push_unless_met.Goals as goal

pub returns-then-have_met-clause-keeps : goal.returns-then-have_met-clause-keeps
returns-then-have_met-clause-keeps g c = inr (refl, subst (AnyOf (WaysHaveMet g.L.Legality.is_legal c.args.way)) c.as_slice.ensures.value (c.have_met.ensures c.if-have_met.true))
