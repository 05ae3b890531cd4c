use Rattle.std.proofs.Common.{None, ◌∷◌, sym, subst}
use Rattle.recorded_terminal.specs.Ways.{AreQuiet, told_then}
use Rattle.terminal_rules.specs.declared.event.Event.TheVariants.{Gap}
use Rattle.recorded_terminal.proofs.WayLaws.{quiet_more}
use Rattle.recorded_terminal.proofs.way.Way.with_gap.Goals as goal

pub returns : goal.returns
returns g c P h at = record {
  follows = c.see.ensures.stands P h (c.copy-follower.ensures P h at.follows);
  quiet = subst (λ q. AreQuiet q P (Gap c.args.bus ∷ told_then P h c.args.status None)) (sym c.quiet_with.ensures) (quiet_more P h c.args.status None (Gap c.args.bus) c.args.self.now.quiet at.quiet);
}
