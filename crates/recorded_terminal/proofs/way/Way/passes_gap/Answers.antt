use Rattle.std.proofs.Common.{◌∙◌, sym}
use Rattle.recorded_terminal.proofs.WayLaws.{passes}
use Rattle.recorded_terminal.proofs.way.Way.passes_gap.Goals as goal

pub returns-in-None : goal.returns-in-None
returns-in-None g c e P h at = passes g.L.Legality.is_legal P h c.args.bus c.args.self.now at (sym c.on.ensures ∙ e) (sym (c.awaits_status.ensures P h at.follows) ∙ c.in-None.is)
