use Rattle.std.proofs.Common.{◌∙◌}
use Rattle.bus_terminal.proofs.ReceivedLaw.{receives_law}
use Rattle.bus_terminal.proofs.terminal.Terminal.receives.Goals as goal

pub returns : goal.returns
returns g c P h s = c.to_receive.ensures ∙ receives_law g.L.Legality.is_legal P h c.args.bus c.args.self.now s
