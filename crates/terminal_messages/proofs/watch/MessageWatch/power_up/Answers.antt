use Rattle.std.proofs.Common.{refl}
use Rattle.bus_legal.specs.Description.{described}
use Rattle.terminal_messages.proofs.watch.MessageWatch.power_up.Goals as goal

pub returns : goal.returns
returns g c at = record {
  terminal = c.power_up.ensures.stands;
  fold = c.none.ensures (described c.args.setup (g.L.Legality.is_legal c.args.legality)) at refl refl;
}
