use Rattle.std.proofs.Common.{[]}
use Rattle.bus_legal.specs.Description.{Description, described}
use Rattle.recorded_terminal.specs.Watched.{Watches}
use Rattle.recorded_terminal.proofs.WayLaws.{if_ok}
use Rattle.recorded_terminal.proofs.watch.Watch.power_up.Goals as goal

pub returns : goal.returns
returns g c =
    let P : Description = described c.args.setup (g.L.Legality.is_legal c.args.legality) in
    if_ok c.from.result _ (Watches g.L.Legality.is_legal P [] []) (λ w x. x P [] c.args.setup.own_address c.power_up.ensures) c.from.ensures
