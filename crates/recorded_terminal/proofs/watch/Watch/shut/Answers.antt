use Rattle.std.proofs.Common.{[]}
use Rattle.bus_legal.specs.Description.{Description, described}
use Rattle.terminal_recordings.specs.Later.{shut_history}
use Rattle.recorded_terminal.specs.Follows.{shut_down}
use Rattle.recorded_terminal.specs.Watched.{Watches}
use Rattle.recorded_terminal.proofs.WayLaws.{if_ok}
use Rattle.recorded_terminal.proofs.watch.Watch.shut.Goals as goal

pub returns : goal.returns
returns g c =
    let P : Description = described c.args.setup (g.L.Legality.is_legal c.args.legality) in
    let h = shut_history P (shut_down c.args.shut) in
    if_ok c.from.result _ (Watches g.L.Legality.is_legal P h []) (λ w x. x P h c.args.setup.own_address c.shut.ensures) c.from.ensures
