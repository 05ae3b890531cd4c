use Rattle.bus_canon.proofs.ApartLaws.{counts_at}
use Rattle.std.proofs.Common.{ap}
use Rattle.bus_canon.proofs.apart.hears_same.Goals as goal

pub returns : goal.returns
returns c =
    counts_at _ _ _ _ _ c.args.subaddress (ap (λ t. t.broadcast_receive) c.tables.ensures) (ap (λ t. t.broadcast_receive) c.tables-2.ensures) c.requires.first.broadcast_receive c.requires.second.broadcast_receive c.requires.low c.requires.high c.has_same_counts.ensures
