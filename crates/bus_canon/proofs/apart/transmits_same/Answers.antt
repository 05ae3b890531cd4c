use Rattle.bus_canon.proofs.ApartLaws.{counts_at}
use Rattle.std.proofs.Common.{ap}
use Rattle.bus_canon.proofs.apart.transmits_same.Goals as goal

pub returns : goal.returns
returns c =
    counts_at _ _ _ _ _ c.args.subaddress (ap (λ t. t.own_transmit) c.tables.ensures) (ap (λ t. t.own_transmit) c.tables-2.ensures) c.requires.first.own_transmit c.requires.second.own_transmit c.requires.low c.requires.high c.has_same_counts.ensures
