use Rattle.std.proofs.Common.{◌-◌, ap}
use Rattle.terminal_exchanges.specs.Values.{exchange_in}
use Rattle.terminal_exchanges.proofs.ShortestLaws.{transmit_shortest}
use Rattle.terminal_exchanges.proofs.shortest.shortest_transmit.Goals as goal

pub returns-clause-exchange : goal.returns-clause-exchange
returns-clause-exchange c =
    transmit_shortest c.args.p.now c.requires.normal c.tables.result.now (c.from-index.result - 1) c.address.result c.args.subaddress
    c.tables.ensures (ap (λ s. s - 1) c.from-index.ensures) c.requires.low c.requires.high c.address.ensures
    c.least_count-count.result (exchange_in c.transmit.result) c.least_count-count.ensures.count c.transmit.ensures.exchange
