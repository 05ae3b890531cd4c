use Rattle.std.proofs.Common.{◌-◌, ap, refl}
use Rattle.terminal_exchanges.specs.Values.{exchange_in}
use Rattle.terminal_exchanges.proofs.ShortestLaws.{own_shortest, broadcast_shortest}
use Rattle.terminal_exchanges.proofs.shortest.shortest_receive.Goals as goal

pub returns-then-tables-index-ne0-clause-exchange : goal.returns-then-tables-index-ne0-clause-exchange
returns-then-tables-index-ne0-clause-exchange c =
    own_shortest c.args.p.now c.requires.normal c.tables-tables.result.now (c.from-index.result - 1) c.address.result c.args.subaddress
    c.tables-tables.ensures (ap (λ s. s - 1) c.from-index.ensures) c.requires.low c.requires.high c.address.ensures
    c.initial.result.now c.least_count-count.result (exchange_in c.receive.result)
    c.initial.ensures c.if-tables-index-ne0.true c.least_count-count.ensures.count c.receive.ensures.exchange

pub returns-else-tables-index-ne0-clause-exchange : goal.returns-else-tables-index-ne0-clause-exchange
returns-else-tables-index-ne0-clause-exchange c =
    broadcast_shortest c.args.p.now c.requires.normal c.tables-tables.result.now (c.from-index.result - 1) c.args.p.now.address c.args.subaddress
    c.tables-tables.ensures (ap (λ s. s - 1) c.from-index.ensures) c.requires.low c.requires.high refl
    c.initial.result.now c.least_count-count-else-tables-index-ne0.result (exchange_in c.receive-else-tables-index-ne0.result)
    c.initial.ensures c.if-tables-index-ne0.false c.least_count-count-else-tables-index-ne0.ensures.count c.receive-else-tables-index-ne0.ensures.exchange
