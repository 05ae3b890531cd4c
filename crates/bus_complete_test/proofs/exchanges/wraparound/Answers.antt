use Rattle.std.proofs.Common.{◌∷◌, ◌++◌, [], map, ap, sym, ◌∙◌}
use Rattle.bus_legal.specs.Parts.{description_in}
use Rattle.bus_legal.specs.Tables.{masks_wrap}
use Rattle.terminal_exchanges.specs.Values.{exchange_in}
use Rattle.bus_complete_test.proofs.WrapLaws.{wraps_said, tried_back, tried_none}
use Rattle.bus_complete_test.proofs.exchanges.wraparound.Goals as goal

pub returns-then-can_wrap-clause-exchanges : goal.returns-then-can_wrap-clause-exchanges
returns-then-can_wrap-clause-exchanges c =
    ap (map exchange_in)
    (c.push-then-can_wrap.ensures.items
    ∙ ap (λ xs. xs ++ c.shortest_transmit.result ∷ []) (c.push.ensures.items ∙ ap (λ xs. xs ++ c.shortest_receive.result ∷ []) c.new-exchanges.ensures))
    ∙ tried_back (description_in c.args.p.now) c.args.subaddress c.shortest_receive.result c.shortest_transmit.result
    (wraps_said c.args.p.now c.args.subaddress c.requires.normal c.requires.low c.requires.high ∙ (ap (λ t. masks_wrap t c.args.subaddress) (sym c.tables.ensures) ∙ (sym c.can_wrap.ensures ∙ c.if-can_wrap.true)))
    c.shortest_receive.ensures.exchange c.shortest_transmit.ensures.exchange

pub returns-else-can_wrap-clause-exchanges : goal.returns-else-can_wrap-clause-exchanges
returns-else-can_wrap-clause-exchanges c =
    ap (map exchange_in) c.new-exchanges.ensures
    ∙ tried_none (description_in c.args.p.now) c.args.subaddress
    (wraps_said c.args.p.now c.args.subaddress c.requires.normal c.requires.low c.requires.high ∙ (ap (λ t. masks_wrap t c.args.subaddress) (sym c.tables.ensures) ∙ (sym c.can_wrap.ensures ∙ c.if-can_wrap.false)))
