use Rattle.std.proofs.Common.{◌∷◌, ◌++◌, []}
use Rattle.bus_legal.specs.Parts.{description_in}
use Rattle.terminal_exchanges.specs.Values.{exchange_in}
use Rattle.bus_complete_test.specs.Left.{exchanges_left}
use Rattle.rt1553_acceptance.proofs.PutLaws.{Puts-nil, Puts-trans, failed_as_before, tried_on}
use Rattle.rt1553_acceptance.proofs.writing.put_exchanges.Goals as goal

pub loop-exchange-init : goal.loop-exchange-init
loop-exchange-init g c =
    ([], Puts-nil g.L.Legality.is_legal g.W.Sink.written c.args.names.now (description_in c.args.p.now) c.args.terminal.now c.args.sink.now, c.new-exchanges.ensures.left, cc)

pub loop-exchange-preserved : goal.loop-exchange-preserved
loop-exchange-preserved g c =
    let i = c.loop-exchange.invariant in
    let here = exchange_in c.in-Some.exchange ∷ [] in (
      i.0 ++ here,
      Puts-trans i.1 c.in_ok-put_exchange.ensures.wrote,
      tried_on i.0 here (exchanges_left c.next.new.self) _ (exchanges_left c.loop-exchange.exchanges) c.in-Some.ensures.next i.2,
      failed_as_before _ _ _ i.3 c.in_ok-put_exchange.ensures.failed,
    )
