use Rattle.std.proofs.Common.{◌∙◌, ◌++◌, ap, sym}
use Rattle.bus_legal.specs.Parts.{description_in}
use Rattle.bus_complete_test.specs.Left.{exchanges_left}
use Rattle.terminal_exchanges.specs.Values.{exchange_in}
use Rattle.rt1553_results.specs.Results.{answer}
use Rattle.rt1553_results.specs.Compare.{missing_at, numbers_in}
use Rattle.rt1553_results.proofs.ExplainedLaws.{counted_none, counted_more, counted_all}
use Rattle.rt1553_results.proofs.explaining.count_given.Goals as goal

pub loop-exchange-init : goal.loop-exchange-init
loop-exchange-init c = (
  sym c.new-exchanges.ensures.given,
  counted_none (description_in c.args.normal.now) (answer c.args.results.now) c.new-exchanges.result.given (exchanges_left c.new-exchanges.result) c.new-missing.result.items
      c.new-exchanges.ensures.given c.new-exchanges.ensures.left c.new-missing.ensures.items,
)

pub loop-exchange-preserved : goal.loop-exchange-preserved
loop-exchange-preserved c =
    let came = answer c.args.results.now in (
      c.given-total.ensures,
      counted_more (description_in c.args.normal.now) came c.loop-exchange.exchanges.given c.next.new.self.given (exchange_in c.in-Some._exchange) (exchanges_left c.loop-exchange.exchanges)
          (exchanges_left c.next.new.self) c.loop-exchange.missing.items c.miss_unless_given.new.missing.items c.in-Some.ensures.next c.in-Some.ensures.given
          (c.in_ok-miss_unless_given.ensures ∙ ap (λ n. numbers_in c.loop-exchange.missing.items ++ missing_at n (came n)) c.given-total.ensures) c.loop-exchange.invariant.1,
    )

pub returns : goal.returns
returns c =
    let i = c.loop-exchange.invariant in
    let all = counted_all (description_in c.args.normal.now) (answer c.args.results.now) c.loop-exchange.exchanges.given (exchanges_left c.loop-exchange.exchanges) c.loop-exchange.missing.items
    c.in_default.ensures.next i.1 in
    (i.0 ∙ all.0, all.1)
