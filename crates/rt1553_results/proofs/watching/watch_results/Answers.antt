use Rattle.std.proofs.Common.{◌∙◌, [], refl, sym, ap, subst}
use Rattle.bus_legal.specs.Parts.{description_in}
use Rattle.bus_legal.specs.Tables.{tables_say}
use Rattle.bus_legal.proofs.NormalLaws.{set_up_normal}
use Rattle.terminal_exchanges.specs.Values.{exchange_in}
use Rattle.bus_complete_test.specs.Left.{exchanges_left}
use Rattle.recorded_terminal.specs.Watched.{Watches}
use Rattle.rt1553_results.specs.Recorded.{slots_of}
use Rattle.rt1553_results.specs.Results.{answer}
use Rattle.rt1553_results.specs.inner.Placed.{Sees, placed_exchange}
use Rattle.rt1553_results.proofs.RepliedLaws.{seen_none, seen_more, seen_to_end, seen_to_missing}
use Rattle.rt1553_results.proofs.watching.watch_results.Goals as goal

pub loop-exchange-init : goal.loop-exchange-init
loop-exchange-init c = seen_none (description_in c.args.normal.now) (answer c.args.results.now) c.new-exchanges.result.given (exchanges_left c.new-exchanges.result) c.in_ok-watch.watch c.new-exchanges.ensures.given c.new-exchanges.ensures.left

pub loop-exchange-preserved : goal.loop-exchange-preserved
loop-exchange-preserved c =
    let came = answer c.args.results.now in
    let n = c.next.new.self.given in
    seen_more (description_in c.args.normal.now) came c.loop-exchange.exchanges.given n (exchange_in c.in-Some.exchange) (exchanges_left c.loop-exchange.exchanges) (exchanges_left c.next.new.self)
    c.in-Some-reply.reply.now c.in_ok-watch.watch c.loop-exchange.watch c.see_exchange.new.watch c.in-Some.ensures.next c.in-Some.ensures.given
    (ap came (sym c.given-number.ensures) ∙ sym c.in-Some-reply.ensures.reply)
    (subst (λ n. Sees (placed_exchange n (exchange_in c.in-Some.exchange) (slots_of (record { exchange = exchange_in c.in-Some.exchange; reply = c.in-Some-reply.reply.now }))) c.loop-exchange.watch c.see_exchange.new.watch)
    c.given-number.ensures c.in_ok-see_exchange.ensures)
    c.loop-exchange.invariant

pub returns-in_default-reply : goal.returns-in_default-reply
returns-in_default-reply c =
    let came = answer c.args.results.now in
    seen_to_missing (description_in c.args.normal.now) came c.loop-exchange.exchanges.given c.next.new.self.given (exchange_in c.in-Some.exchange) (exchanges_left c.loop-exchange.exchanges)
    (exchanges_left c.next.new.self) c.in_ok-watch.watch c.loop-exchange.watch c.in-Some.ensures.next c.in-Some.ensures.given
    (ap came (sym c.given-number.ensures) ∙ sym c.in_default-reply.ensures.reply)
    ([], refl, tt, subst (λ Q. Watches (λ normal. tables_say normal.tables) Q [] [] c.in_ok-watch.watch) (set_up_normal c.args.normal.now c.setup.result c.setup.ensures.parts) c.in_ok-watch.ensures)
    c.loop-exchange.invariant

pub returns : goal.returns
returns c =
    seen_to_end (description_in c.args.normal.now) (answer c.args.results.now) c.loop-exchange.exchanges.given (exchanges_left c.loop-exchange.exchanges) c.in_ok-watch.watch c.loop-exchange.watch
    c.in_default.ensures.next
    ([], refl, tt, subst (λ Q. Watches (λ normal. tables_say normal.tables) Q [] [] c.in_ok-watch.watch) (set_up_normal c.args.normal.now c.setup.result c.setup.ensures.parts) c.in_ok-watch.ensures)
    c.loop-exchange.invariant
