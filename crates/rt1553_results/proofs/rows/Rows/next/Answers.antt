use Rattle.std.proofs.Common.{◌+◌, ◌∙◌, sym, ap, ◌∷◌, refl}
use Rattle.terminal_exchanges.specs.Values.{exchange_in}
use Rattle.bus_complete_test.specs.Left.{exchanges_left}
use Rattle.rt1553_results.specs.Rows.{after_exchange, rows_from}
use Rattle.rt1553_results.proofs.RowLaws.{next_row, no_row}
use Rattle.rt1553_results.proofs.rows.Rows.next.Goals as goal

pub returns-in_err-exchange-clause-next : goal.returns-in_err-exchange-clause-next
returns-in_err-exchange-clause-next c n left is =
    rw c.from_residual.ensures (no_row is.description is.history (exchanges_left c.args.self.now.exchanges) left c.in_err-exchange.ensures.next is.rest)

pub returns-clause-next : goal.returns-clause-next
returns-clause-next c n left is =
    let x = exchange_in c.in_ok-exchange.exchange in
    let P = is.description in
    let h = is.history in
    let rest = exchanges_left c.next.new.self in
    let row = c.play_exchange.ensures.row P h is.stands in (
      c.play_exchange.ensures.number ∙ (c.given-number.ensures ∙ (c.in_ok-exchange.ensures.given ∙ is.number)),
      (
        rows_from P (after_exchange x h) rest,
        next_row P h x (exchanges_left c.args.self.now.exchanges) rest left c.in_ok-exchange.ensures.next is.rest ∙ ap (λ r. r ∷ rows_from P (after_exchange x h) rest) (sym row),
        record {
          description = P;
          history = after_exchange x h;
          stands = c.play_exchange.ensures.stands P h is.stands;
          rest = refl;
          number = ap (λ k. k + 1) (c.in_ok-exchange.ensures.given ∙ is.number);
        },
      ),
    )
