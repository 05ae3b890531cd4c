use Rattle.std.proofs.Common.{ap, sym, ◌∙◌, ◌&&◌, nat_lt}
use Rattle.terminal_messages.proofs.state.MessageState.is_short.Goals as goal

pub returns-then-has_datum : goal.returns-then-has_datum
returns-then-has_datum c ds =
    ap (λ x. nat_lt c.args.count x) c.from.ensures ∙ ap (λ x. x && nat_lt c.args.count c.args.self.now.expected) (sym c.if-has_datum.true ∙ c.has_datum.ensures ds)

pub returns-else-has_datum : goal.returns-else-has_datum
returns-else-has_datum c ds =
    c.if-has_datum.false ∙ ap (λ x. x && nat_lt c.args.count c.args.self.now.expected) (sym c.if-has_datum.false ∙ c.has_datum.ensures ds)
