use Rattle.std.proofs.Common.{sym, ◌∙◌}
use Rattle.std.specs.Option.{option_map}
use Rattle.terminal_messages.specs.State.{facts_in}
use Rattle.terminal_messages.specs.View.{closed_view}
use Rattle.terminal_messages.specs.Shown.{shown_slot}
use Rattle.terminal_messages.proofs.Choice.{if_true, if_false}
use Rattle.terminal_messages.proofs.fold.take_on.Goals as goal

pub returns-then-closes-clause-closed : goal.returns-then-closes-clause-closed
returns-then-closes-clause-closed c ds =
    c.closed_message-closed.ensures ds
    ∙ (λ j. option_map (closed_view (facts_in c.args.seen.now ds)) (shown_slot (c.take.ensures.value j)))
    ∙ if_true _ _ (sym (c.closes.ensures ds) ∙ c.if-closes.true)

pub returns-then-closes-clause-kept : goal.returns-then-closes-clause-kept
returns-then-closes-clause-kept c ds = c.begun_on.ensures ds ∙ if_true _ _ (sym (c.closes.ensures ds) ∙ c.if-closes.true)

pub returns-clause-closed : goal.returns-clause-closed
returns-clause-closed c ds = if_false _ _ (sym (c.closes.ensures ds) ∙ c.if-closes.false)

pub returns-clause-kept : goal.returns-clause-kept
returns-clause-kept c ds = c.add_on.ensures ds ∙ if_false _ _ (sym (c.closes.ensures ds) ∙ c.if-closes.false)
