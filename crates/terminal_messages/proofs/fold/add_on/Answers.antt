use Rattle.std.proofs.Common.{Some, ap, sym, ◌∙◌}
use Rattle.std.specs.Option.{option_map}
use Rattle.terminal_messages.specs.State.{facts_in}
use Rattle.terminal_messages.specs.View.{added_view}
use Rattle.terminal_messages.specs.Shown.{shown_slot}
use Rattle.terminal_messages.proofs.Choice.{if_true, if_false}
use Rattle.terminal_messages.proofs.fold.add_on.Goals as goal

pub returns-in-Some : goal.returns-in-Some
returns-in-Some c ds =
    (λ j. Some (c.add.ensures ds j))
    ∙ ap (λ o. option_map (added_view c.args.own (facts_in c.args.seen.now ds) c.args.part) (shown_slot o)) (sym c.in-Some.is)
    ∙ if_true _ _ (sym (c.concerns.ensures ds) ∙ c.if-concerns.true)

pub returns-else-concerns : goal.returns-else-concerns
returns-else-concerns c ds = if_false _ _ (sym (c.concerns.ensures ds) ∙ c.if-concerns.false)
