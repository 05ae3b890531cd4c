use Rattle.std.proofs.Common.{sym, subst, ◌∙◌}
use Rattle.terminal_messages.specs.State.{facts_in}
use Rattle.terminal_messages.specs.Fold.{FoldSteps}
use Rattle.terminal_messages.proofs.fold.MessageFold.step.Goals as goal

pub returns-then-can_close : goal.returns-then-can_close
returns-then-can_close c ds = subst (λ p. FoldSteps (facts_in c.args.seen.now ds) c.args.seen.now.is_ignored p c.args.self.now c.take.new.self c.take.result) (c.part-part.ensures ds) (c.take.ensures ds)

pub returns-else-can_close : goal.returns-else-can_close
returns-else-can_close c ds =
    subst (λ p. FoldSteps (facts_in c.args.seen.now ds) c.args.seen.now.is_ignored p c.args.self.now c.go_on.new.self c.go_on.result) (c.part-part.ensures ds)
    (c.go_on.ensures ds (sym c.can_close.ensures ∙ c.if-can_close.false))
