use Rattle.std.proofs.Common.{ap, sym, ◌∙◌, if◌then◌else◌, Some}
use Rattle.terminal_messages.specs.declared.ending.Unsent.TheVariants.{Dropped}
use Rattle.terminal_messages.proofs.state.MessageState.unsent_closed.Goals as goal

pub returns-then-drops : goal.returns-then-drops
returns-then-drops c ds = ap (λ x. if x then Some Dropped else c.args.self.now.unsent) (sym c.if-drops.true ∙ c.drops.ensures ds)

pub returns-else-drops : goal.returns-else-drops
returns-else-drops c ds = ap (λ x. if x then Some Dropped else c.args.self.now.unsent) (sym c.if-drops.false ∙ c.drops.ensures ds)
