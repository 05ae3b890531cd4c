use Rattle.std.proofs.Common.{◌∙◌}
use Rattle.terminal_schedules.specs.inner.Kept.{left_by}
use Rattle.terminal_schedules.proofs.LeftLaw.{left_law}
use Rattle.terminal_schedules.proofs.left.left_behind.Goals as goal

pub returns : goal.returns
returns g c P h s =
    c.left_by.ensures
    ∙ (λ j. left_by (c.kept-kept.ensures.in_progress j) (c.kept-kept.ensures.heard j) (c.kept-kept.ensures.reply j) (c.kept-kept.ensures.registers j))
    ∙ left_law g.L.Legality.is_legal P h c.args.terminal.now s
