use Rattle.std.proofs.Common.{sym, ◌∙◌}
use Rattle.rt1553_import.proofs.SameLaws.{rules_same}
use Rattle.rt1553_import.proofs.same.are_same_rules.Goals as goal

pub returns : goal.returns
returns c = λ e. rules_same c.args.a.now c.args.b.now (sym c.eq.ensures ∙ e)
