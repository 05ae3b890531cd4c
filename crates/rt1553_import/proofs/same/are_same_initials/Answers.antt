use Rattle.std.proofs.Common.{sym, ◌∙◌}
use Rattle.rt1553_import.proofs.SameLaws.{initials_same}
use Rattle.rt1553_import.proofs.same.are_same_initials.Goals as goal

pub returns : goal.returns
returns c = λ e. initials_same c.args.a.now c.args.b.now (sym c.eq.ensures ∙ e)
