use Rattle.std.proofs.Common.{sym, ◌∙◌}
use Rattle.rt1553_import.proofs.SameLaws.{modes_same}
use Rattle.rt1553_import.proofs.same.are_same_modes.Goals as goal

pub returns : goal.returns
returns c = λ e. modes_same c.args.a.now c.args.b.now (sym c.eq.ensures ∙ e)
