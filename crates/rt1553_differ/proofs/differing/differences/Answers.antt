use Rattle.std.proofs.Common.{sym, ◌∙◌}
use Rattle.rt1553_differ.specs.Told.{possible}
use Rattle.rt1553_differ.proofs.NoneLaws.{equal_where_none, none_where_equal}
use Rattle.rt1553_differ.proofs.differing.differences.Goals as goal

pub returns-clause-none : goal.returns-clause-none
returns-clause-none c = (
  λ none. equal_where_none c.args.p.now c.args.q.now c.setup.ensures.normal c.setup-2.ensures.normal (sym c.in_ok-found.ensures ∙ none),
  λ same. c.in_ok-found.ensures ∙ none_where_equal c.args.p.now c.args.q.now possible same,
)
