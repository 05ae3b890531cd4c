use Rattle.rt1553_lint.proofs.Told.{finds_same}
use Rattle.rt1553_lint.proofs.linting.lint_table.Goals as goal

pub returns-clause-found : goal.returns-clause-found
returns-clause-found c = finds_same _ _ _ _ c.in_ok-placed.ensures.subjects c.in_ok-found.ensures
