use Rattle.report_pages.specs.ResultsPage.{IsClauseLine}
use Rattle.report_pages.proofs.RowLaws.{next_row}
use Rattle.report_pages.proofs.page.push_clause_lines.Goals as goal

pub loop-clause-preserved : goal.loop-clause-preserved
loop-clause-preserved c =
    next_row (λ c. IsClauseLine c.items) c.args.clauses.now c.loop-clause.clause-index _ _ _ _ c.loop-clause-test.true c.loop-clause.invariant (rw c.clause-item.is at c.in_ok-push_clause.ensures)
