use Rattle.report_pages.specs.ResultsPage.{IsScriptRow}
use Rattle.report_pages.proofs.RowLaws.{next_row}
use Rattle.report_pages.proofs.page.push_scripts.Goals as goal

pub loop-of-preserved : goal.loop-of-preserved
loop-of-preserved c =
    next_row IsScriptRow c.args.results.now c.loop-of.of-index _ _ _ _ c.loop-of-test.true c.loop-of.invariant (rw c.of-item.is at c.in_ok-push_script.ensures)
