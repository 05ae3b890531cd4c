use Rattle.report_pages.specs.ResultsPage.{IsProfileRow}
use Rattle.report_pages.proofs.RowLaws.{next_row}
use Rattle.report_pages.proofs.page.push_profiles.Goals as goal

pub loop-profile-preserved : goal.loop-profile-preserved
loop-profile-preserved c =
    next_row IsProfileRow c.args.profiles.now c.loop-profile.profile-index _ _ _ _ c.loop-profile-test.true c.loop-profile.invariant c.in_ok-push_profile.ensures
