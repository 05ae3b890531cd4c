use Rattle.std.proofs.Common.{refl, subst}
use Rattle.report_pages.specs.ResultsPage.{IsClauseLine}
use Rattle.rt1553_report.specs.Shown.{StandsFor}
use Rattle.rt1553_report.proofs.TextLaws.{adds_on_ok, chosen}
use Rattle.report_pages.proofs.page.push_clause.Goals as goal

pub returns : goal.returns
returns c =
    let s = c.in_ok-push_shown.ensures in
    chosen c.push_markup.result (IsClauseLine c.args.clause.now.items) _ _ _ (s.0, subst (λ bytes. StandsFor bytes s.0) c.as_slice.ensures.value s.1, refl)
    (adds_on_ok c.push_markup.result _ _ s.2 c.push_markup.ensures)
