use Rattle.std.proofs.Common.{◌∙◌, refl, subst}
use Rattle.report_pages.specs.CoveragePage.{AreRowsOf}
use Rattle.report_pages.specs.ResultsPage.{IsClauseLine, IsScriptRow}
use Rattle.rt1553_report.specs.Shown.{StandsFor}
use Rattle.rt1553_report.proofs.TextLaws.{adds, adds_on_ok, chosen}
use Rattle.report_pages.proofs.page.push_script.Goals as goal

pub returns : goal.returns
unfolding IsScriptRow
returns c =
    let file = c.in_ok-push_shown.ensures in
    let profile = c.in_ok-push_profile_field.ensures in
    let clauses = c.in_ok-push_clause_lines.ensures in
    chosen c.push_markup-5.result (IsScriptRow c.args.of.now) _ _ _ (
      file.0,
      profile.0,
      clauses.0,
      subst (λ bytes. StandsFor bytes file.0) (c.as_bytes.ensures.value ∙ c.as_str.ensures.value) file.1,
      profile.1,
      subst (λ xs. AreRowsOf (λ c. IsClauseLine c.items) xs clauses.0) c.as_slice.ensures.value clauses.1,
      refl,
    )
    (adds_on_ok c.push_markup-5.result _ _
    (adds (adds (adds (adds (adds (adds (adds (adds (adds c.in_ok-push_markup.ensures file.2) c.in_ok-push_markup-2.ensures) profile.2) c.in_ok-push_verdict.ensures)
    c.in_ok-push_count.ensures) c.in_ok-push_markup-3.ensures) clauses.2) c.in_ok-push_markup-4.ensures) c.in_ok-push_digest_field.ensures)
    c.push_markup-5.ensures)
