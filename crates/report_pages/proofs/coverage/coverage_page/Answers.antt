use Rattle.std.proofs.Common.{subst, option_map}
use Rattle.report_pages.specs.CoveragePage.{IsLegalPart, IsIllegalTable}
use Rattle.rt1553_report.proofs.TextLaws.{adds}
use Rattle.report_pages.proofs.coverage.coverage_page.Goals as goal

pub returns : goal.returns
returns c =
    let r = c.in_ok-push_read.ensures in
    let l = c.in_ok-push_legal_part.ensures in
    let i = c.in_ok-push_illegal_table.ensures in (
      _,
      r.0,
      l.0,
      i.0,
      r.1,
      subst (λ xs. IsLegalPart (option_map (λ n. n.now) c.args.names) xs l.0) c.as_slice-legal.ensures.value l.1,
      subst (λ xs. IsIllegalTable (option_map (λ n. n.now) c.args.names) xs i.0) c.as_slice.ensures.value i.1,
      adds (adds (adds (adds r.2 l.2) c.in_ok-push_markup.ensures) i.2) c.in_ok-push_markup-2.ensures,
    )
