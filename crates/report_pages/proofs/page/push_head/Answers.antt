use Rattle.std.proofs.Common.{refl}
use Rattle.report_pages.specs.ResultsPage.{AreHeadRows, IsNamesRow}
use Rattle.rt1553_report.proofs.TextLaws.{adds, last_piece}
use Rattle.report_pages.proofs.page.push_head.Goals as goal

pub returns : goal.returns
returns c =
    let program = c.in_ok-push_file_row.ensures in
    let toolchain = c.in_ok-push_file_row-2.ensures in
    let canonical = c.in_ok-push_file_row-3.ensures in
    let date = c.in_ok-push_date.ensures in
    last_piece c.push_names.result (IsNamesRow c.args.head.names) (AreHeadRows c.args.head) _
    (λ names is. (program.0, toolchain.0, canonical.0, date.0, names, program.1, toolchain.1, canonical.1, date.1, is, refl))
    (adds (adds (adds program.2 toolchain.2) canonical.2) date.2)
    c.push_names.ensures
