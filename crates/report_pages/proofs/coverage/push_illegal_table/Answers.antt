use Rattle.std.proofs.Common.{option_map}
use Rattle.report_pages.specs.CoveragePage.{IsIllegalTable}
use Rattle.rt1553_report.proofs.TextLaws.{adds, adds_on_ok, chosen}
use Rattle.report_pages.proofs.RowLaws.{listed_table}
use Rattle.report_pages.proofs.coverage.push_illegal_table.Goals as goal

pub returns : goal.returns
returns c =
    let r = c.in_ok-push_illegal_rows.ensures in
    chosen c.push_markup-2.result (IsIllegalTable (option_map (λ n. n.now) c.args.names) c.args.illegal.now) _ _ _ (listed_table (option_map (λ n. n.now) c.args.names) c.args.illegal.now r.0 c.if-is_empty.ensures r.1)
    (adds_on_ok c.push_markup-2.result _ _
    (adds c.in_ok-push_table_head.ensures r.2)
    c.push_markup-2.ensures)
