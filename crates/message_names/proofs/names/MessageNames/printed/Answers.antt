use Rattle.std.proofs.Common.{◌∙◌, map, ap, arith}
use Rattle.std.proofs.lemmas.List.Elements.{All-map}
use Rattle.rt1553_files.specs.Printable.{PrintsOnOneLine}
use Rattle.message_names.specs.NameRow.{NameRow}
use Rattle.message_names.specs.inner.Rows.{name_row}
use Rattle.message_names.proofs.RowLaws.{all_cells}
use Rattle.message_names.proofs.names.MessageNames.printed.Goals as goal

pub returns-clause-cells : goal.returns-clause-cells
returns-clause-cells c =
    all_cells c.loop-row.rows.items c.as_slice-row-items.result.now c.loop-row.row-index (omega (arith, c.loop-row-test.false)) c.loop-row.invariant.cells
    ∙ ap (λ rows. map (λ (row : NameRow). row.cells) (map name_row rows)) c.as_slice-row-items.ensures.value ∙ ap (λ rows. map (λ (row : NameRow). row.cells) rows) c.self.view_is

pub returns-clause-plain : goal.returns-clause-plain
returns-clause-plain c = All-map (λ (row : NameRow). PrintsOnOneLine row.name) name_row c.loop-row.rows.items c.loop-row.invariant.plain
