use Rattle.std.proofs.Common.{◌==◌, length, ap, sym, ◌∙◌}
use Rattle.rt1553_import.proofs.FaultLaws.{no_faults, some_faults}
use Rattle.rt1553_import.proofs.ImportLaws.{no_table}
use Rattle.rt1553_import.proofs.importing.faultless_sheet.Goals as goal

pub returns-in-Err-clause-refused : goal.returns-in-Err-clause-refused
returns-in-Err-clause-refused c = no_table c.args.text.now c.in-Err.fault c.in-Err.ensures.refused

pub returns-then-not-is_empty-clause-refused : goal.returns-then-not-is_empty-clause-refused
returns-then-not-is_empty-clause-refused c = record {
  read = c.in-Ok.ensures.sheet;
  all = c.in_ok-faults.ensures;
  some = some_faults c.in_ok-faults.faults.items (c.if-not-is_empty.ensures ∙ ap (λ fs. length fs == 0) c.as_slice.ensures.value);
}

pub returns-clause-sheet : goal.returns-clause-sheet
returns-clause-sheet c = record {
  read = c.in-Ok.ensures.sheet;
  faultless = sym c.in_ok-faults.ensures ∙ no_faults c.in_ok-faults.faults.items (c.if-not-is_empty.ensures ∙ ap (λ fs. length fs == 0) c.as_slice.ensures.value);
}
