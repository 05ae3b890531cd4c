use Rattle.std.proofs.Common.{IfErr, string_bytes, rules, arith}
use Rattle.rt1553_import.specs.Import.{IsTableRefused}
use Rattle.rt1553_import.proofs.ImportLaws.{err_so}
use Rattle.rt1553_import.proofs.importing.import_table.Goals as goal

pub returns-in_err-sheet-clause-refused : goal.returns-in_err-sheet-clause-refused
returns-in_err-sheet-clause-refused c =
    let told : IfErr c.from_residual.result (IsTableRefused c.args.text.now) = search rules in
    err_so c.args.text.now c.from_residual.result told

pub returns-then-len-gt-PROFILE_BYTES-clause-refused : goal.returns-then-len-gt-PROFILE_BYTES-clause-refused
returns-then-len-gt-PROFILE_BYTES-clause-refused c = record {
  sheet = c.in_ok-sheet.sheet;
  is = c.in_ok-sheet.ensures.sheet;
  profile_text = string_bytes c.in_ok-profile.profile;
  says = c.in_ok-profile.ensures;
  many = omega (arith, c.if-len-gt-PROFILE_BYTES.true, c.len.ensures);
}

pub returns-clause-imported : goal.returns-clause-imported
returns-clause-imported c = record {
  sheet = c.in_ok-sheet.sheet;
  is = c.in_ok-sheet.ensures.sheet;
  says = c.in_ok-profile.ensures;
  few = omega (arith, c.if-len-gt-PROFILE_BYTES.false, c.len.ensures);
}
