use Rattle.std.proofs.Common.{subst}
use Rattle.rt1553_import.specs.Import.{IsImportRefused}
use Rattle.tool_profiles.proofs.import.profile_text.Goals as goal

pub returns-in-Err-Faults : goal.returns-in-Err-Faults
returns-in-Err-Faults g c =
    let has = subst (IsImportRefused c.args.table.now) c.in-Err-Faults.field-0-is c.in-Err-Faults.ensures.refused in
    (c.in-Err-Faults.faulty, has)
