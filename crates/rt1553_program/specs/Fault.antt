-- The status that the program ends with.
use Rattle.std.specs.Prelude.{ℕ}
use Rattle.rt1553.specs.Report.{exit_status_of}
use Rattle.rt1553_program.specs.declared.fault.Fault.{Fault}
use Rattle.rt1553_program.specs.declared.fault.Fault.TheVariants.{Usage, Memory, File, Output, Engine}

-- 3 for arguments that the program does not accept; 4 for a file, out of memory or the output; else that of the fault
abbrev pub exit_status : Fault → ℕ
exit_status Usage = 3
exit_status Memory = 4
exit_status (File fault) = 4
exit_status Output = 4
exit_status (Engine fault) = exit_status_of fault
