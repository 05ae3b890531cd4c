-- The status that a program ends with.
use Rattle.std.specs.Prelude.{ℕ}
use Rattle.bus_profile.specs.declared.fault.ProfileFault.TheVariants as profile
use Rattle.rt1553.specs.declared.fault.LoadFault.TheVariants.{Profile, Canon, Memory}
use Rattle.bus_script.specs.declared.fault.RunFault.TheVariants.{Line, LongLine, TooLong, Read, Write}
use Rattle.rt1553.specs.declared.fault.EngineFault.{EngineFault}
use Rattle.rt1553.specs.declared.fault.EngineFault.TheVariants.{Load, Script}

-- 2 for a profile text, a canonical text or a script that is refused; 4 where a read or a write failed or memory ran out
abbrev pub exit_status_of : EngineFault → ℕ
exit_status_of (Load (Profile profile.Memory)) = 4
exit_status_of (Load (Profile fault)) = 2
exit_status_of (Load (Canon fault)) = 2
exit_status_of (Load Memory) = 4
exit_status_of (Script (Line n)) = 2
exit_status_of (Script (LongLine n)) = 2
exit_status_of (Script TooLong) = 2
exit_status_of (Script Read) = 4
exit_status_of (Script Write) = 4
