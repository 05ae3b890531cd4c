-- The numbers and the names of faults.
use Rattle.std.specs.Prelude.{ℕ, List, codes}
use Rattle.rt1553.specs.declared.fault.LoadFault.{LoadFault}
use Rattle.rt1553.specs.declared.fault.LoadFault.TheVariants.{Profile, Canon, Memory}
use Rattle.rt1553.specs.declared.fault.EngineFault.{EngineFault}
use Rattle.rt1553.specs.declared.fault.EngineFault.TheVariants.{Load, Script}

-- the number of the kind of fault: of a profile text, of a canonical text, or memory
abbrev pub load_fault_number : LoadFault → ℕ
load_fault_number (Profile fault) = 1
load_fault_number (Canon fault) = 2
load_fault_number Memory = 3

-- the name of the kind of fault
abbrev pub load_fault_name : LoadFault → List ℕ
load_fault_name (Profile fault) = codes "Profile"
load_fault_name (Canon fault) = codes "Canon"
load_fault_name Memory = codes "Memory"

-- the number of what the fault is of: a profile, or a script
abbrev pub engine_fault_number : EngineFault → ℕ
engine_fault_number (Load fault) = 1
engine_fault_number (Script fault) = 2

-- the name of what the fault is of
abbrev pub engine_fault_name : EngineFault → List ℕ
engine_fault_name (Load fault) = codes "Load"
engine_fault_name (Script fault) = codes "Script"
