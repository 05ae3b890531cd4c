-- The faults of a run: their numbers, their names, and which are of the script.
use Rattle.std.specs.Prelude.{ℕ, Bool, true, false, List, codes}
use Rattle.bus_script.specs.declared.fault.RunFault.{RunFault}
use Rattle.bus_script.specs.declared.fault.RunFault.TheVariants.{Line, LongLine, TooLong, Read, Write}

-- the number of the kind of fault, whatever the line
abbrev pub run_fault_number : RunFault → ℕ
run_fault_number (Line n) = 1
run_fault_number (LongLine n) = 2
run_fault_number TooLong = 3
run_fault_number Read = 4
run_fault_number Write = 5

-- the name of the kind of fault, whatever the line
abbrev pub run_fault_name : RunFault → List ℕ
run_fault_name (Line n) = codes "Line"
run_fault_name (LongLine n) = codes "LongLine"
run_fault_name TooLong = codes "TooLong"
run_fault_name Read = codes "Read"
run_fault_name Write = codes "Write"

-- the script has the fault, and no device
abbrev pub is_of_script : RunFault → Bool
is_of_script (Line n) = true
is_of_script (LongLine n) = true
is_of_script TooLong = true
is_of_script Read = false
is_of_script Write = false
