-- The numbers and the names of the faults of canonical texts.
use Rattle.std.specs.Prelude.{ℕ, List, codes}
use Rattle.bus_canon.specs.declared.fault.CanonFault.{CanonFault}
use Rattle.bus_canon.specs.declared.fault.CanonFault.TheVariants.{Line, Trailing}

-- the number of the kind of fault, whatever the line
abbrev pub canon_fault_number : CanonFault → ℕ
canon_fault_number (Line n) = 1
canon_fault_number Trailing = 2

-- the name of the kind of fault, whatever the line
abbrev pub canon_fault_name : CanonFault → List ℕ
canon_fault_name (Line n) = codes "Line"
canon_fault_name Trailing = codes "Trailing"
