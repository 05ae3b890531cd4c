-- Faults as plain numbers.
use Rattle.std.specs.Prelude.{◌≡◌, ℕ, ◌-◌, take, drop, replicate}
use Rattle.bus_profile.specs.FaultNames.{profile_fault_number}
use Rattle.bus_canon.specs.Fault.{canon_fault_number}
use Rattle.bus_canon.specs.declared.fault.CanonFault.TheVariants as canon_fault
use Rattle.bus_script.specs.Fault.{run_fault_number}
use Rattle.bus_script.specs.declared.fault.RunFault.TheVariants as script_fault
use Rattle.rt1553.specs.declared.fault.LoadFault.TheVariants.{Profile, Canon, Memory}
use Rattle.rt1553.specs.declared.fault.EngineFault.{EngineFault}
use Rattle.rt1553.specs.declared.fault.EngineFault.TheVariants.{Load, Script}
use Rattle.rt1553.specs.OneLine.{IsOneLine}
use Rattle.rt1553_live.specs.declared.fault.PlainFault.{PlainFault}

-- what the fault is of: a profile text, a canonical text, memory, or a script
abbrev pub plain_fault_kind : EngineFault → ℕ
plain_fault_kind (Load (Profile fault)) = 1
plain_fault_kind (Load (Canon fault)) = 2
plain_fault_kind (Load Memory) = 3
plain_fault_kind (Script fault) = 4

-- its number among the faults of its kind; out of memory has none
abbrev pub plain_fault_number : EngineFault → ℕ
plain_fault_number (Load (Profile fault)) = profile_fault_number fault
plain_fault_number (Load (Canon fault)) = canon_fault_number fault
plain_fault_number (Load Memory) = 0
plain_fault_number (Script fault) = run_fault_number fault

-- the line that it names, or 0
abbrev pub plain_fault_line : EngineFault → ℕ
plain_fault_line (Load (Canon (canon_fault.Line line))) = line
plain_fault_line (Script (script_fault.Line line)) = line
plain_fault_line (Script (script_fault.LongLine line)) = line
plain_fault_line _ = 0

-- these are the numbers of a fault, and the text is one line, with zero bytes behind it
pub record TellsNumbers (to : PlainFault) (kind number line : ℕ) : Type 0 where
  pub kind_is : to.kind ≡ kind
  pub number_is : to.number ≡ number
  pub line_is : to.line ≡ line
  pub text : IsOneLine (take to.length to.text)
  pub zeros : drop to.length to.text ≡ replicate (136 - to.length) 0

-- the fault of a text or of a run is told
abbrev pub TellsFault : PlainFault → EngineFault → Type 0
TellsFault to fault = TellsNumbers to (plain_fault_kind fault) (plain_fault_number fault) (plain_fault_line fault)
