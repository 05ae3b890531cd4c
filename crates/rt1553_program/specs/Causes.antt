-- Which cause is which fault of the program.
use Rattle.std.specs.Prelude.{◌≡◌, ◌≢◌, ◌⊎◌, Bool, true}
use Rattle.rt1553.specs.declared.fault.LoadFault.{LoadFault}
use Rattle.rt1553.specs.declared.fault.EngineFault.{EngineFault}
use Rattle.rt1553.specs.declared.fault.EngineFault.TheVariants as engine
use Rattle.rt1553_args.specs.declared.args.ArgFault.{ArgFault}
use Rattle.rt1553_args.specs.declared.args.ArgFault.TheVariants as args
use Rattle.rt1553_program.specs.declared.fault.Fault.{Fault}
use Rattle.rt1553_program.specs.declared.fault.Fault.TheVariants.{Usage, Memory, File, Output, Engine}

-- ---- the command line

-- why arguments name no job
abbrev pub fault_of_args : ArgFault → Fault
fault_of_args args.Usage = Usage
fault_of_args args.Memory = Memory

-- why there are no arguments: out of memory, where that holds, or else one is not text
abbrev pub IsWithoutArgs : Type 0 → Fault → Type 0
IsWithoutArgs WantsMemory fault = (WantsMemory → fault ≡ Memory) × ((WantsMemory → ⊥) → fault ≡ Usage)

-- ---- files

-- a fault of a file
abbrev pub IsOfFile : Fault → Type 0
IsOfFile (File fault) = Unit {0}
IsOfFile fault = ⊥

-- ---- texts

-- the fault of a text that isn't loaded, of which this holds
abbrev pub IsOfLoad : (LoadFault → Type 0) → Fault → Type 0
IsOfLoad P (Engine (engine.Load fault)) = P fault
IsOfLoad P fault = ⊥

-- the output can't be written, since a write has failed
abbrev pub IsOfOutput : Bool → Fault → Type 0
IsOfOutput failed fault = (fault ≡ Output) × (failed ≡ true)

-- The output can't be written, or a text isn't loaded, for such a reason, and then the output is untouched.
abbrev pub RefusesUntouched : (LoadFault → Type 0) → Type 0 → Bool → Fault → Type 0
RefusesUntouched P Untouched failed fault = IsOfOutput failed fault ⊎ (IsOfLoad P fault × Untouched)

-- a run of a profile over a script ended early, for a reason of which this holds
abbrev pub IsOfRun : (EngineFault → Type 0) → Fault → Type 0
IsOfRun P (Engine fault) = P fault
IsOfRun P fault = ⊥

-- a fault of a job: any but that of arguments that the program does not accept
abbrev pub IsOfJob : Fault → Type 0
IsOfJob Usage = ⊥
IsOfJob fault = Unit {0}
