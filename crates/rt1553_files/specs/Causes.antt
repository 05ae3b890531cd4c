-- Which cause is which fault of a file.
use Rattle.std.specs.Prelude.{◌≡◌, ◌⊎◌, Option, Some, None, Result, Ok, Err}
use Rattle.rt1553_files.specs.declared.fault.FileFault.{FileFault}
use Rattle.rt1553_files.specs.declared.fault.FileFault.TheVariants.{Memory, CannotRead, TooLarge}

-- a file can't be opened or read, or out of memory, for its name too
abbrev pub IsUnread : FileFault → Type 0
IsUnread Memory = Unit {0}
IsUnread (CannotRead name) = Unit {0}
IsUnread (TooLarge name) = ⊥

-- the fault of a file after an error of the system: out of memory, where that holds, or else the file can't be read
abbrev pub ComesOf : Type 0 → FileFault → Type 0
ComesOf WantsMemory fault = (WantsMemory → fault ≡ Memory) × ((WantsMemory → ⊥) → IsUnread fault)

-- a file is too large
abbrev pub IsTooLarge : FileFault → Type 0
IsTooLarge (TooLarge name) = Unit {0}
IsTooLarge fault = ⊥

-- the fault of a file of which this was read: too many bytes, None, or an error, of which some are out of memory
abbrev pub IsRefusal : {A E : Type 0} → (E → Type 0) → Result (Option A) E → FileFault → Type 0
IsRefusal WantsMemory (Ok (Some bytes)) fault = ⊥
IsRefusal WantsMemory (Ok None) fault = IsTooLarge fault ⊎ (fault ≡ Memory)
IsRefusal WantsMemory (Err error) fault = ComesOf (WantsMemory error) fault
