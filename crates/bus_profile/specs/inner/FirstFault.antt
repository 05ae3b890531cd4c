-- What a reader that checks in turn answers: the value, or the first check of a list that fails. That
-- the place of this check is the least is shown of the whole tree.
use Rattle.std.specs.Prelude.{◌≡◌, ◌≢◌, List, [], ◌∷◌, Option, Some, None, Result, Ok, Err}
use Rattle.std.specs.Option.{option_or}
use Rattle.bus_profile.specs.declared.fault.ProfileFault.{ProfileFault}
use Rattle.bus_profile.specs.declared.fault.ProfileFault.TheVariants.{Memory}
use Rattle.bus_profile.specs.Checks.{Check, first_fault}

-- the first fault of several parts
abbrev pub fault_of_parts : List (List Check) → Option ProfileFault
fault_of_parts [] = None
fault_of_parts (part ∷ parts) = option_or (first_fault part) (fault_of_parts parts)

-- What a reader answers where this is the first fault of what it reads, or none, and this the value:
-- the value only where there is no fault, and only the first fault.
abbrev pub Reads : {A : Type 0} → Option ProfileFault → A → Result A ProfileFault → Type 0
Reads first value (Ok a) = (first ≡ None) × (a ≡ value)
Reads first value (Err fault) = first ≡ Some fault

-- the same where the answer stands for the value
abbrev pub ReadsAs : {A B : Type 0} → (A → B) → Option ProfileFault → B → Result A ProfileFault → Type 0
ReadsAs meaning first value (Ok a) = (first ≡ None) × (meaning a ≡ value)
ReadsAs meaning first value (Err fault) = first ≡ Some fault

-- the same where a growth of memory may be refused
abbrev pub ReadsInMemory : {A B : Type 0} → (A → B) → Option ProfileFault → B → Result A ProfileFault → Type 0
ReadsInMemory meaning first value (Ok a) = (first ≡ None) × (meaning a ≡ value)
ReadsInMemory meaning first value (Err fault) = fault ≢ Memory → first ≡ Some fault
