-- The number and the name of each fault of a profile text.
use Rattle.std.specs.Prelude.{ℕ, List, codes}
use Rattle.bus_profile.specs.declared.fault.ProfileFault.{ProfileFault}
use Rattle.bus_profile.specs.declared.fault.ProfileFault.TheVariants.{NotToml, UnknownKey, Missing, WrongKind, OutOfRange, BadRanges, TooMany, RequiredCode, Memory}

-- the number of the kind of fault; its part, its key and its code make no difference
abbrev pub profile_fault_number : ProfileFault → ℕ
profile_fault_number NotToml = 1
profile_fault_number (UnknownKey part) = 2
profile_fault_number (Missing part key) = 3
profile_fault_number (WrongKind part key) = 4
profile_fault_number (OutOfRange part key) = 5
profile_fault_number (BadRanges part key) = 6
profile_fault_number (TooMany part key) = 7
profile_fault_number (RequiredCode code) = 8
profile_fault_number Memory = 9

-- the name of the kind of fault; its part, its key and its code make no difference
abbrev pub profile_fault_name : ProfileFault → List ℕ
profile_fault_name NotToml = codes "NotToml"
profile_fault_name (UnknownKey part) = codes "UnknownKey"
profile_fault_name (Missing part key) = codes "Missing"
profile_fault_name (WrongKind part key) = codes "WrongKind"
profile_fault_name (OutOfRange part key) = codes "OutOfRange"
profile_fault_name (BadRanges part key) = codes "BadRanges"
profile_fault_name (TooMany part key) = codes "TooMany"
profile_fault_name (RequiredCode code) = codes "RequiredCode"
profile_fault_name Memory = codes "Memory"
