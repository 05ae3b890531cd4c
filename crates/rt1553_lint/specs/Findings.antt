-- What findings are of.
use Rattle.std.specs.Prelude.{◌≡◌, ◌⊎◌, ℕ, List, [], ◌∷◌, ◌++◌, map, Option, Some, None}
use Rattle.toml.specs.Data.{Members}
use Rattle.bus_legal.specs.declared.profile.Profile.{Profile}
use Rattle.bus_profile.specs.declared.fault.ProfileFault.{ProfileFault}
use Rattle.bus_profile.specs.FaultNames.{profile_fault_name, profile_fault_number}
use Rattle.bus_profile.specs.AllFaults.{told_faults}
use Rattle.bus_profile.specs.Read.{Accepts}
use Rattle.bus_canon.specs.Fault as canon
use Rattle.bus_legal.specs.Description.{Description}
use Rattle.rt1553.specs.declared.fault.LoadFault.{LoadFault}
use Rattle.rt1553.specs.declared.fault.LoadFault.TheVariants as load
use Rattle.rt1553.specs.Load.{Of, IsNotLoaded}
use Rattle.rt1553_lint.specs.declared.finding.LintFault.{LintFault}
use Rattle.rt1553_lint.specs.declared.finding.LintFault.TheVariants as lint_fault
use Rattle.rt1553_lint.specs.declared.finding.Finding.{Finding}
use Rattle.spare_entries.specs.declared.spare.SparePlace.{SparePlace}
use Rattle.spare_entries.specs.Spares.{IsSpare, Picks, places_of}

-- what a finding is of: a fault, or what has no effect
abbrev pub Subject : Type 0
Subject = Option LintFault × Option SparePlace

-- what each finding is of, in their order
abbrev pub subjects : List Finding → List Subject
subjects fs = map (λ f. (f.fault, f.spare)) fs

-- the subject of an error
abbrev pub error_of : LintFault → Subject
error_of fault = (Some fault, None)

-- the subject of an error in a profile
abbrev pub profile_error : ProfileFault → Subject
profile_error fault = error_of (lint_fault.Profile fault)

-- the subject of a warning
abbrev pub warning_of : SparePlace → Subject
warning_of place = (None, Some place)

-- These are the findings that were added: a warning of each of these places that has no effect, in their order, and nothing else.
pub record Warns (p : Profile) (places : List SparePlace) (old new : List Finding) : Type 0 where
  pub spare : List SparePlace
  pub picked : Picks (IsSpare p) places spare
  pub added : subjects new ≡ subjects old ++ map warning_of spare

-- The findings of a text whose tree has these faults: an error of each, in their order. Where there is none the text is accepted, and
-- they are a warning of each place of its profile that has no effect.
abbrev pub FindsFaults : List ℕ → List ProfileFault → List Finding → Type 0
FindsFaults text [] found = (p : Profile) × Accepts text p × Warns p (places_of p) [] found
FindsFaults text (fault ∷ faults) found = subjects found ≡ map profile_error (fault ∷ faults)

-- the same of a text with this tree
abbrev pub FindsInTree : List ℕ → Members → List Finding → Type 0
FindsInTree text tree found = FindsFaults text (told_faults tree) found

-- the fault as that of a text that isn't loaded
abbrev pub as_load_fault : LintFault → LoadFault
as_load_fault (lint_fault.Profile fault) = load.Profile fault
as_load_fault (lint_fault.Canon fault) = load.Canon fault

-- the text is refused by a fault, and that alone is found
pub record FindsRefused (text : List ℕ) (found : List Finding) : Type 0 where
  pub fault : LintFault
  pub refused : IsNotLoaded text (as_load_fault fault)
  pub told : subjects found ≡ error_of fault ∷ []

-- The findings of a text that is no document: none where it is accepted, so a canonical text, and otherwise its fault.
abbrev pub FindsInOther : List ℕ → List Finding → Type 0
FindsInOther text found = ((P : Description) × Of text P × (found ≡ [])) ⊎ FindsRefused text found

-- the number of a fault among those of its type
abbrev pub lint_fault_number : LintFault → ℕ
lint_fault_number (lint_fault.Profile fault) = profile_fault_number fault
lint_fault_number (lint_fault.Canon fault) = canon.canon_fault_number fault

-- the name of a fault among those of its type
abbrev pub lint_fault_name : LintFault → List ℕ
lint_fault_name (lint_fault.Profile fault) = profile_fault_name fault
lint_fault_name (lint_fault.Canon fault) = canon.canon_fault_name fault
