-- What reading a profile text answers.
use Rattle.std.specs.Prelude.{◌≡◌, ℕ, List, Some, IsUtf8}
use Rattle.toml.specs.Data.{Members}
use Rattle.toml.specs.Parse.{parse_document}
use Rattle.bus_legal.specs.declared.profile.Profile.{Profile}
use Rattle.bus_profile.specs.declared.fault.ProfileFault.{ProfileFault}
use Rattle.bus_profile.specs.declared.fault.ProfileFault.TheVariants.{NotToml, Memory}
use Rattle.bus_profile.specs.Checks.{IsFirst, HasNoFault}
use Rattle.bus_profile.specs.Faults.{faults}
use Rattle.bus_legal.specs.Plain.{plain}
use Rattle.bus_profile.specs.Gives.{profile_of}

-- The text is a TOML document, and this is its tree.
pub record IsTree (text : List ℕ) (tree : Members) : Type 0 where
  pub utf8 : IsUtf8 text
  pub reads : parse_document text ≡ Some tree

-- The text's tree has no fault and gives the profile.
pub record Accepts (text : List ℕ) (profile : Profile) : Type 0 where
  pub tree : Members
  pub is : IsTree text tree
  pub faultless : HasNoFault (faults tree)
  pub gives : plain profile ≡ profile_of tree

-- The text's tree has the fault, and it is the first.
pub record HasFirst (text : List ℕ) (fault : ProfileFault) : Type 0 where
  pub tree : Members
  pub is : IsTree text tree
  pub first : IsFirst (faults tree) fault

-- Why the text is refused: it is no TOML document, or its tree has the fault first. Out of memory
-- says nothing of the text.
abbrev pub Refuses : List ℕ → ProfileFault → Type 0
Refuses text NotToml = (tree : Members) → IsTree text tree → ⊥
Refuses text Memory = Unit {0}
Refuses text fault = HasFirst text fault
