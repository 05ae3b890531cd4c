-- Which texts are accepted, what they are of, and why one is refused.
use Rattle.std.specs.Prelude.{◌≡◌, ℕ, Bool, true, false, ◌||◌, nat_eq, List, codes}
use Rattle.std.specs.List.{starts_with}
use Rattle.bus_legal.specs.declared.profile.Profile.{Profile}
use Rattle.bus_profile.specs.declared.fault.ProfileFault.{ProfileFault}
use Rattle.bus_profile.specs.declared.fault.ProfileFault.TheVariants as profile
use Rattle.bus_profile.specs.Read.{Accepts, Refuses}
use Rattle.bus_legal.specs.Description.{Description}
use Rattle.bus_legal.specs.Meaning.{description_of}
use Rattle.bus_legal.specs.Parts.{Parts, description_in}
use Rattle.bus_legal.specs.Reach.{reach}
use Rattle.bus_canon.specs.Canon.{AnyText}
use Rattle.bus_canon.specs.Read.{IsNoText}
use Rattle.rt1553.specs.declared.fault.LoadFault.{LoadFault}
use Rattle.rt1553.specs.declared.fault.LoadFault.TheVariants as load

-- out of memory is one fault, whoever meets it
abbrev pub load_fault : ProfileFault → LoadFault
load_fault profile.Memory = load.Memory
load_fault fault = load.Profile fault

-- A text that begins with the bytes `rt1553 1` or `rt1553 2` and a line feed is canonical text, any other is TOML.
abbrev pub is_canon_text : List ℕ → Bool
is_canon_text text = starts_with nat_eq text (codes "rt1553 1\n") || starts_with nat_eq text (codes "rt1553 2\n")

-- the text is a canonical text, of either version, of this description
pub record IsCanonText (text : List ℕ) (P : Description) : Type 0 where
  pub value : Parts
  pub means : AnyText value text
  pub gives : P ≡ description_in value

-- the text is a profile text without fault, and this is the description of its profile
pub record IsProfileText (text : List ℕ) (P : Description) : Type 0 where
  pub profile : Profile
  pub accepts : Accepts text profile
  pub gives : P ≡ description_of profile

-- the same of a text that is a canonical text, or else a profile text
abbrev pub OfBy : Bool → List ℕ → Description → Type 0
OfBy true text P = IsCanonText text P
OfBy false text P = IsProfileText text P

-- the text is accepted, and is of a terminal of this description
abbrev pub Of : List ℕ → Description → Type 0
Of text P = OfBy (is_canon_text text) text P

-- the text is accepted, and these are the parts of what can be reached of its terminal
pub record Reaches (text : List ℕ) (value : Parts) : Type 0 where
  pub description : Description
  pub of : Of text description
  pub reached : description_in value ≡ reach description

-- a profile text is refused by this, its first fault; out of memory is none
abbrev pub IsNoProfile : List ℕ → ProfileFault → Type 0
IsNoProfile text profile.Memory = ⊥
IsNoProfile text fault = Refuses text fault

-- The same of a text that is a canonical text, or else a profile text: each has faults of its own kind, and memory runs out
-- for a profile text alone.
abbrev pub IsNotLoadedBy : Bool → List ℕ → LoadFault → Type 0
IsNotLoadedBy true text (load.Canon fault) = IsNoText text fault
IsNotLoadedBy true text (load.Profile fault) = ⊥
IsNotLoadedBy true text load.Memory = ⊥
IsNotLoadedBy false text (load.Profile fault) = IsNoProfile text fault
IsNotLoadedBy false text (load.Canon fault) = ⊥
IsNotLoadedBy false text load.Memory = Unit {0}

-- The text is refused by this, its first fault; or it is a profile text and memory ran out, which says nothing of the text.
abbrev pub IsNotLoaded : List ℕ → LoadFault → Type 0
IsNotLoaded text fault = IsNotLoadedBy (is_canon_text text) text fault

-- the text is refused by this, its first fault as a canonical text
abbrev pub IsNoCanonText : List ℕ → LoadFault → Type 0
IsNoCanonText text (load.Canon fault) = IsNoText text fault
IsNoCanonText text (load.Profile fault) = ⊥
IsNoCanonText text load.Memory = ⊥

-- the only fault by which an accepted text isn't loaded means out of memory
abbrev pub OnlyMemoryRefuses : Type 0
OnlyMemoryRefuses = (text : List ℕ) (P : Description) (fault : LoadFault) → Of text P → IsNotLoaded text fault → fault ≡ load.Memory
