-- The canonical bytes of a text.
use Rattle.std.specs.Prelude.{◌≡◌, ◌↔◌, ℕ, false, List}
use Rattle.toml.specs.Data.{Members}
use Rattle.bus_profile.specs.Checks.{HasNoFault}
use Rattle.bus_profile.specs.Faults.{faults}
use Rattle.bus_profile.specs.Read.{IsTree}
use Rattle.bus_legal.specs.Description.{Description}
use Rattle.bus_legal.specs.Parts.{Parts}
use Rattle.bus_canon.specs.Canon.{Text, AnyText}
use Rattle.rt1553.specs.Load.{is_canon_text, Of, Reaches}

-- These bytes are the canonical bytes of the text: it is accepted, and they are the canonical text of what can be
-- reached of its terminal.
pub record IsCanon (text bytes : List ℕ) : Type 0 where
  pub value : Parts
  pub reaches : Reaches text value
  pub means : Text value bytes

-- canonical bytes are accepted, and are their own canonical bytes
abbrev pub CanonIsItsOwn : Type 0
CanonIsItsOwn = (text bytes : List ℕ) → IsCanon text bytes → IsCanon bytes bytes

-- a text has no two canonical texts
abbrev pub OneCanon : Type 0
OneCanon = (text bytes others : List ℕ) → IsCanon text bytes → IsCanon text others → bytes ≡ others

-- a text is of no two descriptions
abbrev pub OneDescription : Type 0
OneDescription = (text : List ℕ) (P Q : Description) → Of text P → Of text Q → P ≡ Q

-- there are canonical bytes of the text
abbrev pub HasCanon : List ℕ → Type 0
HasCanon text = (bytes : List ℕ) × IsCanon text bytes

-- a text has canonical bytes exactly if it is accepted
abbrev pub AcceptedHaveCanon : Type 0
AcceptedHaveCanon = (text : List ℕ) → ((P : Description) × Of text P) ↔ HasCanon text

-- each canonical text, of either version, has canonical bytes
abbrev pub CanonTextsHaveCanon : Type 0
CanonTextsHaveCanon = (text : List ℕ) (value : Parts) → AnyText value text → HasCanon text

-- a TOML document that is no canonical text has canonical bytes exactly if its tree has no fault
abbrev pub FaultlessHaveCanon : Type 0
FaultlessHaveCanon = (text : List ℕ) (tree : Members) → is_canon_text text ≡ false → IsTree text tree → HasNoFault (faults tree) ↔ HasCanon text
