-- Where findings stand.
use Rattle.std.specs.Prelude.{◌≡◌, ◌⊎◌, ◌≤◌, ◌<◌, ℕ, ◌-◌, Bool, true, false, List, [], codes, length, get_or, Option, Some, None, IsSomeAnd, option_and_then}
use Rattle.toml.specs.Data.{Data, Members, as_table, at, get_member}
use Rattle.bus_profile.specs.Read.{IsTree}
use Rattle.bus_profile.specs.AllFaults.{unknown_names}
use Rattle.bus_profile.specs.Keys.{key_name}
use Rattle.bus_profile.specs.declared.fault.Key.{Key}
use Rattle.bus_profile.specs.declared.fault.Key.TheVariants as key
use Rattle.bus_profile.specs.declared.fault.Part.{Part}
use Rattle.bus_profile.specs.declared.fault.Part.TheVariants.{Root, Rule, Mode, Initial}
use Rattle.bus_profile.specs.declared.fault.ProfileFault.{ProfileFault}
use Rattle.bus_profile.specs.declared.fault.ProfileFault.TheVariants.{NotToml, UnknownKey, Missing, WrongKind, OutOfRange, BadRanges, TooMany, RequiredCode, Memory}
use Rattle.bus_canon.specs.declared.fault.CanonFault.{CanonFault}
use Rattle.bus_canon.specs.declared.fault.CanonFault.TheVariants.{Line, Trailing}
use Rattle.rt1553_lint.specs.declared.finding.LintFault.TheVariants as lint_fault
use Rattle.rt1553_lint.specs.declared.finding.Finding.{Finding}
use Rattle.rt1553_lint.specs.declared.finding.Position.{Position}
use Rattle.rt1553_lint.specs.Findings.{Subject}
use Rattle.rt1553_lint.specs.Places.{IsPositionOf, has_entry, has_key, has_spare}
use Rattle.rt1553_lint.specs.Positions.{position_in}

-- ---- what can be asked of a document

-- The position of what is sought: if the text is a document that has it, of the statement by which the text gets it.
abbrev pub IsAt : (Members → Bool) → List ℕ → Option Position → Type 0
IsAt sought text position = (tree : Members) → IsTree text tree → sought tree ≡ true → IsSomeAnd position (IsPositionOf sought text)

-- The position of a part: the root begins with the text.
pub record IsAtPart (part : Part) (text : List ℕ) (position : Option Position) : Type 0 where
  pub root : part ≡ Root → position ≡ Some (position_in text 0)
  pub entry : IsAt (has_entry part) text position

-- the position of a key of a part
abbrev pub IsAtKey : Part → List ℕ → List ℕ → Option Position → Type 0
IsAtKey part name text position = IsAt (has_key part name) text position

-- ---- faults

-- a fault of this key is one of the whole entry, which is no table
abbrev pub is_of_entry : Part → Key → Bool
is_of_entry Root key = false
is_of_entry part key.Rule = true
is_of_entry part key.Mode = true
is_of_entry part key.Initial = true
is_of_entry part key = false

-- the position of a value
pub record IsAtValue (part : Part) (key : Key) (text : List ℕ) (position : Option Position) : Type 0 where
  pub whole : is_of_entry part key ≡ true → IsAtPart part text position
  pub own : is_of_entry part key ≡ false → IsAtKey part (key_name key) text position

-- the entry of this number of an array
abbrev pub part_numbered : Key → ℕ → Part
part_numbered key.Rule n = Rule n
part_numbered key.Mode n = Mode n
part_numbered key.Initial n = Initial n
part_numbered key n = Root

-- The position of what is too much: of the entry with number 257, or of the words of an entry.
pub record IsAtExcess (part : Part) (key : Key) (text : List ℕ) (position : Option Position) : Type 0 where
  pub entries : part ≡ Root → IsAtPart (part_numbered key 257) text position
  pub words : (part ≡ Root → ⊥) → IsAtValue part key text position

-- the item of the array at a key of the root, counted from 0
abbrev pub array_item : List ℕ → ℕ → Members → Option Data
array_item key i tree = option_and_then (at i) (get_member key tree)

-- the table that this item is, if it is one
abbrev pub item_table : List ℕ → ℕ → Members → Option Members
item_table key i tree = option_and_then as_table (array_item key i tree)

-- the table that a part is
abbrev pub part_table : Part → Members → Option Members
part_table Root tree = Some tree
part_table (Rule n) tree = item_table (codes "rule") (n - 1) tree
part_table (Mode n) tree = item_table (codes "mode") (n - 1) tree
part_table (Initial n) tree = item_table (codes "initial") (n - 1) tree

-- one of these is the name, and this is its position
abbrev pub IsAtOne : Part → List (List ℕ) → List ℕ → Option Position → Type 0
IsAtOne part names text position = (i : ℕ) × (i < length names) × IsAtKey part (get_or names i []) text position

-- the position of a key that the part may not have
abbrev pub IsAtUnknown : Part → List ℕ → Option Position → Type 0
IsAtUnknown part text position =
    (tree members : Members) → IsTree text tree → part_table part tree ≡ Some members → 0 < length (unknown_names part members)
    → IsAtOne part (unknown_names part members) text position

-- the position of a mode entry that the document has
pub record IsAtMode (text : List ℕ) (position : Option Position) : Type 0 where
  pub number : ℕ
  pub there : (tree : Members) → IsTree text tree → has_entry (Mode number) tree ≡ true
  pub at : IsAtPart (Mode number) text position

-- the position of a place in the text
abbrev pub IsSomewhere : List ℕ → Option Position → Type 0
IsSomewhere text position = IsSomeAnd position (λ p. (place : ℕ) × (place ≤ length text) × (p ≡ position_in text place))

-- The position of a fault. An own mode code that must be legal and isn't: of a mode entry, or of the root where there is none.
abbrev pub IsAtFault : ProfileFault → List ℕ → Option Position → Type 0
IsAtFault NotToml = IsSomewhere
IsAtFault (UnknownKey part) = IsAtUnknown part
IsAtFault (Missing part key) = IsAtPart part
IsAtFault (WrongKind part key) = IsAtValue part key
IsAtFault (OutOfRange part key) = IsAtValue part key
IsAtFault (BadRanges part key) = IsAtValue part key
IsAtFault (TooMany part key) = IsAtExcess part key
IsAtFault (RequiredCode code) = λ text position. IsAtPart Root text position ⊎ IsAtMode text position
IsAtFault Memory = IsSomewhere

-- The position of a fault of a canonical text: its line, or the end of the text.
abbrev pub IsAtCanon : CanonFault → List ℕ → Option Position → Type 0
IsAtCanon (Line n) text position = position ≡ Some (record { line = n; column = 1 })
IsAtCanon Trailing text position = position ≡ Some (position_in text (length text))

-- ---- findings

-- the position of what a finding is of
abbrev pub IsAtSubject : Subject → List ℕ → Option Position → Type 0
IsAtSubject (Some (lint_fault.Profile fault), place) = IsAtFault fault
IsAtSubject (Some (lint_fault.Canon fault), place) = IsAtCanon fault
IsAtSubject (None, Some place) = IsAt (has_spare place)
IsAtSubject (None, None) = λ text position. Unit {0}

-- the finding has the position of what it is of
abbrev pub IsPlaced : List ℕ → Finding → Type 0
IsPlaced text found = IsAtSubject (found.fault, found.spare) text found.position
