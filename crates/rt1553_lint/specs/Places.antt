-- Where in a profile text its parts stand, and their keys.
use Rattle.std.specs.Prelude.{◌≡◌, ℕ, ◌-◌, Bool, false, List, map, length, get_or, codes, Option, Some, None, IsSome}
use Rattle.toml.specs.Data.{Members}
use Rattle.toml.specs.Parse.{parse_document}
use Rattle.toml_places.specs.declared.statement.Statement.{Statement}
use Rattle.toml_places.specs.Found.{seen, statement_view}
use Rattle.toml_places.specs.StatementsLaw.{expressions}
use Rattle.toml_places.specs.Parsed.{statements_of}
use Rattle.toml_places.specs.Besides.{key_besides, item_besides}
use Rattle.toml_places.specs.Places.{is_there, IsGivenBy}
use Rattle.toml_places.specs.Statements.{whole_names}
use Rattle.bus_profile.specs.Read.{IsTree}
use Rattle.bus_profile.specs.declared.fault.Part.{Part}
use Rattle.bus_profile.specs.declared.fault.Part.TheVariants.{Root, Rule, Mode, Initial}
use Rattle.bus_profile.specs.declared.fault.Key.{Key}
use Rattle.bus_profile.specs.declared.fault.Key.TheVariants as key
use Rattle.bus_profile.specs.Keys.{key_name}
use Rattle.spare_entries.specs.declared.spare.Setting.{Setting}
use Rattle.spare_entries.specs.declared.spare.Setting.TheVariants.{Broadcast, Wraparound, AcceptBusControl, Vector, Bit}
use Rattle.spare_entries.specs.declared.spare.SparePlace.{SparePlace}
use Rattle.spare_entries.specs.declared.spare.SparePlace.TheVariants as spare
use Rattle.rt1553_lint.specs.declared.finding.Position.{Position}
use Rattle.rt1553_lint.specs.Positions.{position_in}

-- the text is no document
abbrev pub IsNone : List ℕ → Type 0
IsNone text = (tree : Members) → IsTree text tree → ⊥

-- these are the statements of the text, if it is a document
abbrev pub AreStatementsOf : List ℕ → List Statement → Type 0
AreStatementsOf text statements = IsSome (parse_document text) → map statement_view statements ≡ map (seen (length text)) (statements_of text)

-- where the statement of this index begins, by the bytes before it
abbrev pub statement_place : List ℕ → ℕ → ℕ
statement_place text j = get_or (map (λ p. length text - p.1) (statements_of text)) j 0

-- The position of what is sought: of the statement by which the text gets it.
pub record IsPositionOf (sought : Members → Bool) (text : List ℕ) (position : Position) : Type 0 where
  pub statement : ℕ
  pub gives : IsGivenBy sought (expressions (statements_of text)) statement
  pub at : position ≡ position_in text (statement_place text statement)

-- the tree has the entry; the root is none
abbrev pub has_entry : Part → Members → Bool
has_entry Root tree = false
has_entry (Rule n) tree = is_there (codes "rule") (Some (n - 1)) None tree
has_entry (Mode n) tree = is_there (codes "mode") (Some (n - 1)) None tree
has_entry (Initial n) tree = is_there (codes "initial") (Some (n - 1)) None tree

-- the tree has a key of this name, of the root or of an entry
abbrev pub has_key : Part → List ℕ → Members → Bool
has_key Root name tree = is_there name None None tree
has_key (Rule n) name tree = is_there (codes "rule") (Some (n - 1)) (Some name) tree
has_key (Mode n) name tree = is_there (codes "mode") (Some (n - 1)) (Some name) tree
has_key (Initial n) name tree = is_there (codes "initial") (Some (n - 1)) (Some name) tree

-- the key that a setting is
abbrev pub setting_key : Setting → Key
setting_key Broadcast = key.Broadcast
setting_key Wraparound = key.Wraparound
setting_key AcceptBusControl = key.AcceptBusControl
setting_key Vector = key.Vector
setting_key Bit = key.Bit

-- The tree has what may have no effect: a key of the root, an entry, or of a word the words of its entry.
abbrev pub has_spare : SparePlace → Members → Bool
has_spare (spare.Key setting) tree = is_there (key_name (setting_key setting)) None None tree
has_spare (spare.Rule k) tree = is_there (codes "rule") (Some k) None tree
has_spare (spare.Mode k) tree = is_there (codes "mode") (Some k) None tree
has_spare (spare.Initial k) tree = is_there (codes "initial") (Some k) None tree
has_spare (spare.Word k word) tree = is_there (codes "initial") (Some k) (Some (codes "words")) tree

-- the first key of a part, in the order of these statements, that is none of those which are known
abbrev pub first_besides : Part → List (List ℕ) → List Statement → Option (List ℕ)
first_besides Root known statements = key_besides known (whole_names statements)
first_besides (Rule n) known statements = item_besides (codes "rule") (n - 1) known statements
first_besides (Mode n) known statements = item_besides (codes "mode") (n - 1) known statements
first_besides (Initial n) known statements = item_besides (codes "initial") (n - 1) known statements
