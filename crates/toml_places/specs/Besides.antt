-- The first name that is none of those which are known.
use Rattle.std.specs.Prelude.{ℕ, Bool, true, false, ◌||◌, if◌then◌else◌, List, [], ◌∷◌, drop, Option, Some, None, option_and_then}
use Rattle.std.specs.List.{slice_get}
use Rattle.toml.specs.Data.{same_key}
use Rattle.toml_parser.specs.Reading.{key_view}
use Rattle.toml_places.specs.declared.statement.Statement.{Statement}
use Rattle.toml_places.specs.Parsed.{parts}
use Rattle.toml_places.specs.Search.{Named, begins_key, adds_entry, entries_from}
use Rattle.toml_places.specs.Statements.{named_in, whole_names}

-- the name is one of these
abbrev pub is_one_of : List ℕ → List (List ℕ) → Bool
is_one_of name [] = false
is_one_of name (k ∷ known) = same_key name k || is_one_of name known

-- the part, where there is one that is not known; or else what comes later
abbrev pub besides : List (List ℕ) → Option (List ℕ) → Option (List ℕ) → Option (List ℕ)
besides known None later = later
besides known (Some part) later = if is_one_of part known then later else Some part

-- the first key of the root, among these statements, that is not known
abbrev pub key_besides : List (List ℕ) → List Named → Option (List ℕ)
key_besides known [] = None
key_besides known (s ∷ ss) = besides known (slice_get s.0 0) (key_besides known ss)

-- the part behind the key, in a name that begins with it
abbrev pub part_behind : List ℕ → List (List ℕ) → Option (List ℕ)
part_behind key parts = if begins_key key parts then slice_get parts 1 else None

-- the first name in an item, among the statements behind its header, that is not known
abbrev pub name_besides : List ℕ → List (List ℕ) → List Named → Option (List ℕ)
name_besides key known [] = None
name_besides key known (s ∷ ss) = if adds_entry key s then None else besides known (part_behind key s.0) (name_besides key known ss)

-- the names of the statements behind a header, which is the first of these
abbrev pub names_behind : List Statement → List Named
names_behind [] = []
names_behind (s ∷ ss) = named_in (parts (key_view s.key)) ss

-- the first name in the item of this index that is not known
abbrev pub item_besides : List ℕ → ℕ → List (List ℕ) → List Statement → Option (List ℕ)
item_besides key i known statements =
    option_and_then (λ j. name_besides key known (names_behind (drop j statements))) (slice_get (entries_from 0 key (whole_names statements)) i)
