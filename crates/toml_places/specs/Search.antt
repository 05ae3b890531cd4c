-- Where whole names of statements stand that begin with a key of the root, and those that are that key alone.
use Rattle.std.specs.Prelude.{ℕ, suc, ◌-◌, Bool, true, false, ◌&&◌, ◌==◌, if◌then◌else◌, List, [], ◌∷◌, Option, Some, None}
use Rattle.toml.specs.Data.{same_key}
use Rattle.toml_places.specs.declared.statement.StatementKind.{StatementKind}
use Rattle.toml_places.specs.declared.statement.StatementKind.TheVariants.{Pair, Entry}

-- the whole name of a statement, and its kind
abbrev pub Named : Type 0
Named = List (List ℕ) × StatementKind

-- the part is there, and is this one
abbrev pub part_is : List ℕ → Option (List ℕ) → Bool
part_is name None = false
part_is name (Some part) = same_key name part

-- the name begins with the key
abbrev pub begins_key : List ℕ → List (List ℕ) → Bool
begins_key key [] = false
begins_key key (part ∷ parts) = same_key key part

-- the name is the key alone
abbrev pub is_alone : List ℕ → List (List ℕ) → Bool
is_alone key [] = false
is_alone key (part ∷ []) = same_key key part
is_alone key (part ∷ next ∷ parts) = false

-- the name begins with the key, and the other name stands behind it
abbrev pub begins_both : List ℕ → List ℕ → List (List ℕ) → Bool
begins_both key name [] = false
begins_both key name (part ∷ parts) = same_key key part && begins_key name parts

-- the statement is a pair of a key and a value
abbrev pub kind_is_pair : StatementKind → Bool
kind_is_pair Pair = true
kind_is_pair _ = false

-- the statement is a header in double brackets, which adds an item to an array
abbrev pub kind_is_entry : StatementKind → Bool
kind_is_entry Entry = true
kind_is_entry _ = false

-- a pair of the root gives the key its value
abbrev pub gives_whole : List ℕ → Named → Bool
gives_whole key s = kind_is_pair s.1 && is_alone key s.0

-- a header adds an item to the array at the key
abbrev pub adds_entry : List ℕ → Named → Bool
adds_entry key s = kind_is_entry s.1 && is_alone key s.0

-- The first statement whose name begins with the key. Here and below the first statement has the index `at`.
abbrev pub key_from : ℕ → List ℕ → List Named → Option ℕ
key_from at key [] = None
key_from at key (s ∷ ss) = if begins_key key s.0 then Some at else key_from (suc at) key ss

-- the first pair of the root that gives the key its value
abbrev pub whole_from : ℕ → List ℕ → List Named → Option ℕ
whole_from at key [] = None
whole_from at key (s ∷ ss) = if gives_whole key s then Some at else whole_from (suc at) key ss

-- the headers that add an item each
abbrev pub entries_from : ℕ → List ℕ → List Named → List ℕ
entries_from at key [] = []
entries_from at key (s ∷ ss) = if adds_entry key s then at ∷ entries_from (suc at) key ss else entries_from (suc at) key ss

-- the first statement whose name begins with the key and this name, before a header that adds an item
abbrev pub name_from : ℕ → List ℕ → List ℕ → List Named → Option ℕ
name_from at key name [] = None
name_from at key name (s ∷ ss) =
    if adds_entry key s then None else if begins_both key name s.0 then Some at else name_from (suc at) key name ss

-- the header of an item, or the first statement behind it that gives this name in the item
abbrev pub in_item_from : ℕ → List ℕ → Option (List ℕ) → List Named → Option ℕ
in_item_from at key None ss = Some at
in_item_from at key (Some name) ss = name_from (suc at) key name ss

-- that of the item of this index
abbrev pub item_from : ℕ → List ℕ → ℕ → Option (List ℕ) → List Named → Option ℕ
item_from at key i name [] = None
item_from at key i name (s ∷ ss) =
    if adds_entry key s
    then (if i == 0 then in_item_from at key name ss else item_from (suc at) key (i - 1) name ss)
    else item_from (suc at) key i name ss

-- the one, or where there is none, the other
abbrev pub either : Option ℕ → Option ℕ → Option ℕ
either None other = other
either (Some j) other = Some j

-- the statement that gives the key
abbrev pub index_of_key : List ℕ → List Named → Option ℕ
index_of_key key ss = key_from 0 key ss

-- the statement that gives an item of the array at the key, or a name in the item
abbrev pub index_of_item : List ℕ → ℕ → Option (List ℕ) → List Named → Option ℕ
index_of_item key i name ss = either (whole_from 0 key ss) (item_from 0 key i name ss)
