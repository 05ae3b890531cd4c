-- Which statement of a TOML document gives it what is looked for.
use Rattle.std.specs.Prelude.{◌≡◌, ◌<◌, ℕ, suc, Bool, true, false, List, [], length, take, Option, Some, None, is_some}
use Rattle.toml_parser.specs.Strings.{Key}
use Rattle.toml.specs.Data.{Data, Members, get, at, get_member}
use Rattle.toml.specs.Tables.{no_nodes, close, Expression, Document}
use Rattle.toml_places.specs.Parsed.{defined, statement_kind}
use Rattle.toml_places.specs.declared.statement.StatementKind.{StatementKind}

-- the value is there, with such a key
abbrev pub name_there : Option (List ℕ) → Option Data → Bool
name_there name None = false
name_there None (Some d) = true
name_there (Some name) (Some d) = is_some (get name d)

-- the value is there, with an item of this index that has such a key
abbrev pub entry_there : Option ℕ → Option (List ℕ) → Option Data → Bool
entry_there entry name None = false
entry_there None name (Some d) = true
entry_there (Some i) name (Some d) = name_there name (at i d)

-- The tree has this key; in its value an item of this index, and in that this key, where they are asked for.
abbrev pub is_there : List ℕ → Option ℕ → Option (List ℕ) → Members → Bool
is_there key entry name ms = entry_there entry name (get_member key ms)

-- the statement of this index gives the document what is looked for: with the statements before it the document hasn't it,
-- and with this one it has
pub record IsGivenBy (sought : Members → Bool) (es : List Expression) (j : ℕ) : Type 0 where
  pub within : j < length es
  pub before : Document
  pub is_before : defined (no_nodes, []) (take j es) ≡ Some before
  pub without : sought (close before.0) ≡ false
  pub after : Document
  pub is_after : defined (no_nodes, []) (take (suc j) es) ≡ Some after
  pub with : sought (close after.0) ≡ true

-- the key and the kind of a statement
abbrev pub head : Expression → Key × StatementKind
head e = (e.0, statement_kind e.1)
