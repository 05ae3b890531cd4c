-- What the searches say of statements as code has them.
use Rattle.std.specs.Prelude.{◌≡◌, ℕ, suc, Bool, true, List, [], ◌∷◌, map, Option, Some, None}
use Rattle.std.specs.Borrow.{Bor}
use Rattle.toml.specs.Data.{Members}
use Rattle.toml.specs.Tables.{no_nodes, close, Expression, Document}
use Rattle.toml_parser.specs.declared.key.Key as code
use Rattle.toml_parser.specs.Strings.{Key}
use Rattle.toml_parser.specs.Reading.{key_view}
use Rattle.toml_places.specs.declared.statement.Statement.{Statement}
use Rattle.toml_places.specs.declared.statement.StatementKind.{StatementKind}
use Rattle.toml_places.specs.Parsed.{defined, parts, whole_name, section_after, names_with_kinds}
use Rattle.toml_places.specs.Places.{head, IsGivenBy}
use Rattle.toml_places.specs.Search.{Named, name_from}

-- the key and the kind of a statement
abbrev pub head_of : Statement → Key × StatementKind
head_of s = (key_view s.key, s.kind)

-- the parts of the key of the last header, where there is one
abbrev pub section_view : Option (Bor code.Key) → List (List ℕ)
section_view None = []
section_view (Some key) = parts (key_view key.now)

-- the whole name of a statement after this header
abbrev pub name_in : List (List ℕ) → Statement → List (List ℕ)
name_in section s = whole_name section (key_view s.key) s.kind

-- with its kind
abbrev pub named_statement : List (List ℕ) → Statement → Named
named_statement section s = (name_in section s, s.kind)

-- the table that the pairs after the statement stand in
abbrev pub section_behind : List (List ℕ) → Statement → List (List ℕ)
section_behind section s = section_after section (key_view s.key) s.kind

-- the whole names and the kinds of statements after this header
abbrev pub named_in : List (List ℕ) → List Statement → List Named
named_in section statements = names_with_kinds section (map head_of statements)

-- the whole names and the kinds of the statements of a text
abbrev pub whole_names : List Statement → List Named
whole_names statements = named_in [] statements

-- Whatever values the pairs have: if the statements define a document with what is sought, the index is that of the
-- statement which gives it.
abbrev pub IsPlace : (Members → Bool) → List Statement → Option ℕ → Type 0
IsPlace sought statements place =
    (es : List Expression) (final : Document) → map head es ≡ map head_of statements → defined (no_nodes, []) es ≡ Some final
    → sought (close final.0) ≡ true → (j : ℕ) × (place ≡ Some j) × IsGivenBy sought es j

-- the first statement behind a header that gives the name in the item which the header adds; the header is the first of these, with this index
abbrev pub name_behind : ℕ → List ℕ → List ℕ → List Statement → Option ℕ
name_behind at key name [] = None
name_behind at key name (s ∷ ss) = name_from (suc at) key name (named_in (parts (key_view s.key)) ss)
