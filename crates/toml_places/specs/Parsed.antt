-- The statements of a TOML document, in order, and what they define.
use Rattle.std.specs.Prelude.{ℕ, zero, suc, ◌==◌, if◌then◌else◌, List, [], ◌∷◌, ◌++◌, length, Option, Some, None, option_and_then}
use Rattle.toml_parser.specs.Lexical.{Read, skip_blank}
use Rattle.toml_parser.specs.Strings.{Key}
use Rattle.toml.specs.Tables.{Definition, key_value, std_table, array_table, Expression, Document, define}
use Rattle.toml.specs.Parse.{line, skip_bom}
use Rattle.toml_places.specs.declared.statement.StatementKind.{StatementKind}
use Rattle.toml_places.specs.declared.statement.StatementKind.TheVariants.{Pair, Table, Entry}

-- a statement, and how many bytes of the text are left where it begins
abbrev pub Placed : Type 0
Placed = Expression × ℕ

-- a statement that was read where this many bytes are left, with what follows it
abbrev pub and_more : (List ℕ → List Placed) → ℕ → Read Expression → List Placed
and_more more left None = []
and_more more left (Some (e, rest)) = (e, left) ∷ more rest

-- the statements of the rest of a text, which has fewer than n of them
unfoldable pub statements : ℕ → List ℕ → List Placed
statements zero text = []
statements (suc n) text =
    let start = skip_blank text in
    if length start == 0 then [] else and_more (statements n) (length start) (line start)

-- the statements of a text
abbrev pub statements_of : List ℕ → List Placed
statements_of text = statements (suc (length text)) (skip_bom text)

-- the document after these statements
abbrev pub defined : Document → List Expression → Option Document
defined doc [] = Some doc
defined doc (e ∷ es) = option_and_then (λ next. defined next es) (define doc e)

-- what a definition is by its form
abbrev pub statement_kind : Definition → StatementKind
statement_kind (key_value d) = Pair
statement_kind std_table = Table
statement_kind array_table = Entry

-- the parts of a key
abbrev pub parts : Key → List (List ℕ)
parts key = key.0 ++ key.1 ∷ []

-- the whole name that a statement defines: a pair's stands in the table of the header before it
abbrev pub whole_name : List (List ℕ) → Key → StatementKind → List (List ℕ)
whole_name section key Pair = section ++ parts key
whole_name section key _ = parts key

-- the table that the pairs after a statement stand in
abbrev pub section_after : List (List ℕ) → Key → StatementKind → List (List ℕ)
section_after section key Pair = section
section_after section key _ = parts key

-- the whole names and the kinds of statements after a header
abbrev pub names_with_kinds : List (List ℕ) → List (Key × StatementKind) → List (List (List ℕ) × StatementKind)
names_with_kinds section [] = []
names_with_kinds section ((key, kind) ∷ es) = (whole_name section key kind, kind) ∷ names_with_kinds (section_after section key kind) es
