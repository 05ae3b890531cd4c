-- What is answered of other names is what the document has: where none is answered it has none, and it has the one that is.
use Rattle.std.specs.Prelude.{◌≡◌, ℕ, Bool, true, false, List, [], map, Option, Some, None}
use Rattle.toml.specs.Data.{Members}
use Rattle.toml.specs.Tables.{no_nodes, close, Expression, Document}
use Rattle.toml_places.specs.declared.statement.Statement.{Statement}
use Rattle.toml_places.specs.Parsed.{defined}
use Rattle.toml_places.specs.Besides.{is_one_of, key_besides, item_besides}
use Rattle.toml_places.specs.Places.{head, is_there}
use Rattle.toml_places.specs.Search.{whole_from}
use Rattle.toml_places.specs.Statements.{head_of, whole_names}

-- Whatever values the pairs have: if the statements define a document, each name that it has there is one of these.
abbrev pub HasOnly : List (List ℕ) → (List ℕ → Members → Bool) → List Statement → Type 0
HasOnly known there statements =
    (es : List Expression) (final : Document) (name : List ℕ) → map head es ≡ map head_of statements → defined (no_nodes, []) es ≡ Some final
    → there name (close final.0) ≡ true → is_one_of name known ≡ true

-- Whatever values the pairs have: if the statements define a document, it has this name there, which is none of these.
pub record HasOther (known : List (List ℕ)) (there : List ℕ → Members → Bool) (statements : List Statement) (name : List ℕ) : Type 0 where
  pub other : is_one_of name known ≡ false
  pub has : (es : List Expression) (final : Document) → map head es ≡ map head_of statements → defined (no_nodes, []) es ≡ Some final → there name (close final.0) ≡ true

-- where no key besides the known ones is answered, the root has no other
abbrev pub NoOtherKey : Type 0
NoOtherKey = (known : List (List ℕ)) (statements : List Statement) → key_besides known (whole_names statements) ≡ None → HasOnly known (λ name. is_there name None None) statements

-- Where no name in an item is answered, the item has no other: unless a pair gives the whole array, whose value isn't read.
abbrev pub NoOtherName : Type 0
NoOtherName =
    (key : List ℕ) (i : ℕ) (known : List (List ℕ)) (statements : List Statement) → whole_from 0 key (whole_names statements) ≡ None
    → item_besides key i known statements ≡ None → HasOnly known (λ name. is_there key (Some i) (Some name)) statements

-- the root has the key that is answered, and it is none of the known ones
abbrev pub OtherKey : Type 0
OtherKey =
    (known : List (List ℕ)) (statements : List Statement) (name : List ℕ) → key_besides known (whole_names statements) ≡ Some name
    → HasOther known (λ name. is_there name None None) statements name

-- the item has the name that is answered, and it is none of the known ones
abbrev pub OtherName : Type 0
OtherName =
    (key : List ℕ) (i : ℕ) (known : List (List ℕ)) (statements : List Statement) (name : List ℕ) → item_besides key i known statements ≡ Some name
    → HasOther known (λ name. is_there key (Some i) (Some name)) statements name
