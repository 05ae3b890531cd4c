-- Names that are known, one after the other.
use Rattle.std.proofs.Common.{◌≡◌, ℕ, ◌+◌, ◌<◌, Bool, true, false, ◌||◌, List, drop, map, get_or, length, ap, ◌∙◌, sym, Option, option_and_then, arith}
use Rattle.std.specs.List.{slice_get}
use Rattle.std.proofs.lemmas.List.{drop_more}
use Rattle.std.specs.Borrow.{Bor}
use Rattle.std.proofs.lemmas.Grind.{common_steps}
use Rattle.toml.specs.Data.{same_key}
use Rattle.toml_places.specs.declared.statement.Statement.{Statement}
use Rattle.toml_places.specs.Search.{entries_from}
use Rattle.toml_places.specs.Statements.{whole_names}
use Rattle.toml_places.specs.Besides.{is_one_of, name_besides, names_behind, item_besides}

-- the names from an index on: that one, and those from the next on
among_more : (name : List ℕ) (known : List (Bor (List ℕ))) (i : ℕ) (d : Bor (List ℕ)) (is : Bool) → i < length known → is ≡ same_key name (get_or known i d).now
    → is_one_of name (map (λ k. k.now) (drop i known)) ≡ (is || is_one_of name (map (λ k. k.now) (drop (i + 1) known)))
among_more name known i d is within same = search (arith, drop_more)

-- it is the name
pub among_here : (name : List ℕ) (known : List (Bor (List ℕ))) (i : ℕ) (d : Bor (List ℕ)) (is : Bool) → i < length known → is ≡ same_key name (get_or known i d).now → is ≡ true
    → is_one_of name (map (λ k. k.now) (drop i known)) ≡ true
among_here name known i d is within same holds = grind (arith, common_steps, among_more)

-- it is another
pub among_later : (name : List ℕ) (known : List (Bor (List ℕ))) (i : ℕ) (d : Bor (List ℕ)) (is : Bool) → i < length known → is ≡ same_key name (get_or known i d).now → is ≡ false
    → is_one_of name (map (λ k. k.now) (drop i known)) ≡ is_one_of name (map (λ k. k.now) (drop (i + 1) known))
among_later name known i d is within same fails = grind (arith, common_steps, among_more)

-- what a look-up among the headers of an array finds
pub item_at : (key : List ℕ) (i : ℕ) (known : List (List ℕ)) (statements : List Statement) (entries : List ℕ) (found : Option ℕ) → entries ≡ entries_from 0 key (whole_names statements)
    → slice_get entries i ≡ found → option_and_then (λ j. name_besides key known (names_behind (drop j statements))) found ≡ item_besides key i known statements
item_at key i known statements entries found all is = ap (option_and_then (λ j. name_besides key known (names_behind (drop j statements)))) (sym is ∙ ap (λ es. slice_get es i) all)
