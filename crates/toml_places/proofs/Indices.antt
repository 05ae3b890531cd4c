-- What the searches find, said of statements as code has them.
use Rattle.std.proofs.Common.{◌≡◌, ℕ, zero, suc, ◌+◌, ◌-◌, ◌==◌, ◌<◌, Bool, true, false, cond, List, [], ◌∷◌, drop, map, length, Option, Some, None, is_some, refl, sym, ap, ◌∙◌, inl, inr, arith}
use Rattle.std.proofs.Math.Dec.{eqb-suc-zero}
use Rattle.std.proofs.lemmas.Bool.{cases_Bool, and_parts, false≢true}
use Rattle.std.proofs.lemmas.Option.{none-some, same_Some}
use Rattle.std.specs.List.{slice_get}
use Rattle.std.specs.Option.{IfSome}
use Rattle.toml_parser.specs.Strings.{Key}
use Rattle.toml.specs.Data.{Members}
use Rattle.toml.specs.Tables.{no_nodes, Expression}
use Rattle.toml_places.specs.declared.statement.Statement.{Statement}
use Rattle.toml_places.specs.declared.statement.StatementKind.{StatementKind}
use Rattle.toml_places.specs.Parsed.{parts, names_with_kinds, section_after}
use Rattle.toml_places.specs.Places.{is_there, IsGivenBy, head}
use Rattle.toml_places.specs.Search.{Named, kind_is_entry, gives_whole, adds_entry, whole_from, entries_from, in_item_from, item_from, index_of_key, index_of_item}
use Rattle.toml_places.specs.Statements.{named_in, named_statement, section_behind, whole_names, name_behind, IsPlace}
use Rattle.toml_places.proofs.Finds.{Found, there_node}
use Rattle.toml_places.proofs.Gives.{key_law, item_law}

gives_it : (sought : Members → Bool) (es : List Expression) (place other : Option ℕ) → place ≡ other → Found sought 0 (no_nodes, []) es other → (j : ℕ) × (place ≡ Some j) × IsGivenBy sought es j
gives_it sought es place other same (j, is, g) = search arith

pub key_is_place : (key : List ℕ) (statements : List Statement) (place : Option ℕ) → place ≡ index_of_key key (whole_names statements) → IsPlace (is_there key None None) statements place
key_is_place key statements place found es final heads defines there =
    let same : names_with_kinds [] (map head es) ≡ whole_names statements = ap (names_with_kinds []) heads in
    gives_it (is_there key None None) es place (index_of_key key (names_with_kinds [] (map head es))) (found ∙ ap (index_of_key key) (sym same))
    (key_law key 0 es (no_nodes, []) final defines refl (sym (there_node key None None final.0) ∙ there))

pub item_is_place : (key : List ℕ) (i : ℕ) (name : Option (List ℕ)) (statements : List Statement) (place : Option ℕ) → place ≡ index_of_item key i name (whole_names statements)
    → IsPlace (is_there key (Some i) name) statements place
item_is_place key i name statements place found es final heads defines there =
    let same : names_with_kinds [] (map head es) ≡ whole_names statements = ap (names_with_kinds []) heads in
    gives_it (is_there key (Some i) name) es place (index_of_item key i name (names_with_kinds [] (map head es))) (found ∙ ap (index_of_item key i name) (sym same))
    (item_law key i name 0 es (no_nodes, []) final defines refl (sym (there_node key (Some i) name final.0) ∙ there))

-- no header is found where there are too few
pub no_entry : (at : ℕ) (key : List ℕ) (i : ℕ) (name : Option (List ℕ)) (ss : List Named) → slice_get (entries_from at key ss) i ≡ None → item_from at key i name ss ≡ None
no_entry at key i name [] h = refl
no_entry at key i name (s ∷ ss) h =
    elim (cases_Bool (adds_entry key s)) [
      | inl adds ↦ rw adds (none_behind at key i name ss (rw adds at h) (λ k e. no_entry (suc at) key k name ss e))
      | inr not ↦ rw not (no_entry (suc at) key i name ss (rw not at h))
    ]
  where
    none_behind : (at : ℕ) (key : List ℕ) (i : ℕ) (name : Option (List ℕ)) (ss : List Named) → slice_get (at ∷ entries_from (suc at) key ss) i ≡ None
        → ((k : ℕ) → slice_get (entries_from (suc at) key ss) k ≡ None → item_from (suc at) key k name ss ≡ None)
        → cond (i == 0) (in_item_from at key name ss) (item_from (suc at) key (i - 1) name ss) ≡ None
    none_behind at key zero name ss h more = absurd (none-some at (sym h))
    none_behind at key (suc i) name ss h more =
        let fewer : suc i - 1 ≡ i = omega arith in
        rw (eqb-suc-zero i, fewer) (more i h)

-- a header that is found: it gives the item, and the names behind it are those of the item
pub record IsEntry (at : ℕ) (key : List ℕ) (i j : ℕ) (section : List (List ℕ)) (statements : List Statement) : Type 0 where
  pub m : ℕ
  pub index : j ≡ at + m
  pub within : m < length statements
  pub item : item_from at key i None (named_in section statements) ≡ Some j
  pub name : (n : List ℕ) → item_from at key i (Some n) (named_in section statements) ≡ name_behind j key n (drop m statements)

entry_section : (section : List (List ℕ)) (key : Key) (kind : StatementKind) → kind_is_entry kind ≡ true → section_after section key kind ≡ parts key
entry_section section key kind h = search (arith, false≢true)

entry_behind : (at : ℕ) (key : List ℕ) (i j : ℕ) (section : List (List ℕ)) (s : Statement) (statements : List Statement) → adds_entry key (named_statement section s) ≡ true
    → slice_get (at ∷ entries_from (suc at) key (named_in (section_behind section s) statements)) i ≡ Some j
    → ((k : ℕ) → slice_get (entries_from (suc at) key (named_in (section_behind section s) statements)) k ≡ Some j → IsEntry (suc at) key k j (section_behind section s) statements)
    → IsEntry at key i j section (s ∷ statements)
entry_behind at key zero j section s statements adds h more = search (arith, same_Some, entry_section, and_parts)
entry_behind at key (suc i) j section s statements adds h more =
    let e = more i h in
    let fewer : suc i - 1 ≡ i = omega arith in
    record {
      m = suc e.m;
      index = e.index ∙ omega arith;
      within = omega (arith, e.within);
      item = rw (adds, eqb-suc-zero i, fewer) e.item;
      name = λ n. rw (adds, eqb-suc-zero i, fewer) (e.name n);
    }

entry_later : (at : ℕ) (key : List ℕ) (i j : ℕ) (section : List (List ℕ)) (s : Statement) (statements : List Statement) → adds_entry key (named_statement section s) ≡ false
    → IsEntry (suc at) key i j (section_behind section s) statements → IsEntry at key i j section (s ∷ statements)
entry_later at key i j section s statements not e = record {
  m = suc e.m;
  index = e.index ∙ omega arith;
  within = omega (arith, e.within);
  item = rw not e.item;
  name = λ n. rw not (e.name n);
}

pub is_entry_at : (at : ℕ) (key : List ℕ) (i j : ℕ) (section : List (List ℕ)) (statements : List Statement) → slice_get (entries_from at key (named_in section statements)) i ≡ Some j
    → IsEntry at key i j section statements
is_entry_at at key i j section [] h = absurd (none-some j h)
is_entry_at at key i j section (s ∷ statements) h =
    elim (cases_Bool (adds_entry key (named_statement section s))) [
      | inl adds ↦ entry_behind at key i j section s statements adds (rw adds at h) (λ k e. is_entry_at (suc at) key k j (section_behind section s) statements e)
      | inr not ↦ entry_later at key i j section s statements not (is_entry_at (suc at) key i j (section_behind section s) statements (rw not at h))
    ]

whole_before_end : (at : ℕ) (key : List ℕ) (section : List (List ℕ)) (statements : List Statement) (j : ℕ) → whole_from at key (named_in section statements) ≡ Some j → j < at + length statements
whole_before_end at key section [] j h = absurd (none-some j h)
whole_before_end at key section (s ∷ statements) j h =
    elim (cases_Bool (gives_whole key (named_statement section s))) [
      | inl gives ↦ let here : at ≡ j = same_Some at j (rw gives at h) in omega arith
      | inr not ↦ omega (arith, whole_before_end (suc at) key (section_behind section s) statements j (rw not at h))
    ]

-- the pair that gives the whole array is one of the statements
pub whole_within : (key : List ℕ) (statements : List Statement) (whole : Option ℕ) → whole ≡ whole_from 0 key (whole_names statements) → IfSome whole (λ j. j < length statements)
whole_within key statements whole h = search (arith, whole_before_end)

unwhole : (key : List ℕ) (i : ℕ) (name : Option (List ℕ)) (ss : List Named) (whole : Option ℕ) → is_some whole ≡ false → whole ≡ whole_from 0 key ss → index_of_item key i name ss ≡ item_from 0 key i name ss
unwhole key i name ss whole h h1 = search (arith, false≢true)

-- the headers, and what a look-up among them finds where no pair gives the whole array
module _ (key : List ℕ) (statements : List Statement) (entries : List ℕ) (all : entries ≡ entries_from 0 key (whole_names statements)) (i : ℕ) where
  entry_of : (j : ℕ) → slice_get entries i ≡ Some j → IsEntry 0 key i j [] statements
  entry_of j found = is_entry_at 0 key i j [] statements (rw (← all) found)

  pub header_within : (j : ℕ) → slice_get entries i ≡ Some j → j < length statements
  header_within j found = let e = entry_of j found in omega (arith, e.index, e.within)

  module _ (whole : Option ℕ) (pair : whole ≡ whole_from 0 key (whole_names statements)) (none : is_some whole ≡ false) where
    pub header_item : (j : ℕ) → slice_get entries i ≡ Some j → Some j ≡ index_of_item key i None (whole_names statements)
    header_item j found = sym (unwhole key i None (whole_names statements) whole none pair ∙ (entry_of j found).item)

    pub header_name : (n : List ℕ) (j : ℕ) → slice_get entries i ≡ Some j → name_behind j key n (drop j statements) ≡ index_of_item key i (Some n) (whole_names statements)
    header_name n j found = search (arith, entry_of, unwhole, entry_of j found)

    pub header_none : (name : Option (List ℕ)) → slice_get entries i ≡ None → None ≡ index_of_item key i name (whole_names statements)
    header_none name found = sym (unwhole key i name (whole_names statements) whole none pair ∙ no_entry 0 key i name (whole_names statements) (rw (← all) found))
