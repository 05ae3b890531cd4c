-- What the searches for another name find is there, and where they find none, each name that is there is known.
use Rattle.std.proofs.Common.{◌≡◌, ℕ, suc, Bool, true, false, if◌then◌else◌, List, [], ◌∷◌, drop, Option, Some, None, refl, sym, ap, ◌∙◌, subst, inl, inr, ◌⊎◌, arith}
use Rattle.std.proofs.lemmas.Bool.{and_parts, false≢true}
use Rattle.std.proofs.lemmas.Option.{none-some, same_Some}
use Rattle.std.specs.List.{slice_get}
use Rattle.std.specs.Prelude.{option_and_then}
use Rattle.toml.specs.Data.{same_key}
use Rattle.toml.specs.Tables.{no_nodes}
use Rattle.toml.proofs.NodeLaws.{same_key-self}
use Rattle.toml_parser.specs.Reading.{key_view}
use Rattle.toml_places.specs.declared.statement.Statement.{Statement}
use Rattle.toml_places.specs.Parsed.{parts, names_with_kinds}
use Rattle.toml_places.specs.Besides.{is_one_of, besides, key_besides, part_behind, name_besides, names_behind}
use Rattle.toml_places.specs.Law.{NoOtherKey, NoOtherName, OtherKey, OtherName}
use Rattle.toml_places.specs.Search.{Named, begins_both, adds_entry, key_from, name_from, entries_from, item_from, index_of_key, index_of_item}
use Rattle.toml_places.specs.Statements.{named_in, whole_names, name_behind}
use Rattle.toml_places.proofs.Writes.{same_key-exact}
use Rattle.toml_places.proofs.Finds.{there_node}
use Rattle.toml_places.proofs.Indices.{key_is_place, item_is_place, no_entry, is_entry_at}
use Rattle.toml_places.proofs.There.{key_there, item_there}

-- ---- where no part is answered, no later one is, and this one is known

besides-later : (known : List (List ℕ)) (o later : Option (List ℕ)) → besides known o later ≡ None → later ≡ None
besides-later known o later h = search (arith, none-some)

besides-known : (known : List (List ℕ)) (part : List ℕ) (later : Option (List ℕ)) → besides known (Some part) later ≡ None → is_one_of part known ≡ true
besides-known known part later h = search (arith, none-some)

-- ---- keys of the root

key_known : (name : List ℕ) (known : List (List ℕ)) (at j : ℕ) (ss : List Named) → key_from at name ss ≡ Some j → key_besides known ss ≡ None → is_one_of name known ≡ true
key_known name known at j [] found none = absurd (none-some j found)
key_known name known at j (([], kind) ∷ ss) found none = key_known name known (suc at) j ss found none
key_known name known at j ((part ∷ parts, kind) ∷ ss) found none =
    by_test (same_key name part) refl found (λ later. key_known name known (suc at) j ss later (besides-later known (Some part) (key_besides known ss) none))
  where
    by_test : (t : Bool) → same_key name part ≡ t → (if t then Some at else key_from (suc at) name ss) ≡ Some j → (key_from (suc at) name ss ≡ Some j → is_one_of name known ≡ true)
        → is_one_of name known ≡ true
    by_test true e found more = subst (λ n. is_one_of n known ≡ true) (sym (same_key-exact name part e)) (besides-known known part (key_besides known ss) none)
    by_test false e found more = more found

pub no_other_key : NoOtherKey
no_other_key known statements none es final name heads defines there =
    search (arith, key_is_place, key_known, key_is_place name statements (index_of_key name (whole_names statements)) refl es final heads defines there)

-- ---- names in an item

both_known : (key name : List ℕ) (known names : List (List ℕ)) (later : Option (List ℕ)) → begins_both key name names ≡ true → besides known (part_behind key names) later ≡ None
    → is_one_of name known ≡ true
both_known key name known [] later both none = absurd (false≢true both)
both_known key name known (part ∷ []) later both none = absurd (false≢true (and_parts (same_key key part) false both).1)
both_known key name known (part ∷ next ∷ names) later both none =
    let (first, second) = and_parts (same_key key part) (same_key name next) both in
    subst (λ n. is_one_of n known ≡ true) (sym (same_key-exact name next second))
    (besides-known known next later (subst (λ t. besides known (if t then Some next else None) later ≡ None) first none))

name_known : (key name : List ℕ) (known : List (List ℕ)) (at j : ℕ) (ss : List Named) → name_from at key name ss ≡ Some j → name_besides key known ss ≡ None → is_one_of name known ≡ true
name_known key name known at j [] found none = absurd (none-some j found)
name_known key name known at j (s ∷ ss) found none = by_entry (adds_entry key s) found none (λ later others. name_known key name known (suc at) j ss later others)
  where
    More : Type 0
    More = name_from (suc at) key name ss ≡ Some j → name_besides key known ss ≡ None → is_one_of name known ≡ true

    by_both : (t : Bool) → begins_both key name s.0 ≡ t → (if t then Some at else name_from (suc at) key name ss) ≡ Some j → besides known (part_behind key s.0) (name_besides key known ss) ≡ None
        → More → is_one_of name known ≡ true
    by_both true both found none more = both_known key name known s.0 (name_besides key known ss) both none
    by_both false both found none more = more found (besides-later known (part_behind key s.0) (name_besides key known ss) none)

    by_entry : (t : Bool) → (if t then None else if begins_both key name s.0 then Some at else name_from (suc at) key name ss) ≡ Some j
        → (if t then None else besides known (part_behind key s.0) (name_besides key known ss)) ≡ None → More → is_one_of name known ≡ true
    by_entry true found none more = absurd (none-some j found)
    by_entry false found none more = by_both (begins_both key name s.0) refl found none more

behind_known : (key name : List ℕ) (known : List (List ℕ)) (at j : ℕ) (statements : List Statement) → name_behind at key name statements ≡ Some j
    → name_besides key known (names_behind statements) ≡ None → is_one_of name known ≡ true
behind_known key name known at j statements h h1 = search (arith, none-some, name_known)

-- where the header of the item is, if there is one
item_known : (key : List ℕ) (i : ℕ) (known : List (List ℕ)) (statements : List Statement) (name : List ℕ) (j : ℕ) (header : Option ℕ)
    → slice_get (entries_from 0 key (whole_names statements)) i ≡ header → option_and_then (λ k. name_besides key known (names_behind (drop k statements))) header ≡ None
    → item_from 0 key i (Some name) (whole_names statements) ≡ Some j → is_one_of name known ≡ true
item_known key i known statements name j None at none found = absurd (none-some j (sym (no_entry 0 key i (Some name) (whole_names statements) at) ∙ found))
item_known key i known statements name j (Some k) at none found = search (arith, is_entry_at, behind_known, is_entry_at 0 key i k [] statements)

pub no_other_name : NoOtherName
no_other_name key i known statements whole none es final name heads defines there =
    search (arith, item_is_place, item_known, item_is_place key i (Some name) statements (index_of_item key i (Some name) (whole_names statements)) refl es final heads defines there)

-- ---- what is answered is there

-- what is known of a part that is answered: it is none of the known ones, and a statement of these gives it
besides-some : (known : List (List ℕ)) (part name : List ℕ) (later : Option (List ℕ)) → besides known (Some part) later ≡ Some name
    → ((is_one_of part known ≡ false) × (part ≡ name)) ⊎ (later ≡ Some name)
besides-some known part name later h = search (arith, same_Some)

key_found : (known : List (List ℕ)) (name : List ℕ) (at : ℕ) (ss : List Named) → key_besides known ss ≡ Some name → (is_one_of name known ≡ false) × ((j : ℕ) × (key_from at name ss ≡ Some j))
key_found known name at [] h = absurd (none-some name h)
key_found known name at (([], kind) ∷ ss) h = key_found known name (suc at) ss h
key_found known name at ((part ∷ parts, kind) ∷ ss) h = by_side (besides-some known part name (key_besides known ss) h) (λ later. key_found known name (suc at) ss later)
  where
    Answer : Type 0
    Answer = (is_one_of name known ≡ false) × ((j : ℕ) × (key_from at name ((part ∷ parts, kind) ∷ ss) ≡ Some j))

    by_test : (t : Bool) → same_key name part ≡ t → (is_one_of name known ≡ false) × ((j : ℕ) × (key_from (suc at) name ss ≡ Some j)) → Answer
    by_test true e (other, (j, found)) = (other, (at, rw e))
    by_test false e (other, (j, found)) = (other, (j, rw e found))

    by_side : ((is_one_of part known ≡ false) × (part ≡ name)) ⊎ (key_besides known ss ≡ Some name)
        → (key_besides known ss ≡ Some name → (is_one_of name known ≡ false) × ((j : ℕ) × (key_from (suc at) name ss ≡ Some j))) → Answer
    by_side (inl (other, same)) more = (subst (λ n. is_one_of n known ≡ false) same other, (at, rw (← same, same_key-self part)))
    by_side (inr later) more = by_test (same_key name part) refl (more later)

pub other_key : OtherKey
other_key known statements name h =
    let (other, (j, found)) = key_found known name 0 (whole_names statements) h in
    record {
      other = other;
      has = λ es final heads defines.
          there_node name None None final.0
          ∙ key_there name 0 j es (no_nodes, []) final defines (ap (λ hs. key_from 0 name (names_with_kinds [] hs)) heads ∙ found);
    }

-- the part that is answered stands behind the key
part_both : (key name : List ℕ) (names : List (List ℕ)) → part_behind key names ≡ Some name → begins_both key name names ≡ true
part_both key name names h = search (arith, none-some, same_Some, same_key-self)

name_found : (key name : List ℕ) (known : List (List ℕ)) (at : ℕ) (ss : List Named) → name_besides key known ss ≡ Some name → (is_one_of name known ≡ false) × ((j : ℕ) × (name_from at key name ss ≡ Some j))
name_found key name known at [] h = absurd (none-some name h)
name_found key name known at (s ∷ ss) h = by_entry (adds_entry key s) refl h (λ later. name_found key name known (suc at) ss later)
  where
    Later : Type 0
    Later = name_besides key known ss ≡ Some name → (is_one_of name known ≡ false) × ((j : ℕ) × (name_from (suc at) key name ss ≡ Some j))

    Answer : Type 0
    Answer = (is_one_of name known ≡ false) × ((j : ℕ) × ((if begins_both key name s.0 then Some at else name_from (suc at) key name ss) ≡ Some j))

    by_both : (t : Bool) → begins_both key name s.0 ≡ t → (is_one_of name known ≡ false) × ((j : ℕ) × (name_from (suc at) key name ss ≡ Some j)) → Answer
    by_both true e (other, (j, found)) = (other, (at, rw e))
    by_both false e (other, (j, found)) = (other, (j, rw e found))

    by_part : (o : Option (List ℕ)) → part_behind key s.0 ≡ o → besides known o (name_besides key known ss) ≡ Some name → Later → Answer
    by_part None e h more = by_both (begins_both key name s.0) refl (more h)
    by_part (Some part) e h more = by_side (besides-some known part name (name_besides key known ss) h)
      where
        by_side : ((is_one_of part known ≡ false) × (part ≡ name)) ⊎ (name_besides key known ss ≡ Some name) → Answer
        by_side (inl (other, same)) = (subst (λ n. is_one_of n known ≡ false) same other, (at, rw (part_both key name s.0 (e ∙ ap Some same))))
        by_side (inr later) = by_both (begins_both key name s.0) refl (more later)

    by_entry : (t : Bool) → adds_entry key s ≡ t → (if t then None else besides known (part_behind key s.0) (name_besides key known ss)) ≡ Some name → Later
        → (is_one_of name known ≡ false) × ((j : ℕ) × (name_from at key name (s ∷ ss) ≡ Some j))
    by_entry true e h more = absurd (none-some name h)
    by_entry false e h more = let (other, (j, found)) = by_part (part_behind key s.0) refl h more in (other, (j, rw e found))

behind_found : (key name : List ℕ) (known : List (List ℕ)) (at : ℕ) (statements : List Statement) → name_besides key known (names_behind statements) ≡ Some name
    → (is_one_of name known ≡ false) × ((j : ℕ) × (name_behind at key name statements ≡ Some j))
behind_found key name known at [] h = absurd (none-some name h)
behind_found key name known at (s ∷ statements) h = name_found key name known (suc at) (named_in (parts (key_view s.key)) statements) h

item_found : (key : List ℕ) (i : ℕ) (known : List (List ℕ)) (statements : List Statement) (name : List ℕ) (header : Option ℕ)
    → slice_get (entries_from 0 key (whole_names statements)) i ≡ header → option_and_then (λ k. name_besides key known (names_behind (drop k statements))) header ≡ Some name
    → (is_one_of name known ≡ false) × ((j : ℕ) × (item_from 0 key i (Some name) (whole_names statements) ≡ Some j))
item_found key i known statements name None at h = absurd (none-some name h)
item_found key i known statements name (Some k) at h = search (arith, is_entry_at, behind_found, is_entry_at 0 key i k [] statements, behind_found key name known k (drop k statements) h)

pub other_name : OtherName
other_name key i known statements name h = search (arith, item_found, there_node, item_there, item_found key i known statements name (slice_get (entries_from 0 key (whole_names statements)) i) refl h)
