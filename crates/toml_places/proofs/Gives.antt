-- The statements that the searches find are those that give what is looked for.
use Rattle.std.proofs.Common.{◌≡◌, ◌-◌, ◌+◌, ◌==◌, ℕ, zero, suc, cond, true, false, List, [], ◌∷◌, Option, Some, None, refl, sym, ap, ◌∙◌, subst, inl, inr, arith}
use Rattle.std.proofs.lemmas.Bool.{cases_Bool, false≢true}
use Rattle.std.proofs.Math.Dec.{eqb-suc-zero}
use Rattle.std.proofs.lemmas.Option.{none-some, same_Some}
use Rattle.toml.specs.Data.{table, Items, no_items, push_item, get_item, same_key}
use Rattle.toml.specs.Tables.{Expression, Document, Nodes, no_nodes, open_array, get_node, close, define}
use Rattle.toml_places.specs.Parsed.{defined}
use Rattle.toml_places.specs.Places.{is_there}
use Rattle.toml_places.specs.Search.{key_from, whole_from, name_from, in_item_from, item_from, either}
use Rattle.toml_places.proofs.Writes.{same_key-exact}
use Rattle.toml_places.proofs.Moves.{names_after, NoItems, elsewhere, whole, first, next, tables, inside, step}
use Rattle.toml_places.proofs.Finds.{node_has, there_node, Found, found_here, found_later}
use Rattle.toml_places.proofs.Items.{count, count-push, get_item-push_last, last_has, last_there, past_there, front_has, table_has}
use Rattle.toml_places.proofs.Stays.{value_stays, table_stays, item_stays, no_whole}

-- a key that no statement gave yet
pub key_law : (key : List ℕ) (at : ℕ) (es : List Expression) (doc final : Document) → defined doc es ≡ Some final → get_node key doc.0 ≡ None
    → node_has None None (get_node key final.0) ≡ true → Found (is_there key None None) at doc es (key_from at key (names_after doc es))
key_law key at [] doc final h none there = search (arith, same_Some, false≢true)
key_law key at (e ∷ es) doc final h none there =
    let s = step key doc e es final h in
    let n = ap (key_from at key) s.names in
    let without : is_there key None None (close doc.0) ≡ false = there_node key None None doc.0 ∙ rw none in
    elim s.moves [
      | elsewhere other w a b same ↦
          found_later (is_there key None None) at doc s.after e es _ _ s.defines_it (n ∙ rw other) (key_law key (suc at) es s.after final s.rest (same ∙ none) there)
      | whole d ok w old new ↦
          found_here (is_there key None None) at doc s.after e es _ s.defines_it without (there_node key None None s.after.0 ∙ rw new) (n ∙ rw ok)
      | first ok w a old new ↦
          found_here (is_there key None None) at doc s.after e es _ s.defines_it without (there_node key None None s.after.0 ∙ rw new) (n ∙ rw ok)
      | next done last ok w a old new ↦ absurd (none-some _ (sym none ∙ old))
      | tables x ok w a old new is ↦
          found_here (is_there key None None) at doc s.after e es _ s.defines_it without (there_node key None None s.after.0 ∙ rw new) (n ∙ rw ok)
      | inside done last after g y ok w a both old new writes ↦ absurd (none-some _ (sym none ∙ old))
    ]

-- a name that the last item has not yet
pub name_law : (key : List ℕ) (i : ℕ) (n : List ℕ) (at : ℕ) (es : List Expression) (doc final : Document) (done : Items) (last : Nodes) → defined doc es ≡ Some final
    → get_node key doc.0 ≡ Some (open_array done last) → i ≡ count done → get_node n last ≡ None → node_has (Some i) (Some n) (get_node key final.0) ≡ true
    → Found (is_there key (Some i) (Some n)) at doc es (name_from at key n (names_after doc es))
name_law key i n at [] doc final done last h found e none there = search (arith, false≢true, same_Some, last_has)
name_law key i n at (e ∷ es) doc final done last h found c none there =
    let s = step key doc e es final h in
    let names_with_kinds = ap (name_from at key n) s.names in
    let without : is_there key (Some i) (Some n) (close doc.0) ≡ false = there_node key (Some i) (Some n) doc.0 ∙ rw (found, last_has i n done last c, none) in
    elim s.moves [
      | elsewhere other w a b same ↦
          found_later (is_there key (Some i) (Some n)) at doc s.after e es _ _ s.defines_it (names_with_kinds ∙ rw (a, b n))
          (name_law key i n (suc at) es s.after final done last s.rest (same ∙ found) c none there)
      | whole d ok w old new ↦ absurd (none-some _ (sym old ∙ found))
      | first ok w a old new ↦ absurd (none-some _ (sym old ∙ found))
      | next done' last' ok w a old new ↦
          let both : open_array done' last' ≡ open_array done last = same_Some _ _ (sym old ∙ found) in
          let items : done' ≡ done = cc in
          let lasts : last' ≡ last = cc in
          let kept : get_item i (push_item done' (table (close last'))) ≡ Some (table (close last)) = rw (items, lasts) (get_item-push_last i done _ c) in
          let (more, ns, at_end, is) = item_stays key i (table (close last)) es s.after final (push_item done' (table (close last'))) no_nodes s.rest new kept in
          absurd (false≢true (rw (at_end, front_has i n more ns last is, none) at there))
      | tables x ok w a old new is ↦ absurd (subst NoItems found old)
      | inside done' last' after g y ok w a both old new writes ↦
          let same : open_array done' last' ≡ open_array done last = same_Some _ _ (sym old ∙ found) in
          let items : done' ≡ done = cc in
          let lasts : last' ≡ last = cc in
          let counted : i ≡ count done' = rw items c in
          elim (cases_Bool (same_key n g)) [
            | inl is ↦
                let wrote : get_node n after ≡ Some y = rw (same_key-exact n g is) writes.here in
                found_here (is_there key (Some i) (Some n)) at doc s.after e es _ s.defines_it without
                (there_node key (Some i) (Some n) s.after.0 ∙ rw (new, last_has i n done' after counted, wrote))
                (names_with_kinds ∙ rw (a, both n, is))
            | inr not ↦
                found_later (is_there key (Some i) (Some n)) at doc s.after e es _ _ s.defines_it (names_with_kinds ∙ rw (a, both n, not))
                (name_law key i n (suc at) es s.after final done' after s.rest new counted (writes.others n not ∙ rw lasts none) there)
          ]
    ]

-- the same for a statement that adds an item: the sought one, or one before it
entry_step : (key : List ℕ) (i m : ℕ) (name : Option (List ℕ)) (at : ℕ) (e : Expression) (es : List Expression) (doc after final : Document) (done : Items) (o : Option ℕ)
    → define doc e ≡ Some after → defined after es ≡ Some final → get_node key after.0 ≡ Some (open_array done no_nodes) → i ≡ count done + m
    → is_there key (Some i) name (close doc.0) ≡ false → node_has (Some i) name (get_node key final.0) ≡ true
    → o ≡ cond (m == 0) (in_item_from at key name (names_after after es)) (item_from (suc at) key (m - 1) name (names_after after es))
    → ((n : ℕ) → i ≡ count done + suc n → Found (is_there key (Some i) name) (suc at) after es (item_from (suc at) key n name (names_after after es)))
    → Found (is_there key (Some i) name) at doc (e ∷ es) o
entry_step key i zero None at e es doc after final done o is rest found c without there same more =
    found_here (is_there key (Some i) None) at doc after e es o is without
    (there_node key (Some i) None after.0 ∙ rw (found, last_there i done no_nodes (omega arith))) same
entry_step key i zero (Some n) at e es doc after final done o is rest found c without there same more =
    found_later (is_there key (Some i) (Some n)) at doc after e es o _ is same
    (name_law key i n (suc at) es after final done no_nodes rest found (omega arith) refl there)
entry_step key i (suc m) name at e es doc after final done o is rest found c without there same more =
    let fewer : suc m - 1 ≡ m = omega arith in
    found_later (is_there key (Some i) name) at doc after e es o _ is (same ∙ rw (eqb-suc-zero m, fewer)) (more m c)

-- an item of an array that has fewer
pub more_law : (key : List ℕ) (i m : ℕ) (name : Option (List ℕ)) (at : ℕ) (es : List Expression) (doc final : Document) (done : Items) (last : Nodes) → defined doc es ≡ Some final
    → get_node key doc.0 ≡ Some (open_array done last) → i ≡ count done + suc m → node_has (Some i) name (get_node key final.0) ≡ true
    → Found (is_there key (Some i) name) at doc es (item_from at key m name (names_after doc es))
more_law key i m name at [] doc final done last h found c there = search (arith, false≢true, same_Some, past_there, same_Some doc final h, past_there i m name done last c)
more_law key i m name at (e ∷ es) doc final done last h found c there =
    let s = step key doc e es final h in
    let names_with_kinds = ap (item_from at key m name) s.names in
    let without : is_there key (Some i) name (close doc.0) ≡ false = there_node key (Some i) name doc.0 ∙ rw (found, past_there i m name done last c) in
    elim s.moves [
      | elsewhere other w a b same ↦
          found_later (is_there key (Some i) name) at doc s.after e es _ _ s.defines_it (names_with_kinds ∙ rw a)
          (more_law key i m name (suc at) es s.after final done last s.rest (same ∙ found) c there)
      | whole d ok w old new ↦ absurd (none-some _ (sym old ∙ found))
      | first ok w a old new ↦ absurd (none-some _ (sym old ∙ found))
      | next done' last' ok w a old new ↦
          let same : open_array done' last' ≡ open_array done last = same_Some _ _ (sym old ∙ found) in
          let items : done' ≡ done = cc in
          let counted : i ≡ count (push_item done' (table (close last'))) + m = rw (count-push done' (table (close last')), items) (omega arith) in
          entry_step key i m name at e es doc s.after final (push_item done' (table (close last'))) _ s.defines_it s.rest new counted without there (names_with_kinds ∙ rw a)
          (λ n fewer. more_law key i n name (suc at) es s.after final (push_item done' (table (close last'))) no_nodes s.rest new fewer there)
      | tables x ok w a old new is ↦ absurd (subst NoItems found old)
      | inside done' last' after g y ok w a both old new writes ↦
          let same : open_array done' last' ≡ open_array done last = same_Some _ _ (sym old ∙ found) in
          let items : done' ≡ done = cc in
          let counted : i ≡ count done' + suc m = rw items c in
          found_later (is_there key (Some i) name) at doc s.after e es _ _ s.defines_it (names_with_kinds ∙ rw a)
          (more_law key i m name (suc at) es s.after final done' after s.rest new counted there)
    ]

-- an item at a key that no statement gave yet
pub item_law : (key : List ℕ) (i : ℕ) (name : Option (List ℕ)) (at : ℕ) (es : List Expression) (doc final : Document) → defined doc es ≡ Some final
    → get_node key doc.0 ≡ None → node_has (Some i) name (get_node key final.0) ≡ true
    → Found (is_there key (Some i) name) at doc es (either (whole_from at key (names_after doc es)) (item_from at key i name (names_after doc es)))
item_law key i name at [] doc final h none there = absurd (false≢true (rw (← same_Some doc final h, none) at there))
item_law key i name at (e ∷ es) doc final h none there =
    let s = step key doc e es final h in
    let names_with_kinds = ap (λ ss. either (whole_from at key ss) (item_from at key i name ss)) s.names in
    let without : is_there key (Some i) name (close doc.0) ≡ false = there_node key (Some i) name doc.0 ∙ rw none in
    elim s.moves [
      | elsewhere other w a b same ↦
          found_later (is_there key (Some i) name) at doc s.after e es _ _ s.defines_it (names_with_kinds ∙ rw (w, a))
          (item_law key i name (suc at) es s.after final s.rest (same ∙ none) there)
      | whole d ok w old new ↦
          let stays : get_node key final.0 ≡ get_node key s.after.0 = value_stays key d es s.after final s.rest new ∙ sym new in
          found_here (is_there key (Some i) name) at doc s.after e es _ s.defines_it without (there_node key (Some i) name s.after.0 ∙ rw (← stays) there) (names_with_kinds ∙ rw w)
      | first ok w a old new ↦
          entry_step key i i name at e es doc s.after final no_items _ s.defines_it s.rest new (omega arith) without there
          (names_with_kinds ∙ rw (w, no_whole key _ (suc at) es s.after final s.rest new, a))
          (λ n fewer. more_law key i n name (suc at) es s.after final no_items no_nodes s.rest new fewer there)
      | next done last ok w a old new ↦ absurd (none-some _ (sym none ∙ old))
      | tables x ok w a old new is ↦
          let (y, at_end, table_there) = table_stays key x es s.after final s.rest new is in
          absurd (false≢true (rw (at_end, table_has i name y table_there) at there))
      | inside done last after g y ok w a both old new writes ↦ absurd (none-some _ (sym none ∙ old))
    ]
