-- What statements give is there at the end.
use Rattle.std.proofs.Common.{◌≡◌, ◌-◌, ◌+◌, ◌==◌, ℕ, suc, if◌then◌else◌, true, false, List, [], ◌∷◌, Option, Some, None, refl, sym, ap, ◌∙◌, subst, inl, inr, arith}
use Rattle.std.proofs.lemmas.Bool.{cases_Bool, false≢true}
use Rattle.std.proofs.Math.Dec.{eqb-suc-zero}
use Rattle.std.proofs.lemmas.Option.{none-some, same_Some}
use Rattle.toml.specs.Data.{table, Items, no_items, push_item, same_key}
use Rattle.toml.specs.Tables.{Expression, Document, Node, Nodes, no_nodes, value, open_table, open_array, get_node, close}
use Rattle.toml_places.specs.declared.statement.StatementKind.{StatementKind}
use Rattle.toml_places.specs.Parsed.{defined}
use Rattle.toml_places.specs.Search.{gives_whole, adds_entry, key_from, name_from, in_item_from, item_from}
use Rattle.toml_places.proofs.Writes.{same_key-exact}
use Rattle.toml_places.proofs.Steps.{IsTable}
use Rattle.toml_places.proofs.Moves.{names_after, NoItems, elsewhere, whole, first, next, tables, inside, step}
use Rattle.toml_places.proofs.Finds.{node_has}
use Rattle.toml_places.proofs.Items.{count, count-push, get_item-push_last, last_has, front_has}
use Rattle.toml_places.proofs.Stays.{item_stays}

-- ---- keys of the root

-- what is at a key, something is there at the end
key_stays : (key : List ℕ) (x : Node) (es : List Expression) (doc final : Document) → defined doc es ≡ Some final → get_node key doc.0 ≡ Some x → (y : Node) × (get_node key final.0 ≡ Some y)
key_stays key x [] doc final h found = (x, rw (← same_Some doc final h) found)
key_stays key x (e ∷ es) doc final h found =
    let s = step key doc e es final h in
    elim s.moves [
      | elsewhere other w a b same ↦ key_stays key x es s.after final s.rest (same ∙ found)
      | whole d ok w old new ↦ key_stays key _ es s.after final s.rest new
      | first ok w a old new ↦ key_stays key _ es s.after final s.rest new
      | next done last ok w a old new ↦ key_stays key _ es s.after final s.rest new
      | tables y ok w a old new is ↦ key_stays key _ es s.after final s.rest new
      | inside done last after g y ok w a both old new writes ↦ key_stays key _ es s.after final s.rest new
    ]

-- where a whole name begins with a key, that key is there
pub key_there : (key : List ℕ) (at j : ℕ) (es : List Expression) (doc final : Document) → defined doc es ≡ Some final → key_from at key (names_after doc es) ≡ Some j
    → node_has None None (get_node key final.0) ≡ true
key_there key at j [] doc final h found = absurd (none-some j found)
key_there key at j (e ∷ es) doc final h found =
    let s = step key doc e es final h in
    let here = ap (key_from at key) (sym s.names) ∙ found in
    elim s.moves [
      | elsewhere other w a b same ↦ key_there key (suc at) j es s.after final s.rest (rw other at here)
      | whole d ok w old new ↦ (let (y, is) = key_stays key _ es s.after final s.rest new in rw is)
      | first ok w a old new ↦ (let (y, is) = key_stays key _ es s.after final s.rest new in rw is)
      | next done last ok w a old new ↦ (let (y, is) = key_stays key _ es s.after final s.rest new in rw is)
      | tables y ok w a old new is ↦ (let (y, is) = key_stays key _ es s.after final s.rest new in rw is)
      | inside done last after g y ok w a both old new writes ↦ (let (y, is) = key_stays key _ es s.after final s.rest new in rw is)
    ]

-- ---- names in an item

-- a name that the last item has stays in it
name_stays : (key n : List ℕ) (x : Node) (i : ℕ) (es : List Expression) (doc final : Document) (done : Items) (last : Nodes) → defined doc es ≡ Some final
    → get_node key doc.0 ≡ Some (open_array done last) → i ≡ count done → get_node n last ≡ Some x → node_has (Some i) (Some n) (get_node key final.0) ≡ true
name_stays key n x i [] doc final done last h found c has = rw (← same_Some doc final h, found, last_has i n done last c, has)
name_stays key n x i (e ∷ es) doc final done last h found c has =
    let s = step key doc e es final h in
    elim s.moves [
      | elsewhere other w a b same ↦ name_stays key n x i es s.after final done last s.rest (same ∙ found) c has
      | whole d ok w old new ↦ absurd (none-some _ (sym old ∙ found))
      | first ok w a old new ↦ absurd (none-some _ (sym old ∙ found))
      | next done' last' ok w a old new ↦
          let both : open_array done' last' ≡ open_array done last = same_Some _ _ (sym old ∙ found) in
          let items : done' ≡ done = cc in
          let lasts : last' ≡ last = cc in
          let (more, ns, at_end, is) = item_stays key i (table (close last)) es s.after final (push_item done' (table (close last'))) no_nodes s.rest new (rw (items, lasts) (get_item-push_last i done _ c)) in
          rw (at_end, front_has i n more ns last is, has)
      | tables y ok w a old new is ↦ absurd (subst NoItems found old)
      | inside done' last' after g y ok w a both old new writes ↦
          let same : open_array done' last' ≡ open_array done last = same_Some _ _ (sym old ∙ found) in
          let items : done' ≡ done = cc in
          let lasts : last' ≡ last = cc in
          elim (cases_Bool (same_key n g)) [
            | inl is ↦ (let wrote : get_node n after ≡ Some y = rw (same_key-exact n g is) writes.here in name_stays key n y i es s.after final done' after s.rest new (rw items c) wrote)
            | inr not ↦ name_stays key n x i es s.after final done' after s.rest new (rw items c) (writes.others n not ∙ rw lasts has)
          ]
    ]

-- where a statement gives the last item a name, the item has it
name_there : (key n : List ℕ) (i at k : ℕ) (es : List Expression) (doc final : Document) (done : Items) (last : Nodes) → defined doc es ≡ Some final
    → get_node key doc.0 ≡ Some (open_array done last) → i ≡ count done → name_from at key n (names_after doc es) ≡ Some k → node_has (Some i) (Some n) (get_node key final.0) ≡ true
name_there key n i at k [] doc final done last h found c is = absurd (none-some k is)
name_there key n i at k (e ∷ es) doc final done last h found c is =
    let s = step key doc e es final h in
    let here = ap (name_from at key n) (sym s.names) ∙ is in
    elim s.moves [
      | elsewhere other w a b same ↦ name_there key n i (suc at) k es s.after final done last s.rest (same ∙ found) c (rw (a, b n) at here)
      | whole d ok w old new ↦ absurd (none-some _ (sym old ∙ found))
      | first ok w a old new ↦ absurd (none-some _ (sym old ∙ found))
      | next done' last' ok w a old new ↦ absurd (none-some k (rw a at here))
      | tables y ok w a old new is' ↦ absurd (subst NoItems found old)
      | inside done' last' after g y ok w a both old new writes ↦
          let same : open_array done' last' ≡ open_array done last = same_Some _ _ (sym old ∙ found) in
          let items : done' ≡ done = cc in
          elim (cases_Bool (same_key n g)) [
            | inl is' ↦ (let wrote : get_node n after ≡ Some y = rw (same_key-exact n g is') writes.here in name_stays key n y i es s.after final done' after s.rest new (rw items c) wrote)
            | inr not ↦ name_there key n i (suc at) k es s.after final done' after s.rest new (rw items c) (rw (a, both n, not) at here)
          ]
    ]

-- this many items are there so far, where there are items
abbrev SoFar : Option Node → ℕ → Type 0
SoFar None c = c ≡ 0
SoFar (Some (value d)) c = Unit {0}
SoFar (Some (open_table origin ns)) c = Unit {0}
SoFar (Some (open_array done last)) c = c ≡ suc (count done)

table_so_far : (x : Node) (c : ℕ) → IsTable x → SoFar (Some x) c
table_so_far x c h = search arith

pair_adds_none : (key : List ℕ) (names : List (List ℕ)) (kind : StatementKind) → gives_whole key (names, kind) ≡ true → adds_entry key (names, kind) ≡ false
pair_adds_none key names kind h = search (arith, false≢true)

-- where a header adds an item: it is the sought one, or one before it
item_step : (key n : List ℕ) (i c at k : ℕ) (es : List Expression) (after final : Document) (done : Items) → defined after es ≡ Some final
    → get_node key after.0 ≡ Some (open_array done no_nodes) → c ≡ count done
    → (if i == 0 then in_item_from at key (Some n) (names_after after es) else item_from (suc at) key (i - 1) (Some n) (names_after after es)) ≡ Some k
    → ((m : ℕ) → SoFar (get_node key after.0) (suc c) → item_from (suc at) key m (Some n) (names_after after es) ≡ Some k → node_has (Some (suc c + m)) (Some n) (get_node key final.0) ≡ true)
    → node_has (Some (c + i)) (Some n) (get_node key final.0) ≡ true
item_step key n i c at k es after final done h h1 h2 h3 h4 = search (arith, name_there, eqb-suc-zero)

item_goes_on : (key n : List ℕ) (i c at k : ℕ) (es : List Expression) (doc final : Document) → defined doc es ≡ Some final → SoFar (get_node key doc.0) c
    → item_from at key i (Some n) (names_after doc es) ≡ Some k → node_has (Some (c + i)) (Some n) (get_node key final.0) ≡ true
item_goes_on key n i c at k [] doc final h so_far is = absurd (none-some k is)
item_goes_on key n i c at k (e ∷ es) doc final h so_far is =
    let s = step key doc e es final h in
    let here = ap (item_from at key i (Some n)) (sym s.names) ∙ is in
    elim s.moves [
      | elsewhere other w a b same ↦ item_goes_on key n i c (suc at) k es s.after final s.rest (subst (λ o. SoFar o c) (sym same) so_far) (rw a at here)
      | whole d ok w old new ↦
          item_goes_on key n i c (suc at) k es s.after final s.rest (subst (λ o. SoFar o c) (sym new) tt) (rw (pair_adds_none key s.s.0 s.s.1 w) at here)
      | first ok w a old new ↦
          item_step key n i c at k es s.after final no_items s.rest new (subst (λ o. SoFar o c) old so_far) (rw a at here)
          (λ m more later. item_goes_on key n m (suc c) (suc at) k es s.after final s.rest more later)
      | next done last ok w a old new ↦
          let counted : c ≡ suc (count done) = subst (λ o. SoFar o c) old so_far in
          item_step key n i c at k es s.after final (push_item done (table (close last))) s.rest new (counted ∙ sym (count-push done (table (close last)))) (rw a at here)
          (λ m more later. item_goes_on key n m (suc c) (suc at) k es s.after final s.rest more later)
      | tables y ok w a old new is' ↦ item_goes_on key n i c (suc at) k es s.after final s.rest (subst (λ o. SoFar o c) (sym new) (table_so_far y c is')) (rw a at here)
      | inside done last after g y ok w a both old new writes ↦
          item_goes_on key n i c (suc at) k es s.after final s.rest (subst (λ o. SoFar o c) (sym new) (subst (λ o. SoFar o c) old so_far)) (rw a at here)
    ]

-- where a statement gives an item a name, the item has it
pub item_there : (key n : List ℕ) (i k : ℕ) (es : List Expression) (final : Document) → defined (no_nodes, []) es ≡ Some final
    → item_from 0 key i (Some n) (names_after (no_nodes, []) es) ≡ Some k → node_has (Some i) (Some n) (get_node key final.0) ≡ true
item_there key n i k es final h is = search (arith, item_goes_on, item_goes_on key n i 0 0 k es (no_nodes, []) final h refl is)
