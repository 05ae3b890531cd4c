-- What no later statement changes.
use Rattle.std.proofs.Common.{◌≡◌, ℕ, suc, List, [], ◌∷◌, Some, None, refl, sym, ap, ◌∙◌, subst}
use Rattle.std.proofs.lemmas.Option.{none-some, same_Some}
use Rattle.toml.specs.Data.{Data, Items, get_item}
use Rattle.toml.specs.Tables.{Expression, Document, Node, Nodes, no_nodes, value, open_array, get_node}
use Rattle.toml_places.specs.Parsed.{defined}
use Rattle.toml_places.specs.Search.{whole_from}
use Rattle.toml_places.proofs.Steps.{IsTable}
use Rattle.toml_places.proofs.Moves.{names_after, NoItems, elsewhere, whole, first, next, tables, inside, step}
use Rattle.toml_places.proofs.Items.{get_item-push_front}

-- a pair's value never changes
pub value_stays : (key : List ℕ) (d : Data) (es : List Expression) (doc final : Document) → defined doc es ≡ Some final → get_node key doc.0 ≡ Some (value d) → get_node key final.0 ≡ Some (value d)
value_stays key d [] doc final h found = rw (← same_Some doc final h) found
value_stays key d (e ∷ es) doc final h found =
    let s = step key doc e es final h in
    elim s.moves [
      | elsewhere other w a b same ↦ value_stays key d es s.after final s.rest (same ∙ found)
      | whole d' ok w old new ↦ absurd (none-some _ (sym old ∙ found))
      | first ok w a old new ↦ absurd (none-some _ (sym old ∙ found))
      | next done last ok w a old new ↦ absurd (value_array d done last (same_Some _ _ (sym found ∙ old)))
      | tables x ok w a old new is ↦ absurd (value_table d (subst NoItems found old))
      | inside done last after g y ok w a both old new writes ↦ absurd (value_array d done last (same_Some _ _ (sym found ∙ old)))
    ]
  where
    value_array : (d : Data) (done : Items) (last : Nodes) → value d ≡ open_array done last → ⊥
    value_array d done last e = cc

    value_table : (d : Data) → NoItems (Some (value d)) → ⊥
    value_table d h = h

-- nor does a table become an array
pub table_stays : (key : List ℕ) (x : Node) (es : List Expression) (doc final : Document) → defined doc es ≡ Some final → get_node key doc.0 ≡ Some x → IsTable x
    → (y : Node) × (get_node key final.0 ≡ Some y) × IsTable y
table_stays key x [] doc final h found is = (x, rw (← same_Some doc final h) found, is)
table_stays key x (e ∷ es) doc final h found is =
    let s = step key doc e es final h in
    elim s.moves [
      | elsewhere other w a b same ↦ table_stays key x es s.after final s.rest (same ∙ found) is
      | whole d' ok w old new ↦ absurd (none-some _ (sym old ∙ found))
      | first ok w a old new ↦ absurd (none-some _ (sym old ∙ found))
      | next done last ok w a old new ↦ absurd (array_table done last (subst IsTable (same_Some _ _ (sym found ∙ old)) is))
      | tables y ok w a old new is' ↦ table_stays key y es s.after final s.rest new is'
      | inside done last after g y ok w a both old new writes ↦ absurd (array_table done last (subst IsTable (same_Some _ _ (sym found ∙ old)) is))
    ]
  where
    array_table : (done : Items) (last : Nodes) → IsTable (open_array done last) → ⊥
    array_table done last h = h

-- an item behind which another stands never changes
pub item_stays : (key : List ℕ) (i : ℕ) (d : Data) (es : List Expression) (doc final : Document) (done : Items) (last : Nodes) → defined doc es ≡ Some final
    → get_node key doc.0 ≡ Some (open_array done last) → get_item i done ≡ Some d
    → (more : Items) × (ns : Nodes) × (get_node key final.0 ≡ Some (open_array more ns)) × (get_item i more ≡ Some d)
item_stays key i d [] doc final done last h found is = (done, last, rw (← same_Some doc final h) found, is)
item_stays key i d (e ∷ es) doc final done last h found is =
    let s = step key doc e es final h in
    elim s.moves [
      | elsewhere other w a b same ↦ item_stays key i d es s.after final done last s.rest (same ∙ found) is
      | whole d' ok w old new ↦ absurd (none-some _ (sym old ∙ found))
      | first ok w a old new ↦ absurd (none-some _ (sym old ∙ found))
      | next done' last' ok w a old new ↦
          let same : done' ≡ done = let e : open_array done' last' ≡ open_array done last = same_Some _ _ (sym old ∙ found) in cc in
          item_stays key i d es s.after final _ no_nodes s.rest new (get_item-push_front i done' _ d (rw same is))
      | tables x ok w a old new is' ↦ absurd (subst NoItems found old)
      | inside done' last' after g y ok w a both old new writes ↦
          let same : done' ≡ done = let e : open_array done' last' ≡ open_array done last = same_Some _ _ (sym old ∙ found) in cc in
          item_stays key i d es s.after final done' after s.rest new (rw same is)
    ]

-- no pair gives a value to a key that is there
pub no_whole : (key : List ℕ) (x : Node) (at : ℕ) (es : List Expression) (doc final : Document) → defined doc es ≡ Some final → get_node key doc.0 ≡ Some x
    → whole_from at key (names_after doc es) ≡ None
no_whole key x at [] doc final h found = refl
no_whole key x at (e ∷ es) doc final h found =
    let s = step key doc e es final h in
    let n = ap (whole_from at key) s.names in
    elim s.moves [
      | elsewhere other w a b same ↦ n ∙ rw w (no_whole key x (suc at) es s.after final s.rest (same ∙ found))
      | whole d ok w old new ↦ absurd (none-some _ (sym old ∙ found))
      | first ok w a old new ↦ absurd (none-some _ (sym old ∙ found))
      | next done last ok w a old new ↦ n ∙ rw w (no_whole key _ (suc at) es s.after final s.rest new)
      | tables y ok w a old new is ↦ n ∙ rw w (no_whole key y (suc at) es s.after final s.rest new)
      | inside done last after g y ok w a both old new writes ↦ n ∙ rw w (no_whole key _ (suc at) es s.after final s.rest new)
    ]
