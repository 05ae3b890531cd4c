-- What a statement does at one key of the root.
use Rattle.std.proofs.Common.{◌≡◌, ℕ, Bool, true, false, ◌&&◌, List, [], ◌∷◌, map, Option, Some, None, option_and_then, refl, sym, ap, subst, inl, inr, arith}
use Rattle.std.proofs.lemmas.Bool.{cases_Bool}
use Rattle.std.proofs.lemmas.Option.{none-some, same_Some}
use Rattle.toml.specs.Data.{Data, table, Items, no_items, push_item, same_key}
use Rattle.toml.specs.Tables.{Definition, key_value, std_table, array_table, Expression, Document, Node, Nodes, no_nodes, value, open_table, open_array, implicit, dotted, header, get_node, close, define}
use Rattle.toml.proofs.NodeLaws.{same_key-self}
use Rattle.toml_places.specs.declared.statement.StatementKind.{StatementKind}
use Rattle.toml_places.specs.Parsed.{defined, statement_kind, names_with_kinds, whole_name}
use Rattle.toml_places.specs.Places.{head}
use Rattle.toml_places.specs.Search.{Named, begins_key, begins_both, kind_is_pair, kind_is_entry, gives_whole, adds_entry}
use Rattle.toml_places.proofs.Writes.{Writes, same_key-exact}
use Rattle.toml_places.proofs.Steps.{IsTable, made, Within, Changes, defines}

-- the whole names of statements that follow a document, and their kinds
abbrev pub names_after : Document → List Expression → List Named
names_after doc es = names_with_kinds doc.1 (map head es)

-- no array stands there
abbrev pub NoItems : Option Node → Type 0
NoItems None = Unit {0}
NoItems (Some x) = IsTable x

-- The ways in which a statement changes what stands at the key, with the tests of its name.
pub data Move (key : List ℕ) (s : Named) (old new : Option Node) : Type 0 where
  elsewhere : begins_key key s.0 ≡ false → gives_whole key s ≡ false → adds_entry key s ≡ false → ((n : List ℕ) → begins_both key n s.0 ≡ false) → new ≡ old → Move key s old new
  whole : (d : Data) → begins_key key s.0 ≡ true → gives_whole key s ≡ true → old ≡ None → new ≡ Some (value d) → Move key s old new
  first : begins_key key s.0 ≡ true → gives_whole key s ≡ false → adds_entry key s ≡ true → old ≡ None → new ≡ Some (open_array no_items no_nodes) → Move key s old new
  next : (done : Items) (last : Nodes) → begins_key key s.0 ≡ true → gives_whole key s ≡ false → adds_entry key s ≡ true → old ≡ Some (open_array done last)
      → new ≡ Some (open_array (push_item done (table (close last))) no_nodes) → Move key s old new
  tables : (x : Node) → begins_key key s.0 ≡ true → gives_whole key s ≡ false → adds_entry key s ≡ false → NoItems old → new ≡ Some x → IsTable x → Move key s old new
  inside : (done : Items) (last after : Nodes) (g : List ℕ) (y : Node) → begins_key key s.0 ≡ true → gives_whole key s ≡ false → adds_entry key s ≡ false
      → ((n : List ℕ) → begins_both key n s.0 ≡ same_key n g) → old ≡ Some (open_array done last) → new ≡ Some (open_array done after) → Writes g last after y → Move key s old new

and_false : (b : Bool) → (b && false) ≡ false
and_false b = search arith

move_alone : (key : List ℕ) (what : Definition) (o : Option Node) (x : Node) → made what o ≡ Some x → Move key (key ∷ [], statement_kind what) o (Some x)
move_alone key (key_value d) None x h = whole d (same_key-self key) (same_key-self key) refl (sym h)
move_alone key (key_value d) (Some y) x h = absurd (none-some x h)
move_alone key std_table None x h = tables x (same_key-self key) refl refl tt refl (rw (← same_Some _ x h) tt)
move_alone key std_table (Some (value d)) x h = absurd (none-some x h)
move_alone key std_table (Some (open_table implicit ns)) x h = tables x (same_key-self key) refl refl tt refl (rw (← same_Some _ x h) tt)
move_alone key std_table (Some (open_table dotted ns)) x h = absurd (none-some x h)
move_alone key std_table (Some (open_table header ns)) x h = absurd (none-some x h)
move_alone key std_table (Some (open_array done last)) x h = absurd (none-some x h)
move_alone key array_table None x h = first (same_key-self key) refl (same_key-self key) refl (sym h)
move_alone key array_table (Some (value d)) x h = absurd (none-some x h)
move_alone key array_table (Some (open_table origin ns)) x h = absurd (none-some x h)
move_alone key array_table (Some (open_array done last)) x h = next done last (same_key-self key) refl (same_key-self key) refl (sym h)

both_self : (key g n : List ℕ) (rest : List (List ℕ)) → begins_both key n (key ∷ g ∷ rest) ≡ same_key n g
both_self key g n rest = rw (same_key-self key)

move_inside : (key g : List ℕ) (rest : List (List ℕ)) (kind : StatementKind) (o : Option Node) (x : Node) → Within g o x → Move key (key ∷ g ∷ rest, kind) o (Some x)
move_inside key g rest kind None x h = tables x (same_key-self key) (and_false (kind_is_pair kind)) (and_false (kind_is_entry kind)) tt refl h
move_inside key g rest kind (Some (value d)) x h = absurd h
move_inside key g rest kind (Some (open_table origin ns)) x h = tables x (same_key-self key) (and_false (kind_is_pair kind)) (and_false (kind_is_entry kind)) tt refl h
move_inside key g rest kind (Some (open_array done last)) x h =
    inside done last h.0 g h.2.0 (same_key-self key) (and_false (kind_is_pair kind)) (and_false (kind_is_entry kind)) (λ n. both_self key g n rest) refl (ap Some h.1) h.2.1

move_here : (key : List ℕ) (what : Definition) (rest : List (List ℕ)) (a b : Nodes) → Changes what (key ∷ rest) a b → Move key (key ∷ rest, statement_kind what) (get_node key a) (get_node key b)
move_here key what [] a b (x, w, is) = rw w.here (move_alone key what (get_node key a) x is)
move_here key what (g ∷ rest) a b (x, w, inner) = rw w.here (move_inside key g rest (statement_kind what) (get_node key a) x inner)

move_other : (key k : List ℕ) (what : Definition) (rest : List (List ℕ)) (a b : Nodes) → same_key key k ≡ false → Changes what (k ∷ rest) a b → Move key (k ∷ rest, statement_kind what) (get_node key a) (get_node key b)
move_other key k what rest a b other h = search (arith, and_false)

move : (key : List ℕ) (what : Definition) (name : List (List ℕ)) (a b : Nodes) → Changes what name a b → Move key (name, statement_kind what) (get_node key a) (get_node key b)
move key what [] a b h = absurd h
move key what (k ∷ rest) a b h =
    elim (cases_Bool (same_key key k)) [
      | inl same ↦
          let P : List ℕ → Type 0 = λ l. Changes what (l ∷ rest) a b → Move key (l ∷ rest, statement_kind what) (get_node key a) (get_node key b) in
          let here : P key = λ c. move_here key what rest a b c in
          subst P (same_key-exact key k same) here h
      | inr other ↦ move_other key k what rest a b other h
    ]

-- a statement before others: the names, and what it does at the key
pub record Step (key : List ℕ) (doc : Document) (e : Expression) (es : List Expression) (final : Document) : Type 0 where
  pub after : Document
  pub defines_it : define doc e ≡ Some after
  pub rest : defined after es ≡ Some final
  pub s : Named
  pub names : names_after doc (e ∷ es) ≡ s ∷ names_after after es
  pub moves : Move key s (get_node key doc.0) (get_node key after.0)

split : (o : Option Document) (es : List Expression) (final : Document) → option_and_then (λ next. defined next es) o ≡ Some final → (after : Document) × (o ≡ Some after) × (defined after es ≡ Some final)
split o es final h = search (arith, none-some)

pub step : (key : List ℕ) (doc : Document) (e : Expression) (es : List Expression) (final : Document) → defined doc (e ∷ es) ≡ Some final → Step key doc e es final
step key doc e es final h =
    let (next_doc, is, more) = split (define doc e) es final h in
    let d = defines doc next_doc e.0 e.1 is in
    record {
      after = next_doc;
      defines_it = is;
      rest = more;
      s = (whole_name doc.1 e.0 (statement_kind e.1), statement_kind e.1);
      names = rw d.sections;
      moves = move key e.1 (whole_name doc.1 e.0 (statement_kind e.1)) doc.0 next_doc.0 d.root;
    }
