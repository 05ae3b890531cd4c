-- What a statement does to the nodes of the root.
use Rattle.std.proofs.Common.{◌≡◌, ℕ, ◌<◌, List, [], ◌∷◌, ◌++◌, length, Option, Some, None, option_map, refl, arith, length-append}
use Rattle.std.proofs.lemmas.Option.{none-some, same_Some}
use Rattle.toml_parser.specs.Strings.{Key}
use Rattle.toml.specs.Data.{Data}
use Rattle.toml.specs.Tables.{Definition, key_value, Document, Node, Nodes, no_nodes, value, open_table, open_array, Origin, implicit, dotted, get_node, insert, replace, Edit, header_node, dot_node, by_header, by_dot, along_header, along_dots, at_found, at_key, new_node, redefine, put, define}
use Rattle.toml_places.specs.Parsed.{statement_kind, parts, whole_name, section_after}
use Rattle.toml_places.proofs.Writes.{Writes, writes_insert, writes_replace}

abbrev pub IsTable : Node → Type 0
IsTable (value d) = ⊥
IsTable (open_table origin ns) = Unit {0}
IsTable (open_array done last) = ⊥

-- what a key holds after a definition of it, by what it held
abbrev pub made : Definition → Option Node → Option Node
made what None = Some (new_node what)
made what (Some x) = redefine what x

-- the node that an edit inside a node makes of it
abbrev Inner : Edit → Option Node → Node → Type 0
Inner e None x = IsTable x
Inner e (Some (value d)) x = ⊥
Inner e (Some (open_table origin ns)) x = IsTable x
Inner e (Some (open_array done last)) x = (after : Nodes) × (x ≡ open_array done after) × (e last ≡ Some after)

wrote_new : (k : List ℕ) (ns after : Nodes) (w : Nodes → Node) (o : Option Nodes) → option_map (λ new. insert k (w new) ns) o ≡ Some after
    → (x : Nodes) × (o ≡ Some x) × Writes k ns after (w x)
wrote_new k ns after w None e = absurd (none-some after e)
wrote_new k ns after w (Some x) e = (x, refl, rw (← same_Some _ after e) (writes_insert k (w x) ns))

wrote_over : (k : List ℕ) (ns after : Nodes) (x : Node) (o : Option Node) → get_node k ns ≡ Some x → option_map (λ new. replace k new ns) o ≡ Some after
    → (y : Node) × (o ≡ Some y) × Writes k ns after y
wrote_over k ns after x None found e = absurd (none-some after e)
wrote_over k ns after x (Some y) found e = (y, refl, rw (← same_Some _ after e) (writes_replace k x y ns found))

inner_table : (w : Origin) (o : Option Nodes) (y : Node) → option_map (open_table w) o ≡ Some y → IsTable y
inner_table w o y h = search (arith, none-some, same_Some)

header_inner : (e : Edit) (x y : Node) → header_node e x ≡ Some y → Inner e (Some x) y
header_inner e x y h = search (arith, none-some, inner_table, same_Some)

dot_inner : (e : Edit) (x y : Node) → dot_node e x ≡ Some y → Inner e (Some x) y
dot_inner e x y h = search (arith, none-some, inner_table)

-- the key is written, and the node there is what the edit made of it
record Stepped (k : List ℕ) (e : Edit) (before after : Nodes) : Type 0 where
  node : Node
  writes : Writes k before after node
  inner : Inner e (get_node k before) node

header_step : (k : List ℕ) (e : Edit) (ns after : Nodes) (o : Option Node) → get_node k ns ≡ o → by_header k e ns o ≡ Some after → Stepped k e ns after
header_step k e ns after None found h = search (arith, wrote_new, wrote_new k ns after (open_table implicit) (e no_nodes) h)
header_step k e ns after (Some x) found h = search (arith, wrote_over, header_inner)

dot_step : (k : List ℕ) (e : Edit) (ns after : Nodes) (o : Option Node) → get_node k ns ≡ o → by_dot k e ns o ≡ Some after → Stepped k e ns after
dot_step k e ns after None found h = search (arith, wrote_new, wrote_new k ns after (open_table dotted) (e no_nodes) h)
dot_step k e ns after (Some x) found h = search (arith, wrote_over, dot_inner)

at_step : (k : List ℕ) (what : Definition) (ns after : Nodes) (o : Option Node) → get_node k ns ≡ o → at_found k what ns o ≡ Some after
    → (x : Node) × Writes k ns after x × (made what o ≡ Some x)
at_step k what ns after o h h1 = search (arith, same_Some, writes_insert, wrote_over, writes_insert k (new_node what) ns)

-- the edit writes the first name of the path
abbrev Touches : List (List ℕ) → Edit → Type 0
Touches [] e = Unit {0}
Touches (k ∷ path) e = (ns after : Nodes) → e ns ≡ Some after → (x : Node) × Writes k ns after x

touches_at : (k : List ℕ) (what : Definition) → Touches (k ∷ []) (at_key k what)
unfolding at_key
touches_at k what ns after h = let (x, w, is) = at_step k what ns after (get_node k ns) refl h in (x, w)

touches_dots : (path : List (List ℕ)) (k : List ℕ) (what : Definition) → Touches (path ++ k ∷ []) (along_dots path (at_key k what))
unfolding along_dots
touches_dots [] k what = touches_at k what
touches_dots (l ∷ path) k what = λ ns after h.
    let s = dot_step l (along_dots path (at_key k what)) ns after (get_node l ns) refl h in
    (s.node, s.writes)

touches_header : (path names : List (List ℕ)) (e : Edit) → Touches names e → Touches (path ++ names) (along_header path e)
unfolding along_header
touches_header [] names e h = h
touches_header (l ∷ path) names e h = λ ns after is.
    let s = header_step l (along_header path e) ns after (get_node l ns) refl is in
    (s.node, s.writes)

-- what a statement inside a key makes of the node there, where the next name is g
abbrev pub Within : List ℕ → Option Node → Node → Type 0
Within g None x = IsTable x
Within g (Some (value d)) x = ⊥
Within g (Some (open_table origin ns)) x = IsTable x
Within g (Some (open_array done last)) x = (after : Nodes) × (x ≡ open_array done after) × ((y : Node) × Writes g last after y)

within : (g : List ℕ) (rest : List (List ℕ)) (e : Edit) (o : Option Node) (x : Node) → Touches (g ∷ rest) e → Inner e o x → Within g o x
within g rest e o x h h1 = search arith

-- what a statement of this whole name does to the nodes of the root
abbrev pub Changes : Definition → List (List ℕ) → Nodes → Nodes → Type 0
Changes what [] before after = ⊥
Changes what (k ∷ []) before after = (x : Node) × Writes k before after x × (made what (get_node k before) ≡ Some x)
Changes what (k ∷ g ∷ rest) before after = (x : Node) × Writes k before after x × Within g (get_node k before) x

changes_inside : (what : Definition) (k : List ℕ) (rest : List (List ℕ)) (e : Edit) (ns after : Nodes) → 0 < length rest → Touches rest e → Stepped k e ns after → Changes what (k ∷ rest) ns after
changes_inside what k rest e ns after h h1 h2 = search (arith, within)

some_parts : (path : List (List ℕ)) (k : List ℕ) → 0 < length (path ++ k ∷ [])
some_parts path k = omega (arith, length-append path (k ∷ []))

some_after : (path names : List (List ℕ)) → 0 < length names → 0 < length (path ++ names)
some_after path names h = omega (arith, length-append path names)

changes_at : (k : List ℕ) (what : Definition) (ns after : Nodes) → at_key k what ns ≡ Some after → Changes what (k ∷ []) ns after
unfolding at_key
changes_at k what ns after h = at_step k what ns after (get_node k ns) refl h

changes_dots : (what : Definition) (path : List (List ℕ)) (k : List ℕ) (ns after : Nodes) → along_dots path (at_key k what) ns ≡ Some after → Changes what (path ++ k ∷ []) ns after
unfolding along_dots
changes_dots what [] k ns after h = changes_at k what ns after h
changes_dots what (l ∷ path) k ns after h = search (arith, changes_inside, some_parts path k, touches_dots path k what, dot_step l (along_dots path (at_key k what)) ns after (get_node l ns) refl h)

changes_header : (what : Definition) (path : List (List ℕ)) (k : List ℕ) (ns after : Nodes) → along_header path (at_key k what) ns ≡ Some after → Changes what (path ++ k ∷ []) ns after
unfolding along_header
changes_header what [] k ns after h = changes_at k what ns after h
changes_header what (l ∷ path) k ns after h = search (arith, changes_inside, some_parts path k, touches_header path (k ∷ []) (at_key k what) (touches_at k what), header_step l (along_header path (at_key k what)) ns after (get_node l ns) refl h)

changes_pair : (d : Data) (section : List (List ℕ)) (key : Key) (ns after : Nodes) → along_header section (put key d) ns ≡ Some after → Changes (key_value d) (section ++ parts key) ns after
unfolding along_header
changes_pair d [] key ns after h = changes_dots (key_value d) key.0 key.1 ns after h
changes_pair d (l ∷ section) key ns after h =
    search (arith, changes_inside, some_after section (parts key) (some_parts key.0 key.1), touches_header section (parts key) (put key d) (touches_dots key.0 key.1 (key_value d)), header_step l (along_header section (put key d)) ns after (get_node l ns) refl h)

-- what a statement does to a document: a change of the root, and the section after it
pub record Defines (what : Definition) (name section : List (List ℕ)) (before after : Document) : Type 0 where
  pub root : Changes what name before.0 after.0
  pub sections : after.1 ≡ section

with_section : (what : Definition) (name section : List (List ℕ)) (before after : Document) (o : Option Nodes) → option_map (λ (root : Nodes). let doc : Document = (root, section) in doc) o ≡ Some after
    → ((new : Nodes) → o ≡ Some new → Changes what name before.0 new) → Defines what name section before after
with_section what name section before after o h h1 = search (arith, none-some, same_Some)

pub defines : (doc next : Document) (key : Key) (what : Definition) → define doc (key, what) ≡ Some next
    → Defines what (whole_name doc.1 key (statement_kind what)) (section_after doc.1 key (statement_kind what)) doc next
unfolding define
defines doc next key what h = search (arith, with_section, changes_pair, changes_header)
