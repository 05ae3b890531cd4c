-- What is looked for, in the items of an array.
use Rattle.std.proofs.Common.{◌≡◌, ◌+◌, ℕ, zero, suc, true, false, List, Option, Some, None, option_map, is_some, refl, ap, arith}
use Rattle.std.proofs.lemmas.Option.{none-some}
use Rattle.toml.specs.Data.{Data, table, Items, no_items, item, push_item, get_item}
use Rattle.toml.specs.Tables.{Node, Nodes, open_array, get_node, close, close_node}
use Rattle.toml_places.proofs.Writes.{get_member-close}
use Rattle.toml_places.proofs.Steps.{IsTable}
use Rattle.toml_places.proofs.Finds.{node_has}

-- items and their number
abbrev pub count : Items → ℕ
count no_items = 0
count (item d ds) = suc (count ds)

pub count-push : (ds : Items) (d : Data) → count (push_item ds d) ≡ suc (count ds)
count-push no_items d = refl
count-push (item x ds) d = ap suc (count-push ds d)

pub get_item-push_last : (i : ℕ) (ds : Items) (d : Data) → i ≡ count ds → get_item i (push_item ds d) ≡ Some d
get_item-push_last zero no_items d e = refl
get_item-push_last (suc i) no_items d e = absurd (omega arith)
get_item-push_last zero (item x ds) d e = absurd (omega arith)
get_item-push_last (suc i) (item x ds) d e = get_item-push_last i ds d (omega arith)

get_item-push_past : (i m : ℕ) (ds : Items) (d : Data) → i ≡ count ds + suc m → get_item i (push_item ds d) ≡ None
get_item-push_past zero m no_items d e = absurd (omega arith)
get_item-push_past (suc i) m no_items d e = refl
get_item-push_past zero m (item x ds) d e = absurd (omega arith)
get_item-push_past (suc i) m (item x ds) d e = get_item-push_past i m ds d (omega arith)

pub get_item-push_front : (i : ℕ) (ds : Items) (d x : Data) → get_item i ds ≡ Some x → get_item i (push_item ds d) ≡ Some x
get_item-push_front i no_items d x h = absurd (none-some x h)
get_item-push_front zero (item y ds) d x h = h
get_item-push_front (suc i) (item y ds) d x h = get_item-push_front i ds d x h

is_some-map : {A B : Type 0} (f : A → B) (o : Option A) → is_some (option_map f o) ≡ is_some o
is_some-map f o = search arith

-- what the last item has
pub last_has : (i : ℕ) (n : List ℕ) (done : Items) (last : Nodes) → i ≡ count done → node_has (Some i) (Some n) (Some (open_array done last)) ≡ is_some (get_node n last)
last_has i n done last e = rw (get_item-push_last i done (table (close last)) e, get_member-close n last) (is_some-map close_node (get_node n last))

pub last_there : (i : ℕ) (done : Items) (last : Nodes) → i ≡ count done → node_has (Some i) None (Some (open_array done last)) ≡ true
last_there i done last e = rw (get_item-push_last i done (table (close last)) e)

-- an item that is not there yet
pub past_there : (i m : ℕ) (name : Option (List ℕ)) (done : Items) (last : Nodes) → i ≡ count done + suc m → node_has (Some i) name (Some (open_array done last)) ≡ false
past_there i m name done last e = rw (get_item-push_past i m done (table (close last)) e)

-- an item behind which another stands
pub front_has : (i : ℕ) (n : List ℕ) (done : Items) (last ns : Nodes) → get_item i done ≡ Some (table (close ns)) → node_has (Some i) (Some n) (Some (open_array done last)) ≡ is_some (get_node n ns)
front_has i n done last ns e = rw (get_item-push_front i done (table (close last)) _ e, get_member-close n ns) (is_some-map close_node (get_node n ns))

pub table_has : (i : ℕ) (name : Option (List ℕ)) (x : Node) → IsTable x → node_has (Some i) name (Some x) ≡ false
table_has i name x h = search arith
