-- What an edit writes: one key, and nothing at the others.
use Rattle.std.proofs.Common.{◌≡◌, ℕ, Ordering, Less, Equal, Greater, nat_cmp, is_eq, true, false, cond, List, Option, Some, option_map, refl, inl, inr, ◌⊎◌, arith}
use Rattle.std.proofs.lemmas.Bool.{cases_Bool, false≢true}
use Rattle.std.proofs.lemmas.Map.Lookups.{exact_bytes}
use Rattle.std.specs.Cmp.Lexicographic.{slice_cmp}
use Rattle.std.specs.Ordering.{match_ordering}
use Rattle.toml.specs.Data.{same_key, get_member}
use Rattle.toml.specs.Tables.{Node, Nodes, no_nodes, node, get_node, insert, replace, close, close_node}
use Rattle.toml.proofs.NodeLaws.{get_node-insert, get_node-replace}

pub cases_ordering : (o : Ordering) → (o ≡ Less) ⊎ ((o ≡ Equal) ⊎ (o ≡ Greater))
cases_ordering o = search arith

pub same_key-exact : (k l : List ℕ) → same_key k l ≡ true → k ≡ l
same_key-exact k l h = search (arith, exact_bytes, false≢true)

-- the value at a key is that of the node there
found_close : (o : Ordering) (x : Node) (rest : Option Node) → match_ordering o (option_map close_node rest) (Some (close_node x)) (option_map close_node rest) ≡ option_map close_node (cond (is_eq o) (Some x) rest)
found_close o x rest = search arith

pub get_member-close : (k : List ℕ) (ns : Nodes) → get_member k (close ns) ≡ option_map close_node (get_node k ns)
get_member-close k no_nodes = refl
get_member-close k (node l x ns) = rw (get_member-close k ns) (found_close (slice_cmp nat_cmp k l) x (get_node k ns))

get_node-insert_other : (k l : List ℕ) (x : Node) (ns : Nodes) → same_key k l ≡ false → get_node k (insert l x ns) ≡ get_node k ns
get_node-insert_other k l x no_nodes other = rw other
get_node-insert_other k l x (node m y ns) other =
    elim (cases_ordering (slice_cmp nat_cmp l m)) [
      | inl less ↦ rw (less, other)
      | inr more ↦ elim more [
        | inl tie ↦
            let same : l ≡ m = exact_bytes l m tie in
            let apart : same_key k m ≡ false = rw (← same) other in
            rw (tie, apart)
        | inr greater ↦ rw (greater, get_node-insert_other k l x ns other)
      ]
    ]

get_node-replace_other : (k l : List ℕ) (x : Node) (ns : Nodes) → same_key k l ≡ false → get_node k (replace l x ns) ≡ get_node k ns
get_node-replace_other k l x no_nodes other = refl
get_node-replace_other k l x (node m y ns) other =
    elim (cases_Bool (same_key l m)) [
      | inl tie ↦
          let same : l ≡ m = same_key-exact l m tie in
          let apart : same_key k m ≡ false = rw (← same) other in
          rw (tie, apart)
      | inr differs ↦ rw (differs, get_node-replace_other k l x ns other)
    ]

-- the nodes have this node at the key, and at the others what they had before
pub record Writes (k : List ℕ) (before after : Nodes) (x : Node) : Type 0 where
  pub here : get_node k after ≡ Some x
  pub others : (l : List ℕ) → same_key l k ≡ false → get_node l after ≡ get_node l before

pub writes_insert : (k : List ℕ) (x : Node) (ns : Nodes) → Writes k ns (insert k x ns) x
writes_insert k x ns = record { here = get_node-insert k x ns; others = λ l other. get_node-insert_other l k x ns other }

pub writes_replace : (k : List ℕ) (x y : Node) (ns : Nodes) → get_node k ns ≡ Some x → Writes k ns (replace k y ns) y
writes_replace k x y ns found = record { here = get_node-replace k y ns x found; others = λ l other. get_node-replace_other l k y ns other }
