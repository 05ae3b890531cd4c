-- What it is to find the statement that gives what is looked for.
use Rattle.std.proofs.Common.{◌≡◌, ◌<◌, ◌+◌, ℕ, suc, Bool, true, false, List, ◌∷◌, take, length, Option, Some, option_map, ap, ◌∙◌, arith}
use Rattle.toml.specs.Data.{Members}
use Rattle.toml.specs.Tables.{Expression, Document, Node, Nodes, get_node, close, close_node, define}
use Rattle.toml_places.specs.Parsed.{defined}
use Rattle.toml_places.specs.Places.{is_there, entry_there}
use Rattle.toml_places.proofs.Writes.{get_member-close}

-- what is looked for, in the node at the key
abbrev pub node_has : Option ℕ → Option (List ℕ) → Option Node → Bool
node_has entry name o = entry_there entry name (option_map close_node o)

pub there_node : (key : List ℕ) (entry : Option ℕ) (name : Option (List ℕ)) (ns : Nodes) → is_there key entry name (close ns) ≡ node_has entry name (get_node key ns)
there_node key entry name ns = rw (get_member-close key ns)

-- `IsGivenBy`, of statements that follow a document
pub record GivesAfter (sought : Members → Bool) (doc : Document) (es : List Expression) (j : ℕ) : Type 0 where
  pub within : j < length es
  pub before : Document
  pub is_before : defined doc (take j es) ≡ Some before
  pub without : sought (close before.0) ≡ false
  pub after : Document
  pub is_after : defined doc (take (suc j) es) ≡ Some after
  pub with : sought (close after.0) ≡ true

-- the index, counted from `at`, is that of the statement which gives what is looked for
abbrev pub Found : (Members → Bool) → ℕ → Document → List Expression → Option ℕ → Type 0
Found sought at doc es o = (j : ℕ) × (o ≡ Some (at + j)) × GivesAfter sought doc es j

pub found_here : (sought : Members → Bool) (at : ℕ) (doc after : Document) (e : Expression) (es : List Expression) (o : Option ℕ) → define doc e ≡ Some after
    → sought (close doc.0) ≡ false → sought (close after.0) ≡ true → o ≡ Some at → Found sought at doc (e ∷ es) o
found_here sought at doc after e es o is without with found = search arith

pub found_later : (sought : Members → Bool) (at : ℕ) (doc after : Document) (e : Expression) (es : List Expression) (o p : Option ℕ) → define doc e ≡ Some after
    → o ≡ p → Found sought (suc at) after es p → Found sought at doc (e ∷ es) o
found_later sought at doc after e es o p is same (j, found, g) = (
  suc j,
  same ∙ found ∙ ap Some (omega arith),
  record {
    within = omega (arith, g.within);
    before = g.before;
    is_before = rw is g.is_before;
    without = g.without;
    after = g.after;
    is_after = rw is g.is_after;
    with = g.with;
  },
)
