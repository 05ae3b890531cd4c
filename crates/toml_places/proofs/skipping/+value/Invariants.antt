use Rattle.std.proofs.Common.{◌≡◌, ℕ, ◌+◌, ◌*◌, ◌≤◌, List, length, Some}
use denote.Text.{Utf8}
use denote.Shadow.{shadow}
use Rattle.toml.specs.Data.{Items, Members}
use Rattle.toml.specs.Tables.{Nodes}
use Rattle.toml.specs.Parse.{val, items, members}
use Rattle.toml_places.proofs.skipping.+value.Given as goal

abbrev pub decreases-skip_items : goal.decreases-skip_items
decreases-skip_items l = 2 * l.depth + 2

abbrev pub decreases-skip_members : goal.decreases-skip_members
decreases-skip_members l = 2 * l.depth + 2

abbrev pub decreases-skip_value : goal.decreases-skip_value
decreases-skip_value l = 2 * l.depth + 1

-- what is read of the whole is read of the rest
abbrev pub invariant-skip_items-items : goal.invariant-skip_items-items
invariant-skip_items-items l =
    shadow (Utf8 l.rest) × (length l.rest ≤ length l.fn.s)
    × ((n : ℕ) (found all : Items) (end : List ℕ) → items (val l.fn.depth) n found l.fn.s ≡ Some (all, end)
    → (m : ℕ) × (more : Items) × (items (val l.fn.depth) m more l.rest ≡ Some (all, end)))

abbrev pub decreases-skip_items-items : goal.decreases-skip_items-items
decreases-skip_items-items l = length l.rest

abbrev pub invariant-skip_members-members : goal.invariant-skip_members-members
invariant-skip_members-members l =
    shadow (Utf8 l.rest) × (length l.rest ≤ length l.fn.s)
    × ((n : ℕ) (found : Nodes) (all : Members) (end : List ℕ) → members (val l.fn.depth) n found l.fn.s ≡ Some (all, end)
    → (m : ℕ) × (more : Nodes) × (members (val l.fn.depth) m more l.rest ≡ Some (all, end)))

abbrev pub decreases-skip_members-members : goal.decreases-skip_members-members
decreases-skip_members-members l = length l.rest
