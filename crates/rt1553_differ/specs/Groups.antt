-- Differences in groups: which group tells which difference.
use Rattle.std.specs.Prelude.{◌≡◌, ℕ, ◌-◌, Bool, true, not, ◌&&◌, ◌==◌, nat_le, if◌then◌else◌, List, ◌++◌, map, All}
use Rattle.std.specs.List.{filter, count_by}
use Rattle.bus_word.specs.Cell.{is_data_place}
use Rattle.bus_word.specs.Mask.{has_bit}
use Rattle.bus_word.specs.declared.cell.Cell.TheVariants.{OwnReceive, OwnTransmit, BroadReceive, OwnMode, BroadMode}
use Rattle.bus_legal.specs.Parts.{Parts, description_in}
use Rattle.bus_canon.specs.declared.difference.Difference.{Difference}
use Rattle.bus_canon.specs.declared.difference.Difference.TheVariants.{BroadcastOption, ReceiveCell, TransmitCell, BroadcastReceiveCell, OwnCode, BroadcastCode, Acceptance}
use Rattle.bus_canon.specs.Difference.{rank}
use Rattle.rt1553_differ.specs.Told.{unlike, is_told}
use Rattle.rt1553_differ.specs.declared.groups.CountKind.{CountKind}
use Rattle.rt1553_differ.specs.declared.groups.CountKind.TheVariants.{Receive, Transmit, Broadcast}
use Rattle.rt1553_differ.specs.declared.groups.Group.{Group}

-- the difference of a kind at a subaddress and a word count
abbrev pub of_count : CountKind → ℕ → ℕ → Difference
of_count Receive s n = ReceiveCell s n
of_count Transmit s n = TransmitCell s n
of_count Broadcast s n = BroadcastReceiveCell s n

-- what differs is so in this terminal: it is legal there, accepted or heard
abbrev pub is_so : Parts → Difference → Bool
is_so v BroadcastOption = v.broadcast
is_so v (ReceiveCell s n) = (description_in v).legal (OwnReceive s n)
is_so v (TransmitCell s n) = (description_in v).legal (OwnTransmit s n)
is_so v (BroadcastReceiveCell s n) = (description_in v).legal (BroadReceive s n)
is_so v (OwnCode code) = (description_in v).legal (OwnMode code)
is_so v (BroadcastCode code) = (description_in v).legal (BroadMode code)
is_so v Acceptance = v.accept
is_so v _ = true

-- the difference is told, and is so in the first terminal, or in the second
abbrev pub is_told_in : Parts → Parts → Bool → Difference → Bool
is_told_in v w first d = is_told v w d && not (unlike (is_so v d) first)

-- The group says of this kind that it is so in the first terminal alone, or in the second, at this subaddress with this word count.
abbrev pub group_says : CountKind → Bool → ℕ → ℕ → Group → Bool
group_says kind first s n g = ((rank g.difference == rank (of_count kind s n)) && not (unlike g.in_first first)) && (has_bit g.subaddresses (s - 1) && has_bit g.counts (n - 1))

-- the group of one difference
abbrev pub single : Parts → Difference → Group
single v d = record { difference = d; subaddresses = 0; counts = 0; in_first = is_so v d }

-- the difference comes before all those in word counts
abbrev pub is_before_counts : Difference → Bool
is_before_counts d = nat_le (rank d) 2

-- the difference comes after all those in word counts
abbrev pub is_behind_counts : Difference → Bool
is_behind_counts d = nat_le 6 (rank d)

-- Each told difference in a word count is told by exactly one group, which says in which terminal it is so; no group tells
-- anything else.
abbrev pub TellCounts : Parts → Parts → List Group → Type 0
TellCounts v w groups = (kind : CountKind) (first : Bool) (s n : ℕ) → is_data_place s n ≡ true
    → count_by (group_says kind first s n) groups ≡ (if is_told_in v w first (of_count kind s n) then 1 else 0)

-- the difference of a group is one that the group tells
abbrev pub ShowsOwn : Group → Type 0
ShowsOwn g = (kind : CountKind) × (s : ℕ) × (n : ℕ) × (g.difference ≡ of_count kind s n) × (is_data_place s n ≡ true) × (group_says kind g.in_first s n g ≡ true)

-- The groups of the differences that were found: those in word counts in groups, and each other alone, in their order.
pub record AreGroups (v w : Parts) (found : List Difference) (groups : List Group) : Type 0 where
  pub counts : List Group
  pub order : groups ≡ (map (single v) (filter is_before_counts found) ++ counts) ++ map (single v) (filter is_behind_counts found)
  pub each : TellCounts v w counts
  pub own : All ShowsOwn counts
