-- The word counts that are legal in one terminal alone, as masks, and the groups that they are told in.
use Rattle.std.specs.Prelude.{◌≡◌, ℕ, ◌-◌, Bool, true, false, not, ◌&&◌, ◌==◌, if◌then◌else◌, List, ◌++◌, map, All, get_or, bit_and}
use Rattle.std.specs.List.{filter, count_by}
use Rattle.bus_word.specs.Cell.{is_data_place}
use Rattle.bus_word.specs.Mask.{has_bit}
use Rattle.bus_legal.specs.declared.tables.Tables.{Tables}
use Rattle.bus_legal.specs.Parts.{Parts}
use Rattle.bus_legal.specs.Reach.{any_to}
use Rattle.bus_canon.specs.declared.difference.Difference.{Difference}
use Rattle.rt1553_differ.specs.Told.{unlike}
use Rattle.rt1553_differ.specs.Groups.{is_before_counts, is_behind_counts, single, group_says, ShowsOwn}
use Rattle.rt1553_differ.specs.declared.groups.CountKind.{CountKind}
use Rattle.rt1553_differ.specs.declared.groups.CountKind.TheVariants.{Receive, Transmit, Broadcast}
use Rattle.rt1553_differ.specs.declared.groups.Group.{Group}

-- the masks of a kind
abbrev pub masks_of : CountKind → Tables → List ℕ
masks_of Receive t = t.own_receive
masks_of Transmit t = t.own_transmit
masks_of Broadcast t = t.broadcast_receive

-- nothing of this kind is told
abbrev pub is_untold : CountKind → Parts → Parts → Bool
is_untold Broadcast v w = unlike v.broadcast w.broadcast
is_untold _ v w = false

-- the bits of one mask alone
abbrev pub bits_alone : ℕ → ℕ → ℕ
bits_alone a b = bit_and a (0xffffffff - b)

-- the word counts of this kind at a subaddress that are legal in the first alone, or in the second
unfoldable pub alone_mask : Parts → Parts → CountKind → Bool → ℕ → ℕ
alone_mask v w kind first s =
    let a : ℕ = get_or (masks_of kind v.tables) (s - 1) 0 in
    let b : ℕ = get_or (masks_of kind w.tables) (s - 1) 0 in
    if is_untold kind v w then 0 else (if first then bits_alone a b else bits_alone b a)

-- some subaddress from 1 to so many has this mask
abbrev pub is_had : (ℕ → ℕ) → ℕ → ℕ → Bool
is_had masks upto mask = any_to upto (λ t. masks t == mask)

-- what a group at this subaddress says: if no subaddress before it has its mask, the word counts of the mask at each that has it
abbrev pub said_at : (Bool → ℕ → ℕ) → Bool → ℕ → Bool → ℕ → ℕ → Bool
said_at masks first s other t n = not (unlike first other) && (not (is_had (masks first) (s - 1) (masks first s)) && ((masks first s == masks first t) && has_bit (masks first s) (n - 1)))

-- what the groups of the subaddresses before this one say
abbrev pub said_before : (Bool → ℕ → ℕ) → ℕ → Bool → ℕ → ℕ → Bool
said_before masks s other t n = is_had (masks other) (s - 1) (masks other t) && has_bit (masks other t) (n - 1)

-- the differences before those in word counts, or behind them
abbrev pub is_beside : Bool → Difference → Bool
is_beside false d = is_before_counts d
is_beside true d = is_behind_counts d

-- the differences on one side of those in word counts, each in a group of its own
unfoldable pub singles : Parts → Bool → List Difference → List Group
singles v behind ds = map (single v) (filter (is_beside behind) ds)

-- to these groups some are added, which say what is wanted of a kind and nothing else
pub record AddsGroups (kind : CountKind) (old new : List Group) (wanted : Bool → ℕ → ℕ → Bool) : Type 0 where
  pub groups : List Group
  pub added : new ≡ old ++ groups
  pub own : All ShowsOwn groups
  pub each : (first : Bool) (s n : ℕ) → is_data_place s n ≡ true → count_by (group_says kind first s n) groups ≡ (if wanted first s n then 1 else 0)
  pub alone : (first : Bool) (s n : ℕ) (other : CountKind) → is_data_place s n ≡ true → (other ≡ kind → ⊥) → count_by (group_says other first s n) groups ≡ 0
