-- What of initial entries has no effect, by what the entries say.
use Rattle.std.specs.Prelude.{◌≡◌, ◌↔◌, ℕ, suc, ◌<◌, ◌+◌, ◌-◌, ◌^◌, Bool, true, not, ◌&&◌, ◌==◌, nat_lt, if◌then◌else◌, IsTrue, HoldsAt, List, length, get_or, set, drop}
use Rattle.std.specs.List.{list_any}
use Rattle.bus_word.specs.Cell.{is_data_place}
use Rattle.bus_word.specs.Mask.{has_bit}
use Rattle.bus_legal.specs.declared.entries.InitialWords.{InitialWords}
use Rattle.bus_legal.specs.Initial.{gives, initial_word}
use Rattle.bus_legal.specs.Tables.{largest_in}
use Rattle.spare_entries.specs.declared.initials.InitialSpares.{InitialSpares}
use Rattle.spare_entries.specs.Without.{without, IsZeroed}

-- the numbers that an entry gives at a subaddress: bit i for number i + 1
abbrev pub numbers_at : ℕ → InitialWords → ℕ
numbers_at subaddress e = if subaddress == e.subaddress then 2 ^ (e.first - 1 + e.len) - 2 ^ (e.first - 1) else 0

-- the entry of this index gives the number, and no later one does
abbrev pub gives_last : List InitialWords → ℕ → ℕ → ℕ → InitialWords → Bool
gives_last entries k subaddress number e = not (list_any (gives subaddress number) (drop (suc k) entries)) && gives subaddress number e

-- each of these masks has the numbers that its entry is the last to give at a subaddress
abbrev pub AreLastNumbers : ℕ → List InitialWords → List ℕ → Type 0
AreLastNumbers subaddress entries masks = (k i : ℕ) → k < length entries → i < 32 → HoldsAt (λ e. has_bit (get_or masks k 0) i ≡ gives_last entries k subaddress (i + 1) e) entries k

-- a word of the entry is among these numbers, up to the largest word count
abbrev pub is_held : InitialWords → ℕ → ℕ → ℕ → Bool
is_held e last largest w = nat_lt w e.len && (nat_lt (e.first - 1 + w) largest && has_bit last (e.first - 1 + w))

-- the words of the entry that are held are those of the row
abbrev pub IsSpareBy : InitialWords → List ℕ → ℕ → ℕ → Type 0
IsSpareBy e row last largest = (w : ℕ) → w < 32 → is_held e last largest w ≡ true → get_or e.words w 0 ≡ get_or row (e.first - 1 + w) 0

-- the mask has the words of the entry that are not held, or 0
abbrev pub AreSpareBy : InitialWords → ℕ → ℕ → ℕ → Type 0
AreSpareBy e last largest mask = (w : ℕ) → w < 32 → IsTrue (has_bit mask w) ↔ (is_held e last largest w ≡ true → get_or e.words w 0 ≡ 0)

-- the largest legal word count at the subaddress of the place is at least its number, by the masks of word counts
abbrev pub may_be_sent : List ℕ → ℕ → ℕ → Bool
may_be_sent sent subaddress number = is_data_place subaddress number && nat_lt (number - 1) (largest_in (get_or sent (subaddress - 1) 0))

-- with other entries the same words are held of those that some legal command makes the terminal transmit
abbrev pub SameWords : List ℕ → List InitialWords → List InitialWords → Type 0
SameWords sent entries others = (s n : ℕ) → may_be_sent sent s n ≡ true → initial_word entries s n ≡ initial_word others s n

-- it is told so of the entry of this index
pub record IsMarked (sent : List ℕ) (entries : List InitialWords) (k : ℕ) (spare : InitialSpares) : Type 0 where
  pub entry : IsTrue spare.entry ↔ SameWords sent entries (without k entries)
  pub words : (w : ℕ) → w < 32 → HoldsAt (λ old. (new : InitialWords) × IsZeroed old w new × (IsTrue (has_bit spare.words w) ↔ SameWords sent entries (set entries k new))) entries k
