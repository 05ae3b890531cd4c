-- What is said of each bit of a table's masks.
use Rattle.std.specs.Prelude.{◌≡◌, ℕ, ◌<◌, Bool, false, ◌&&◌, List, get_or}
use Rattle.bus_word.specs.Cell.{allows_broadcast}
use Rattle.bus_word.specs.Mask.{has_bit}
use Rattle.bus_word.specs.Mode.{mode_row}
use Rattle.bus_legal.specs.declared.entries.Rule.{Rule}
use Rattle.bus_legal.specs.declared.entries.ModeRule.{ModeRule}
use Rattle.bus_legal.specs.Last.{last_of}
use Rattle.bus_legal.specs.OwnCodes.{mode_says}
use Rattle.bus_legal.specs.Legal.{rule_says, contains_broadcast}

-- the bits of a table are as said: for each mask, from 0, and each of its 32 bits
abbrev pub MasksSay : List ℕ → (ℕ → ℕ → Bool) → Type 0
MasksSay masks said = (s i : ℕ) → s < 30 → i < 32 → has_bit (get_or masks s 0) i ≡ said s i

-- the bit of the subaddress and that of the word count are in the rule's sets
abbrev pub has_both_bits : ℕ → ℕ → Rule → Bool
has_both_bits s i r = has_bit r.subaddresses s && has_bit r.counts i

-- what the last of these rules says of a bit, among the rules that concern the table
abbrev pub bit_said : (Rule → Bool) → List Rule → ℕ → ℕ → Bool
bit_said concerns rules s i = rule_says (last_of (λ r. concerns r && has_both_bits s i r) rules)

-- The last mode entry that speaks of the code by broadcast says whether it is legal; with none it is
-- not. A code that the table of mode codes does not have by broadcast never is.
abbrev pub is_broadcast_code_legal : List ModeRule → ℕ → Bool
is_broadcast_code_legal modes code = allows_broadcast (mode_row code) && mode_says false (last_of (contains_broadcast code) modes)
