-- Masks that follow the entries of a profile one by one.
use Rattle.std.proofs.Common.{◌≡◌, ℕ, ◌+◌, ◌-◌, ◌<◌, Bool, true, false, ◌&&◌, cond, List, get_or, take, replicate, length, Option, Some, is_some, bit_and, refl, ap, sym, ◌∙◌, arith}
use Rattle.std.proofs.lemmas.Bool.Decides.{nat_tests}
use Rattle.std.proofs.lemmas.List.{get_or-replicate}
use Rattle.std.specs.Int.Bits.{and_self}
use Rattle.std.proofs.lemmas.Nat.{and_assoc}
use Rattle.std.proofs.lemmas.Nat.Bits.{bit_at-zero}
use Rattle.bus_word.specs.Cell.{is_data_place, allows_broadcast, same_bool}
use Rattle.bus_word.specs.Mode.{mode_row, is_required_code}
use Rattle.bus_legal.specs.declared.entries.Rule.{Rule}
use Rattle.bus_legal.specs.declared.entries.ModeRule.{ModeRule}
use Rattle.bus_legal.specs.Last.{last_of}
use Rattle.bus_word.specs.Mask.{has_bit}
use Rattle.bus_legal.specs.OwnCodes.{mode_says}
use Rattle.bus_legal.specs.Legal.{rule_says}
use Rattle.bus_legal.specs.Tables.{has_count}
use Rattle.bus_legal.specs.inner.Masks.{MasksSay}
use Rattle.bus_word.proofs.ModeLaws.{same_bool-true}
use Rattle.bus_legal.proofs.Bits.{each_below, has_bit-and}
use Rattle.bus_legal.proofs.Bools.{guarded}
use Rattle.bus_legal.proofs.Last.{last_of-take}
use Rattle.bus_word.proofs.Places.{place_low, place_high}

rule_says-cond : (t : Bool) (r : Rule) (o : Option Rule) → rule_says (cond t (Some r) o) ≡ cond t r.legal (rule_says o)
rule_says-cond true r o = refl
rule_says-cond false r o = refl

mode_says-cond : (default t : Bool) (m : ModeRule) (o : Option ModeRule) → mode_says default (cond t (Some m) o) ≡ cond t m.legal (mode_says default o)
mode_says-cond default true m o = refl
mode_says-cond default false m o = refl

-- one more rule: what it says where it passes, else what was said before
pub rule_says-take : (p : Rule → Bool) (rules : List Rule) (at : ℕ) (d : Rule) (old new : Bool) → at < length rules →
    old ≡ rule_says (last_of p (take at rules)) → new ≡ cond (p (get_or rules at d)) (get_or rules at d).legal old → new ≡ rule_says (last_of p (take (at + 1) rules))
rule_says-take p rules at d old new l e f =
    let r = get_or rules at d in
    f ∙ (ap (cond (p r) r.legal) e ∙ sym (ap rule_says (last_of-take p rules at d l) ∙ rule_says-cond (p r) r (last_of p (take at rules))))

-- one more mode entry
pub mode_says-take : (default : Bool) (p : ModeRule → Bool) (modes : List ModeRule) (at : ℕ) (d : ModeRule) (old new : Bool) → at < length modes →
    old ≡ mode_says default (last_of p (take at modes)) → new ≡ cond (p (get_or modes at d)) (get_or modes at d).legal old →
    new ≡ mode_says default (last_of p (take (at + 1) modes))
mode_says-take default p modes at d old new l e f =
    let m = get_or modes at d in
    f ∙ (ap (cond (p m) m.legal) e ∙ sym (ap (mode_says default) (last_of-take p modes at d l) ∙ mode_says-cond default (p m) m (last_of p (take at modes))))

-- no bit of a table of zeros is set
pub zeros-bits : MasksSay (replicate 30 0) (λ s i. false)
zeros-bits s i l k = rw (get_or-replicate {A = ℕ} 30 s 0 0 l, bit_at-zero i) refl

-- the masks of mode codes are those of the table of mode codes
pub required_codes-bits : (c : ℕ) → c < 32 → has_bit 0x134 c ≡ is_required_code c
required_codes-bits c l = same_bool-true _ _ (each_below 32 (λ c. same_bool (has_bit 0x134 c) (is_required_code c)) refl c l)

pub own_codes-bits : (c : ℕ) → c < 32 → has_bit 0x000f01ff c ≡ is_some (mode_row c)
own_codes-bits c l = same_bool-true _ _ (each_below 32 (λ c. same_bool (has_bit 0x000f01ff c) (is_some (mode_row c))) refl c l)

pub broadcast_codes-bits : (c : ℕ) → c < 32 → has_bit 0x000201fa c ≡ allows_broadcast (mode_row c)
broadcast_codes-bits c l = same_bool-true _ _ (each_below 32 (λ c. same_bool (has_bit 0x000201fa c) (allows_broadcast (mode_row c))) refl c l)

-- a table and what is said of its bits agree at each place of data
pub at_place : (s n : ℕ) (masks : List ℕ) (said : ℕ → ℕ → Bool) → MasksSay masks said →
    (is_data_place s n && has_count masks s n) ≡ (is_data_place s n && said (s - 1) (n - 1))
at_place s n masks said h = guarded (is_data_place s n) _ _ (λ e. h (s - 1) (n - 1) (place_low s n e) (place_high s n e))

-- a mode code of the table is a bit of a mask
pub row_below : (c : ℕ) → is_some (mode_row c) ≡ true → c < 32
row_below c e = grind (arith, nat_tests)

pub broadcast_row_below : (c : ℕ) → allows_broadcast (mode_row c) ≡ true → c < 32
broadcast_row_below c e = grind (arith, nat_tests)

-- a mask of codes that may be legal, and what is said of each of them
pub codes-said : (mask codes c : ℕ) (may_be said : Bool) → has_bit codes c ≡ may_be → has_bit mask c ≡ said → has_bit (bit_and mask codes) c ≡ (may_be && said)
codes-said mask codes c may_be said e f = has_bit-and mask codes c ∙ (ap (λ b. b && has_bit mask c) e ∙ ap (λ b. may_be && b) f)

-- a mask of which just these bits are kept has no others
pub kept-twice : (mask codes : ℕ) → bit_and (bit_and mask codes) codes ≡ bit_and mask codes
kept-twice mask codes = and_assoc codes mask codes ∙ ap (bit_and mask) (and_self codes)

-- a code that may be legal is a bit of the mask, which says whether it is
pub at_code : (may_be bit said : Bool) → (may_be ≡ true → bit ≡ (may_be && said)) → (may_be && bit) ≡ (may_be && said)
at_code true bit said h = h refl
at_code false bit said h = refl
