-- The masks of the mode codes that a profile makes legal.
use Rattle.std.proofs.Common.{◌≡◌, ℕ, ◌<◌, ◌==◌, Bool, true, false, ◌&&◌, ◌||◌, List, [], ◌∷◌, bit_and, refl, ap, sym, ◌∙◌, arith}
use Rattle.std.specs.List.{list_all, list_any}
use Rattle.std.proofs.lemmas.Bool.{eqb-true, eq-eqb}
use Rattle.bus_word.specs.Mode.{required_codes, is_required_code}
use Rattle.bus_legal.specs.declared.entries.ModeRule.{ModeRule}
use Rattle.bus_word.specs.Mask.{has_bit}
use Rattle.bus_legal.specs.OwnCodes.{is_own_code_legal, has_required_codes}
use Rattle.bus_legal.specs.Tables.{is_own_mask}
use Rattle.bus_legal.proofs.Bits.{and-contained}
use Rattle.bus_legal.proofs.Bools.{left_of, right_of}
use Rattle.bus_legal.proofs.TableSteps.{required_codes-bits}

-- what holds of each code of a list holds of one that is in it
each_of : (p : ℕ → Bool) (codes : List ℕ) → list_all p codes ≡ true → (c : ℕ) → list_any (λ d. d == c) codes ≡ true → p c ≡ true
each_of p [] all c e = cc
each_of p (d ∷ codes) all c e = by_here (d == c) refl e (each_of p codes (right_of (p d) _ all) c)
  where
    by_here : (t : Bool) → (d == c) ≡ t → (t || list_any (λ d. d == c) codes) ≡ true → (list_any (λ d. d == c) codes ≡ true → p c ≡ true) → p c ≡ true
    by_here true here e later = ap p (sym (eqb-true d c here)) ∙ left_of (p d) _ all
    by_here false other e later = later e

pub each_required : (p : ℕ → Bool) → list_all p required_codes ≡ true → (c : ℕ) → is_required_code c ≡ true → p c ≡ true
each_required p all c e = each_of p required_codes all c e

-- the mask of the own codes that are legal is such a mask
pub own_mask : (modes : List ModeRule) (mask : ℕ) → ((c : ℕ) → c < 32 → has_bit mask c ≡ is_own_code_legal modes c) →
    bit_and mask 0x000f01ff ≡ mask → has_required_codes modes ≡ true → is_own_mask mask ≡ true
own_mask modes mask codes no_other required =
    let all : bit_and mask 0x134 ≡ 0x134 =
    and-contained mask 0x134 (omega arith) (λ c l e. codes c l ∙ each_required (is_own_code_legal modes) required c (sym (required_codes-bits c l) ∙ e)) in
    ap (λ b. b && (bit_and mask 0x134 == 0x134)) (eq-eqb (bit_and mask 0x000f01ff) mask no_other) ∙ eq-eqb (bit_and mask 0x134) 0x134 all
