-- From masks, and tables of words, to what is legal and what is held.
use Rattle.std.proofs.Common.{◌≡◌, ℕ, ◌<◌, Bool, true, false, ◌&&◌, is_some, bit_and, inl, inr, refl, sym, ap, ◌∙◌, arith}
use Rattle.std.proofs.lemmas.Bool.{eqb-true, and_parts}
use Rattle.bus_word.specs.Cell.{is_data_place, allows_broadcast}
use Rattle.bus_word.specs.Mode.{mode_row}
use Rattle.bus_legal.specs.Tables.{is_own_mask, is_broadcast_mask}
use Rattle.bus_legal.proofs.Bools.{guarded}
use Rattle.bus_legal.proofs.Bits.{has_bit-and}
use Rattle.bus_legal.proofs.TableSteps.{own_codes-bits, broadcast_codes-bits, row_below, broadcast_row_below}
use Rattle.bus_canon.specs.Difference.{IsLower}
use Rattle.bus_word.specs.Mask.{has_bit}
use Rattle.bus_canon.specs.inner.Search.{IsFirstNumber, IsFirstPlace}

-- what a table of cells says at places of data
abbrev pub said : (ℕ → ℕ → Bool) → ℕ → ℕ → Bool
said f s n = is_data_place s n && f s n

pub cells_alike : (f g : ℕ → ℕ → Bool) → ((s n : ℕ) → is_data_place s n ≡ true → f s n ≡ g s n) → (s n : ℕ) → said f s n ≡ said g s n
cells_alike f g same s n = guarded (is_data_place s n) (f s n) (g s n) (same s n)

pub cells_lower : (f g : ℕ → ℕ → Bool) (s n : ℕ) → IsFirstPlace f g s n → (t m : ℕ) → IsLower t m s n → said f t m ≡ said g t m
cells_lower f g s n first t m lower = guarded (is_data_place t m) (f t m) (g t m) (λ place. first.alike t m place lower)

pub cells_differ : (f g : ℕ → ℕ → Bool) (s n : ℕ) → IsFirstPlace f g s n → said f s n ≡ said g s n → ⊥
cells_differ f g s n first e =
    first.differ (sym (ap (λ b. b && f s n) first.place) ∙ (e ∙ ap (λ b. b && g s n) first.place))

-- mode codes of a table of them, which are below 32
pub codes_alike : (may_be : ℕ → Bool) (a b : ℕ) → ((c : ℕ) → may_be c ≡ true → c < 32) → ((c : ℕ) → c < 32 → has_bit a c ≡ has_bit b c) →
    (c : ℕ) → (may_be c && has_bit a c) ≡ (may_be c && has_bit b c)
codes_alike may_be a b below same c = guarded (may_be c) (has_bit a c) (has_bit b c) (λ e. same c (below c e))

pub codes_lower : (may_be : ℕ → Bool) (a b code : ℕ) → IsFirstNumber 32 (has_bit a) (has_bit b) code → (c : ℕ) → IsLower c 0 code 0 →
    (may_be c && has_bit a c) ≡ (may_be c && has_bit b c)
codes_lower may_be a b code first c (inl l) = ap (λ x. may_be c && x) (first.alike c l)
codes_lower may_be a b code first c (inr e) = absurd (omega (arith, e.1))

-- a bit that one of two masks has, of bits that may be in them, may be in them
codes_in : (may_be : ℕ → Bool) (codes a b c : ℕ) → ((c : ℕ) → c < 32 → has_bit codes c ≡ may_be c) → bit_and a codes ≡ a → bit_and b codes ≡ b →
    IsFirstNumber 32 (has_bit a) (has_bit b) c → may_be c ≡ true
codes_in may_be codes a b c table own other first = sym (table c first.inside) ∙ one (has_bit codes c) (has_bit a c) (has_bit b c) first.differ (kept a own) (kept b other)
  where
    kept : (mask : ℕ) → bit_and mask codes ≡ mask → has_bit mask c ≡ (has_bit codes c && has_bit mask c)
    kept mask e = ap (λ m. has_bit m c) (sym e) ∙ has_bit-and mask codes c

    one : (t x y : Bool) → (x ≡ y → ⊥) → x ≡ (t && x) → y ≡ (t && y) → t ≡ true
    one true x y differ e f = refl
    one false x y differ e f = absurd (differ (e ∙ sym f))

codes_differ : (may_be : ℕ → Bool) (codes a b c : ℕ) → ((c : ℕ) → c < 32 → has_bit codes c ≡ may_be c) → bit_and a codes ≡ a → bit_and b codes ≡ b →
    IsFirstNumber 32 (has_bit a) (has_bit b) c → (may_be c && has_bit a c) ≡ (may_be c && has_bit b c) → ⊥
codes_differ may_be codes a b c table own other first e =
    let has : may_be c ≡ true = codes_in may_be codes a b c table own other first in
    first.differ (sym (ap (λ t. t && has_bit a c) has) ∙ (e ∙ ap (λ t. t && has_bit b c) has))

abbrev pub is_own : ℕ → Bool
is_own c = is_some (mode_row c)

abbrev pub is_by_broadcast : ℕ → Bool
is_by_broadcast c = allows_broadcast (mode_row c)

own_only : (mask : ℕ) → is_own_mask mask ≡ true → bit_and mask 0x000f01ff ≡ mask
own_only mask e = eqb-true (bit_and mask 0x000f01ff) mask (and_parts _ _ e).0

broadcast_only : (mask : ℕ) → is_broadcast_mask mask ≡ true → bit_and mask 0x000201fa ≡ mask
broadcast_only mask e = eqb-true (bit_and mask 0x000201fa) mask e

pub own_alike : (a b : ℕ) → ((c : ℕ) → c < 32 → has_bit a c ≡ has_bit b c) → (c : ℕ) → (is_own c && has_bit a c) ≡ (is_own c && has_bit b c)
own_alike a b same = codes_alike is_own a b row_below same

pub broadcast_alike : (a b : ℕ) → ((c : ℕ) → c < 32 → has_bit a c ≡ has_bit b c) → (c : ℕ) → (is_by_broadcast c && has_bit a c) ≡ (is_by_broadcast c && has_bit b c)
broadcast_alike a b same = codes_alike is_by_broadcast a b broadcast_row_below same

pub own_differ : (a b c : ℕ) → is_own_mask a ≡ true → is_own_mask b ≡ true → IsFirstNumber 32 (has_bit a) (has_bit b) c → (is_own c && has_bit a c) ≡ (is_own c && has_bit b c) → ⊥
own_differ a b c p q first = codes_differ is_own 0x000f01ff a b c own_codes-bits (own_only a p) (own_only b q) first

pub broadcast_differ : (a b c : ℕ) → is_broadcast_mask a ≡ true → is_broadcast_mask b ≡ true → IsFirstNumber 32 (has_bit a) (has_bit b) c → (is_by_broadcast c && has_bit a c) ≡ (is_by_broadcast c && has_bit b c) → ⊥
broadcast_differ a b c p q first = codes_differ is_by_broadcast 0x000201fa a b c broadcast_codes-bits (broadcast_only a p) (broadcast_only b q) first
