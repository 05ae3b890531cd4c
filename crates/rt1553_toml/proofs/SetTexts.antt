-- The text of a set is read as the set.
use Rattle.std.proofs.Common.{◌≡◌, ◌≢◌, ℕ, zero, suc, ◌+◌, ◌-◌, ◌*◌, ◌/◌, ◌%◌, ◌^◌, ◌<◌, ◌≤◌, ◌==◌, ◌&&◌, nat_le, Bool, true, false, cond, List, [], ◌∷◌, ◌++◌, map, Ok, refl, ap, sym, ◌∙◌, append-nil, ◌⊎◌, inl, inr, ⊎_elim, arith}
use Rattle.std.proofs.lemmas.Bool.{cases_lt}
use Rattle.std.proofs.lemmas.Bool.Decides.{nat_tests}
use Rattle.std.specs.List.{list_all}
use Rattle.bus_word.specs.Mask.{has_bit}
use Rattle.bus_profile.specs.Ranges.{IsDigit, IsNumber, IsItem, Denotes}
use Rattle.bus_profile.specs.RangesOf.{is_within, is_named, mask_of, mask_within, ranges_of}
use Rattle.bus_profile.proofs.RangesGrammar.{items_found}
use Rattle.bus_profile.proofs.Bits.{bits_where-same, bits_where-whole}
use Rattle.bus_legal.proofs.Bits.{same_mask}
use Rattle.bus_legal.proofs.TopBit.{zero-bit}
use Rattle.rt1553_toml.specs.Sets.{two_digits, lone_range, more_numbers, numbers_below, numbers_text, said_set, set_text}

-- ---- the items of the text: each is a number alone

-- the numbers of the bits below k
abbrev numbers : ℕ → ℕ → ℕ → List ℕ
numbers first mask zero = []
numbers first mask (suc k) = cond (has_bit mask k) ((first + k) ∷ numbers first mask k) (numbers first mask k)

-- the text is these numbers
abbrev DenotesNumbers : List ℕ → List ℕ → Type 0
DenotesNumbers text ns = Denotes text (map (λ n. record { first = n; last = n }) ns)

abbrev IsNumberItem : List ℕ → ℕ → Type 0
IsNumberItem text n = IsItem text (record { first = n; last = n })

-- some item is n
abbrev names : List ℕ → ℕ → Bool
names ns n = is_named (map (λ m. record { first = m; last = m }) ns) n

abbrev are_within : ℕ → ℕ → List ℕ → Bool
are_within low high ns = list_all (is_within low high) (map (λ m. record { first = m; last = m }) ns)

high_digit : (n : ℕ) → n < 100 → IsDigit (48 + n / 10)
high_digit n l = (omega arith, omega arith)

low_digit : (n : ℕ) → IsDigit (48 + n % 10)
low_digit n = (omega arith, omega arith)

two_value : (n : ℕ) → n ≡ 10 * (48 + n / 10 - 48) + (48 + n % 10 - 48)
two_value n = omega arith

two_number : (n : ℕ) → n < 100 → IsNumber (two_digits n) n
two_number n l = record { before = []; digits = two_digits n; after = []; is = refl; spaces_before = tt; spaces_after = tt; value = (high_digit n l, low_digit n, two_value n) }

two_item : (n : ℕ) → n < 100 → IsNumberItem (two_digits n) n
two_item n l = inl (two_number n l, refl)

lone_item : (n : ℕ) → n < 100 → IsNumberItem (lone_range n) n
lone_item n l = inr (record { left = two_digits n; right = two_digits n; is = refl; first = two_number n l; last = two_number n l })

more_denoted : (first mask k : ℕ) → first + k ≤ 100 → (part : List ℕ) (n : ℕ) → IsNumberItem part n → DenotesNumbers (part ++ more_numbers first mask k) (n ∷ numbers first mask k)
more_denoted first mask zero small part n h = rw (append-nil part) h
more_denoted first mask (suc k) small part n h = pick (has_bit mask k) (more_denoted first mask k (omega arith))
  where
    pick : (b : Bool) → ((part : List ℕ) (n : ℕ) → IsNumberItem part n → DenotesNumbers (part ++ more_numbers first mask k) (n ∷ numbers first mask k))
        → DenotesNumbers (part ++ cond b (44 ∷ (two_digits (first + k) ++ more_numbers first mask k)) (more_numbers first mask k)) (n ∷ cond b ((first + k) ∷ numbers first mask k) (numbers first mask k))
    pick true more = (part, two_digits (first + k) ++ more_numbers first mask k, refl, h, more (two_digits (first + k)) (first + k) (two_item (first + k) (omega arith)))
    pick false more = more part n h

abbrev HasNoBit : ℕ → ℕ → Type 0
HasNoBit mask k = (i : ℕ) → i < k → has_bit mask i ≡ false

below_denoted : (first mask k : ℕ) → first + k ≤ 100 → DenotesNumbers (numbers_below first mask k) (numbers first mask k) ⊎ HasNoBit mask k
below_denoted first mask zero small = inr (λ i l. absurd (omega arith))
below_denoted first mask (suc k) small = pick (has_bit mask k) refl (below_denoted first mask k (omega arith))
  where
    pick : (b : Bool) → has_bit mask k ≡ b → DenotesNumbers (numbers_below first mask k) (numbers first mask k) ⊎ HasNoBit mask k
        → DenotesNumbers (cond b (lone_range (first + k) ++ more_numbers first mask k) (numbers_below first mask k)) (cond b ((first + k) ∷ numbers first mask k) (numbers first mask k)) ⊎ HasNoBit mask (suc k)
    pick true set below = inl (more_denoted first mask k (omega arith) (lone_range (first + k)) (first + k) (lone_item (first + k) (omega arith)))
    pick false unset (inl d) = inl d
    pick false unset (inr none) = inr (λ i l. ⊎_elim (λ lt. none i lt) (λ le. let e : i ≡ k = omega arith in ap (has_bit mask) e ∙ unset) (cases_lt i k))

denoted : (first mask k : ℕ) → k ≡ 32 → first + 32 ≤ 100 → mask < 2 ^ 32 → mask ≢ 0 → DenotesNumbers (numbers_below first mask k) (numbers first mask k)
denoted first mask k e small fits some =
    ⊎_elim (λ d. d) (λ none. absurd (some (same_mask mask 0 fits (omega arith) (λ i l. none i (omega (arith, e)) ∙ sym (zero-bit i))))) (below_denoted first mask k (omega (arith, e)))

-- ---- the numbers of the items

none_named : (first mask k i : ℕ) → k ≤ i → names (numbers first mask k) (first + i) ≡ false
none_named first mask zero i l = refl
none_named first mask (suc k) i l = pick (has_bit mask k) (none_named first mask k i (omega arith))
  where
    apart : (nat_le (first + k) (first + i) && nat_le (first + i) (first + k)) ≡ false
    apart = grind (arith, nat_tests)

    pick : (b : Bool) → names (numbers first mask k) (first + i) ≡ false → names (cond b ((first + k) ∷ numbers first mask k) (numbers first mask k)) (first + i) ≡ false
    pick true e = rw apart e
    pick false e = e

named : (first mask k i : ℕ) → i < k → names (numbers first mask k) (first + i) ≡ has_bit mask i
named first mask zero i l = absurd (omega arith)
named first mask (suc k) i l = ⊎_elim (λ lt. below lt (has_bit mask k) (named first mask k i lt)) (λ le. at_it (omega arith)) (cases_lt i k)
  where
    below : i < k → (b : Bool) → names (numbers first mask k) (first + i) ≡ has_bit mask i → names (cond b ((first + k) ∷ numbers first mask k) (numbers first mask k)) (first + i) ≡ has_bit mask i
    below lt true e = let apart : (nat_le (first + k) (first + i) && nat_le (first + i) (first + k)) ≡ false = grind (arith, nat_tests) in rw apart e
    below lt false e = e

    same : (b : Bool) → has_bit mask i ≡ b → i ≡ k → names (cond b ((first + k) ∷ numbers first mask k) (numbers first mask k)) (first + i) ≡ b
    same true e at = let here : (nat_le (first + k) (first + i) && nat_le (first + i) (first + k)) ≡ true = grind (arith, nat_tests) in rw here refl
    same false e at = none_named first mask k i (omega arith)

    at_it : i ≡ k → names (numbers first mask (suc k)) (first + i) ≡ has_bit mask i
    at_it at = ap (λ b. names (cond b ((first + k) ∷ numbers first mask k) (numbers first mask k)) (first + i)) (ap (has_bit mask) (sym at)) ∙ same (has_bit mask i) refl at

within : (low high mask k : ℕ) → low + k ≤ high + 1 → are_within low high (numbers low mask k) ≡ true
within low high mask zero l = refl
within low high mask (suc k) l = pick (has_bit mask k) (within low high mask k (omega arith))
  where
    here : ((nat_le low (low + k) && nat_le (low + k) (low + k)) && nat_le (low + k) high) ≡ true
    here = grind (arith, nat_tests)

    pick : (b : Bool) → are_within low high (numbers low mask k) ≡ true → are_within low high (cond b ((low + k) ∷ numbers low mask k) (numbers low mask k)) ≡ true
    pick true e = rw here e
    pick false e = e

-- ---- the set

numbers_read_to : (low high mask k : ℕ) → k ≡ 32 → low + 32 ≤ high + 1 → low + 32 ≤ 100 → mask < 2 ^ 32 → mask ≢ 0 → ranges_of low high (numbers_below low mask k) ≡ Ok mask
unfolding ranges_of mask_of
numbers_read_to low high mask k e wide small fits some =
    ap (mask_within low high) (items_found (numbers_below low mask k) (map (λ n. record { first = n; last = n }) (numbers low mask k)) (denoted low mask k e small fits some))
    ∙ rw (within low high mask k (omega (arith, e))) (ap Ok (bits_where-same 32 _ _ (λ i l. named low mask k i (omega (arith, e))) ∙ bits_where-whole 32 mask fits))

numbers_read : (low high mask : ℕ) → low + 32 ≤ high + 1 → low + 32 ≤ 100 → mask < 2 ^ 32 → mask ≢ 0 → ranges_of low high (numbers_text low mask) ≡ Ok mask
unfolding numbers_text
numbers_read low high mask wide small fits some = numbers_read_to low high mask 32 refl wide small fits some

pub said_fits : (mask : ℕ) → mask < 2 ^ 32 → said_set mask < 2 ^ 32
said_fits mask l = pick (mask == 0)
  where
    pick : (b : Bool) → cond b 1 mask < 2 ^ 32
    pick true = omega arith
    pick false = l

pub said_some : (mask : ℕ) → said_set mask ≢ 0
said_some mask = pick (mask == 0) refl
  where
    pick : (b : Bool) → (mask == 0) ≡ b → cond b 1 mask ≢ 0
    pick true e = λ none. absurd (omega (arith, none))
    pick false e = λ none. absurd (grind (arith, nat_tests))

pub set_read : (low high mask : ℕ) → low + 32 ≤ high + 1 → low + 32 ≤ 100 → mask < 2 ^ 32 → ranges_of low high (set_text low mask) ≡ Ok (said_set mask)
set_read low high mask wide small fits = numbers_read low high (said_set mask) wide small (said_fits mask fits) (said_some mask)
