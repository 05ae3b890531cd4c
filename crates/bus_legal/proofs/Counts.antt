-- The largest word count that passes, and whether some word count does.
use Rattle.std.proofs.Common.{◌≡◌, ℕ, zero, suc, ◌≤◌, ◌<◌, Bool, true, false, ◌&&◌, ◌||◌, cond, nat_le, refl, ap, sym, ◌∙◌, inl, inr, ◌⊎◌, arith}
use Rattle.std.proofs.lemmas.Bool.{cases_lt}
use Rattle.std.proofs.lemmas.Bool.Decides.{nat_tests}
use Rattle.bus_word.specs.Cell.{is_data_place}
use Rattle.bus_word.specs.declared.cell.Cell.TheVariants.{OwnTransmit}
use Rattle.bus_legal.specs.Description.{Description}
use Rattle.bus_legal.specs.Reach.{largest_to, any_to, largest_count, transmits_at, can_transmit}

pub largest_to-le : (n : ℕ) (p : ℕ → Bool) → largest_to n p ≤ n
largest_to-le zero p = omega arith
largest_to-le (suc n) p = by_last (p (suc n)) (largest_to-le n p)
  where
    by_last : (t : Bool) → largest_to n p ≤ n → cond t (suc n) (largest_to n p) ≤ suc n
    by_last true h = omega arith
    by_last false h = omega arith

-- the largest number that passes, passes
pub largest_to-passes : (n : ℕ) (p : ℕ → Bool) → 1 ≤ largest_to n p → p (largest_to n p) ≡ true
largest_to-passes zero p h = absurd (omega arith)
largest_to-passes (suc n) p h = by_last (p (suc n)) refl h (largest_to-passes n p)
  where
    by_last : (t : Bool) → p (suc n) ≡ t → 1 ≤ cond t (suc n) (largest_to n p) → (1 ≤ largest_to n p → p (largest_to n p) ≡ true) →
        p (cond t (suc n) (largest_to n p)) ≡ true
    by_last true e h f = e
    by_last false e h f = f h

-- what passes is at most the largest that passes
pub largest_to-bounds : (n : ℕ) (p : ℕ → Bool) (m : ℕ) → p m ≡ true → 1 ≤ m → m ≤ n → m ≤ largest_to n p
largest_to-bounds zero p m e low high = omega arith
largest_to-bounds (suc n) p m e low high = by_last (p (suc n)) refl (largest_to-bounds n p m e low) (cases_lt m (suc n))
  where
    by_last : (t : Bool) → p (suc n) ≡ t → (m ≤ n → m ≤ largest_to n p) → (m < suc n) ⊎ (suc n ≤ m) → m ≤ cond t (suc n) (largest_to n p)
    by_last true x f c = high
    by_last false x f (inl lt) = f (omega arith)
    by_last false x f (inr le) = let at : m ≡ suc n = omega arith in let wrong : true ≡ false = sym e ∙ (ap p at ∙ x) in cc

-- the place of a word that can be transmitted is a place of data, where the legal cells are
pub sent_place : (P : Description) → ((s n : ℕ) → P.legal (OwnTransmit s n) ≡ true → is_data_place s n ≡ true) → (s i : ℕ) →
    can_transmit P s i ≡ true → is_data_place s i ≡ true
unfolding largest_count
sent_place P places s i sent =
    let most : ℕ = largest_to 32 (transmits_at P s) in
    let high : most ≤ 32 = largest_to-le 32 (transmits_at P s) in
    between s i most high sent (λ low. places s most (largest_to-passes 32 (transmits_at P s) low))
  where
    between : (s i most : ℕ) → most ≤ 32 → (nat_le 1 i && nat_le i most) ≡ true → (1 ≤ most → is_data_place s most ≡ true) → is_data_place s i ≡ true
    between s i most high sent place =
        let low : 1 ≤ most = grind (arith, nat_tests) in
        let top : is_data_place s most ≡ true = place low in
        grind (arith, nat_tests)

-- some number passes, where this one does
pub any_to-true : (n : ℕ) (p : ℕ → Bool) (m : ℕ) → p m ≡ true → 1 ≤ m → m ≤ n → any_to n p ≡ true
any_to-true zero p m e low high = absurd (omega arith)
any_to-true (suc n) p m e low high = by_last (p (suc n)) refl (any_to-true n p m e low) (cases_lt m (suc n))
  where
    by_last : (t : Bool) → p (suc n) ≡ t → (m ≤ n → any_to n p ≡ true) → (m < suc n) ⊎ (suc n ≤ m) → (t || any_to n p) ≡ true
    by_last true x f c = refl
    by_last false x f (inl lt) = f (omega arith)
    by_last false x f (inr le) = let at : m ≡ suc n = omega arith in let wrong : true ≡ false = sym e ∙ (ap p at ∙ x) in cc

pub any_to-false : (n : ℕ) (p : ℕ → Bool) → ((m : ℕ) → p m ≡ false) → any_to n p ≡ false
any_to-false zero p none = refl
any_to-false (suc n) p none = ap (λ b. b || any_to n p) (none (suc n)) ∙ any_to-false n p none

-- tests that agree on the numbers from 1 to n
pub largest_to-same : (n : ℕ) (p q : ℕ → Bool) → ((m : ℕ) → 1 ≤ m → m ≤ n → p m ≡ q m) → largest_to n p ≡ largest_to n q
largest_to-same zero p q same = refl
largest_to-same (suc n) p q same =
    ap (λ b. cond b (suc n) (largest_to n p)) (same (suc n) (omega arith) (omega arith))
    ∙ ap (λ k. cond (q (suc n)) (suc n) k) (largest_to-same n p q (λ m low high. same m low (omega arith)))

pub any_to-same : (n : ℕ) (p q : ℕ → Bool) → ((m : ℕ) → 1 ≤ m → m ≤ n → p m ≡ q m) → any_to n p ≡ any_to n q
any_to-same zero p q same = refl
any_to-same (suc n) p q same =
    ap (λ b. b || any_to n p) (same (suc n) (omega arith) (omega arith))
    ∙ ap (λ b. q (suc n) || b) (any_to-same n p q (λ m low high. same m low (omega arith)))

-- some number passes one of two tests
pub any_to-or : (n : ℕ) (p q : ℕ → Bool) → any_to n (λ m. p m || q m) ≡ (any_to n p || any_to n q)
any_to-or zero p q = refl
any_to-or (suc n) p q = ap (λ b. (p (suc n) || q (suc n)) || b) (any_to-or n p q) ∙ swap (p (suc n)) (q (suc n)) (any_to n p) (any_to n q)
  where
    swap : (a b c d : Bool) → ((a || b) || (c || d)) ≡ ((a || c) || (b || d))
    swap true b c d = refl
    swap false true true d = refl
    swap false true false d = refl
    swap false false c d = refl

-- some number passes a test behind another
pub any_to-and : (n : ℕ) (t : Bool) (p : ℕ → Bool) → any_to n (λ m. t && p m) ≡ (t && any_to n p)
any_to-and n true p = refl
any_to-and n false p = any_to-false n (λ m. false) (λ m. refl)
