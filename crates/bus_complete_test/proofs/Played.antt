-- Some exchanges that are part of a script which two terminals answer alike.
use Rattle.std.proofs.Common.{◌≡◌, ℕ, zero, suc, ◌+◌, ◌<◌, ◌≤◌, Bool, true, ◌&&◌, ◌⊎◌, inl, inr, List, [], ◌∷◌, ◌++◌, refl, subst, arith}
use Rattle.std.proofs.lemmas.Bool.Decides.{nat_tests}
use Rattle.std.proofs.lemmas.Bool.{and_parts}
use Rattle.bus_word.specs.Cell.{is_data_place}
use Rattle.bus_legal.specs.Description.{Description}
use Rattle.terminal_exchanges.specs.Exchanges.{Exchange}
use Rattle.terminal_exchanges.specs.ExchangeLaws.{AreAnswered}
use Rattle.terminal_exchanges.proofs.Distinguish.Said.{all_pass, any, all_any}
use Rattle.bus_complete_test.specs.CompleteTest.{each_in, each_place}
use Rattle.bus_complete_test.proofs.SlotWalk.{AreSound, sound_join, answered_more, AlikeInEach}

-- the latest first
abbrev onto : List Exchange → List Exchange → List Exchange
onto [] xs = xs
onto (y ∷ ys) xs = onto ys (y ∷ xs)

-- Before them, exchanges that pass were played, and answered to the end by both; and in each of their own slots the two send
-- the same.
pub record Played (ok : Exchange → Bool) (P Q : Description) (ys : List Exchange) : Type 0 where
  pub before : List Exchange
  pub first : AreAnswered P before
  pub second : AreAnswered Q before
  pub passed : all_pass ok before ≡ true
  pub alike : AlikeInEach P Q before ys

pub alike_left : (P Q : Description) (xs ys zs : List Exchange) → AlikeInEach P Q xs (ys ++ zs) → AlikeInEach P Q xs ys
alike_left P Q xs [] zs a = tt
alike_left P Q xs (y ∷ ys) zs (here, a) = (here, alike_left P Q (y ∷ xs) ys zs a)

alike_right : (P Q : Description) (xs ys zs : List Exchange) → AlikeInEach P Q xs (ys ++ zs) → AlikeInEach P Q (onto ys xs) zs
alike_right P Q xs [] zs a = a
alike_right P Q xs (y ∷ ys) zs (here, a) = alike_right P Q (y ∷ xs) ys zs a

answered_onto : (P : Description) (xs ys : List Exchange) → AreSound ys → AreAnswered P xs → AreAnswered P (onto ys xs)
answered_onto P xs [] s a = a
answered_onto P xs (y ∷ ys) (s, ss) a = answered_onto P (y ∷ xs) ys ss (answered_more P xs y s a)

passed_onto : (ok : Exchange → Bool) (xs ys : List Exchange) → all_pass ok ys ≡ true → all_pass ok xs ≡ true → all_pass ok (onto ys xs) ≡ true
passed_onto ok xs [] p q = q
passed_onto ok xs (y ∷ ys) p q =
    let both : (ok y ≡ true) × (all_pass ok ys ≡ true) = and_parts (ok y) (all_pass ok ys) p in
    passed_onto ok (y ∷ xs) ys both.1 (λ j. both.0 j && q j)

pub played_left : (ok : Exchange → Bool) (P Q : Description) (ys zs : List Exchange) → Played ok P Q (ys ++ zs) → Played ok P Q ys
played_left ok P Q ys zs p = record { before = p.before; first = p.first; second = p.second; passed = p.passed; alike = alike_left P Q p.before ys zs p.alike }

pub played_right : (ok : Exchange → Bool) (P Q : Description) (ys zs : List Exchange) → AreSound ys → all_pass ok ys ≡ true → Played ok P Q (ys ++ zs) → Played ok P Q zs
played_right ok P Q ys zs s all p = record {
  before = onto ys p.before;
  first = answered_onto P p.before ys s p.first;
  second = answered_onto Q p.before ys s p.second;
  passed = passed_onto ok p.before ys all p.passed;
  alike = alike_right P Q p.before ys zs p.alike;
}

-- whatever came before
pub played_anyhow : (ok : Exchange → Bool) (P Q : Description) (ys : List Exchange) → Played ok P Q ys → Played any P Q ys
played_anyhow ok P Q ys p = record { before = p.before; first = p.first; second = p.second; passed = all_any p.before; alike = p.alike }

pub played_next : (P Q : Description) (ys zs : List Exchange) → AreSound ys → Played any P Q (ys ++ zs) → Played any P Q zs
played_next P Q ys zs s p = played_right any P Q ys zs s (all_any ys) p

-- of the exchanges of so many numbers, those of each number
pub sound_each : (first n : ℕ) (f : ℕ → List Exchange) → ((k : ℕ) → first ≤ k → k < first + n → AreSound (f k)) → AreSound (each_in first n f)
unfolding each_in
sound_each first zero f s = tt
sound_each first (suc n) f s =
    sound_join (f first) (each_in (suc first) n f) (s first (omega arith) (omega arith)) (sound_each (suc first) n f (λ k from upto. s k (omega arith) (omega arith)))

pub pass_each : (ok : Exchange → Bool) (first n : ℕ) (f : ℕ → List Exchange) → ((k : ℕ) → all_pass ok (f k) ≡ true) → all_pass ok (each_in first n f) ≡ true
unfolding each_in
pass_each ok first zero f s = refl
pass_each ok first (suc n) f s = pass_join (f first) (each_in (suc first) n f) (s first) (pass_each ok (suc first) n f s)
  where
    pass_join : (xs ys : List Exchange) → all_pass ok xs ≡ true → all_pass ok ys ≡ true → all_pass ok (xs ++ ys) ≡ true
    pass_join [] ys a b = b
    pass_join (x ∷ xs) ys a b =
        let both : (ok x ≡ true) × (all_pass ok xs ≡ true) = and_parts (ok x) (all_pass ok xs) a in
        (λ j. both.0 j && pass_join xs ys both.1 b j)

here_or_later : (first k : ℕ) → first ≤ k → (first ≡ k) ⊎ (suc first ≤ k)
here_or_later first k from = grind arith

pub played_each : (ok : Exchange → Bool) (P Q : Description) (first n : ℕ) (f : ℕ → List Exchange) →
    ((k : ℕ) → first ≤ k → k < first + n → AreSound (f k)) → ((k : ℕ) → all_pass ok (f k) ≡ true) →
    Played ok P Q (each_in first n f) → (k : ℕ) → first ≤ k → k < first + n → Played ok P Q (f k)
unfolding each_in
played_each ok P Q first zero f s all p k from upto = absurd (omega arith)
played_each ok P Q first (suc n) f s all p k from upto =
    elim (here_or_later first k from) [
      | inl e ↦ subst (λ (k : ℕ). Played ok P Q (f k)) e (played_left ok P Q (f first) (each_in (suc first) n f) p)
      | inr later ↦
          played_each ok P Q (suc first) n f (λ k from upto. s k (omega arith) (omega arith)) all
          (played_right ok P Q (f first) (each_in (suc first) n f) (s first (omega arith) (omega arith)) (all first) p) k later (omega arith)
    ]

-- numbers in their ranges are those of a place of data
pub in_place : (s n : ℕ) → 1 ≤ s → s < 1 + 30 → 1 ≤ n → n < 1 + 32 → is_data_place s n ≡ true
in_place s n s_from s_upto n_from n_upto = grind (arith, nat_tests)

-- what holds of the exchanges of each place of data holds of those of all places
pub sound_place : (f : ℕ → ℕ → List Exchange) → ((s n : ℕ) → is_data_place s n ≡ true → AreSound (f s n)) → AreSound (each_place f)
sound_place f s =
    sound_each 1 30 (λ s. each_in 1 32 (f s)) (λ t t_from t_upto. sound_each 1 32 (f t) (λ n n_from n_upto. s t n (in_place t n t_from t_upto n_from n_upto)))

pub played_place : (ok : Exchange → Bool) (P Q : Description) (f : ℕ → ℕ → List Exchange) →
    ((s n : ℕ) → is_data_place s n ≡ true → AreSound (f s n)) → ((s n : ℕ) → all_pass ok (f s n) ≡ true) →
    Played ok P Q (each_place f) → (s n : ℕ) → is_data_place s n ≡ true → Played ok P Q (f s n)
played_place ok P Q f sound all p s n place =
    played_each ok P Q 1 32 (f s) (λ k from upto. sound s k (in_place s k (s_from s n place) (s_upto s n place) from upto)) (all s)
    (played_each ok P Q 1 30 (λ s. each_in 1 32 (f s))
    (λ t t_from t_upto. sound_each 1 32 (f t) (λ n n_from n_upto. sound t n (in_place t n t_from t_upto n_from n_upto)))
    (λ t. pass_each ok 1 32 (f t) (all t))
    p s (s_from s n place) (s_upto s n place))
    n (n_from s n place) (n_upto s n place)
  where
    s_from : (s n : ℕ) → is_data_place s n ≡ true → 1 ≤ s
    s_from s n place = grind (arith, nat_tests)

    s_upto : (s n : ℕ) → is_data_place s n ≡ true → s < 1 + 30
    s_upto s n place = grind (arith, nat_tests)

    n_from : (s n : ℕ) → is_data_place s n ≡ true → 1 ≤ n
    n_from s n place = grind (arith, nat_tests)

    n_upto : (s n : ℕ) → is_data_place s n ≡ true → n < 1 + 32
    n_upto s n place = grind (arith, nat_tests)
