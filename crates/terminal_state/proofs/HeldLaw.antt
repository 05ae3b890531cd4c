-- The words held ready.
use Rattle.std.proofs.Common.{◌≡◌, ℕ, suc, ◌-◌, ◌≤◌, ◌==◌, ◌&&◌, nat_le, Bool, true, false, ltb, if◌then◌else◌, Some, None, List, [], ◌∷◌, length, get_or, replicate, refl, ap, sym, ◌∙◌, arith}
use Rattle.std.proofs.lemmas.Bool.{ltb-true, ltb-false, eqb-true}
use Rattle.std.proofs.lemmas.List.{get_or-replicate, get_or_past, length-replicate}
use Rattle.std.proofs.lemmas.Bool.Decides.{nat_tests}
use Rattle.terminal_rules.specs.LookBack.{or_else}
use Rattle.terminal_rules.specs.SinceReset.{nth_word, wrapped_at}

-- nothing but the value that is read past the end
pub get_or-all : {X : Type 0} (n i : ℕ) (x : X) → get_or (replicate n x) i x ≡ x
get_or-all n i x = by_test (ltb i n) refl
  where
    by_test : (t : Bool) → ltb i n ≡ t → get_or (replicate n x) i x ≡ x
    by_test true e = get_or-replicate n i x x (ltb-true i n e)
    by_test false e = get_or_past (replicate n x) i x (let long : n ≤ i = ltb-false i n e in let e : length (replicate n x) ≡ n = length-replicate n x in omega arith)

-- where no block was changed, all are those of power-up
pub block_in-unchanged : (blocks : List (List ℕ)) (initial : List (List ℕ)) (s : ℕ) →
    (if get_or (replicate 30 false) (s - 1) false then get_or blocks (s - 1) [] else get_or initial (s - 1) []) ≡ get_or initial (s - 1) []
block_in-unchanged blocks initial s =
    ap (λ b. if b then get_or blocks (s - 1) [] else get_or initial (s - 1) []) (get_or-all 30 (s - 1) false)

-- word number i of a list, or another where there is none
number_law : (i : ℕ) (ds : List ℕ) (old : ℕ) → 1 ≤ i → or_else (nth_word i ds) old ≡ (if nat_le i (length ds) then get_or ds (i - 1) 0 else old)
number_law i [] old h = let e : nat_le i 0 ≡ false = grind (arith, nat_tests) in rw e refl
number_law i (d ∷ ds) old h = by_test (i == 1) refl (number_law (i - 1) ds old)
  where
    by_test : (t : Bool) → (i == 1) ≡ t →
        (1 ≤ i - 1 → or_else (nth_word (i - 1) ds) old ≡ (if nat_le (i - 1) (length ds) then get_or ds (i - 1 - 1) 0 else old)) →
        or_else (if t then Some d else nth_word (i - 1) ds) old ≡ (if nat_le i (length (d ∷ ds)) then get_or (d ∷ ds) (i - 1) 0 else old)
    by_test true e rest =
        let first : i ≡ 1 = eqb-true i 1 e in
        let fits : nat_le i (suc (length ds)) ≡ true = grind (arith, nat_tests) in
        let at : i - 1 ≡ 0 = omega arith in
        sym (ap (λ b. if b then get_or (d ∷ ds) (i - 1) 0 else old) fits ∙ ap (λ j. get_or (d ∷ ds) j 0) at)
    by_test false e rest =
        let other : 2 ≤ i = grind (arith, nat_tests) in
        let fits : nat_le (i - 1) (length ds) ≡ nat_le i (suc (length ds)) = grind (arith, nat_tests) in
        let at : i - 1 ≡ suc (i - 1 - 1) = omega arith in
        rest (omega arith)
        ∙ (ap (λ b. if b then get_or ds (i - 1 - 1) 0 else old) fits
        ∙ ap (λ j. if nat_le i (suc (length ds)) then get_or (d ∷ ds) j 0 else old) (sym at))

same_subaddress : (s t wrap : ℕ) → t ≡ wrap → (t == s) ≡ ((s == t) && (t == wrap))
same_subaddress s t wrap e = grind (arith, nat_tests)

-- what is received at the wraparound subaddress is held there
pub wrapped_law : (wrap s i t : ℕ) (ds : List ℕ) (old : ℕ) → t ≡ wrap → 1 ≤ i →
    (if (t == s) && nat_le i (length ds) then get_or ds (i - 1) 0 else old) ≡ or_else (wrapped_at wrap s i t ds) old
wrapped_law wrap s i t ds old e h =
    ap (λ b. if b && nat_le i (length ds) then get_or ds (i - 1) 0 else old) (same_subaddress s t wrap e)
    ∙ by_test ((s == t) && (t == wrap))
  where
    by_test : (b : Bool) → (if b && nat_le i (length ds) then get_or ds (i - 1) 0 else old) ≡ or_else (if b then nth_word i ds else None) old
    by_test true = sym (number_law i ds old h)
    by_test false = refl
