-- Tables of 32 words for each subaddress.
use Rattle.std.proofs.Common.{length-append, length-drop, length-take-le, length-take, ◌≡◌, ℕ, ◌+◌, ◌-◌, ◌<◌, ◌≤◌, ◌≢◌, ◌==◌, ◌^◌, Bool, true, false, ◌&&◌}
use Rattle.std.proofs.Common.{nat_le, nat_lt, cond, List, [], ◌++◌, take, drop, get_or, set, replicate, length, refl, ap, subst, sym, ◌∙◌, length-set}
use Rattle.std.proofs.Common.{get_or-set_same, get_or-set_other, ⊎_elim, ◌⊎◌, inl, inr, arith}
use Rattle.std.proofs.lemmas.Bool.{cases_lt, eqb-true, eq-eqb}
use Rattle.std.proofs.lemmas.List.{get_or-replicate, get_or-take, get_or-drop, get_or-append_right, get_or_past, set_past}
use Rattle.std.proofs.lemmas.Bool.Decides.{nat_tests}
use Rattle.std.proofs.Math.ListN.{get_or-append}
use Rattle.bus_legal.specs.Tables.{largest_in}
use Rattle.bus_legal.specs.Parts.{IsBlock, AreWords}

-- what holds of a block and of the blocks before it was written, holds of the blocks then
block-set : (P : List ℕ → Type 0) (words : List (List ℕ)) (at : ℕ) (block : List ℕ) (s : ℕ) → P block → P (get_or words s []) → P (get_or (set words at block) s [])
block-set P words at block s new old = by_place (s == at) refl
  where
    by_place : (t : Bool) → (s == at) ≡ t → P (get_or (set words at block) s [])
    by_place false t =
        let other : s ≢ at = (λ e. let wrong : true ≡ false = sym (eq-eqb s at e) ∙ t in cc) in
        subst P (sym (get_or-set_other words at s block [] other)) old
    by_place true t =
        let here : s ≡ at = eqb-true s at t in
        ⊎_elim
        (λ lt. subst P (sym (ap (λ k. get_or (set words at block) k []) here ∙ get_or-set_same words at block [] lt)) new)
        (λ le. subst P (sym (ap (λ ws. get_or ws s []) (set_past words at block le))) old)
        (cases_lt at (length words))

-- a block, written
pub AreWords-set : (words : List (List ℕ)) (at : ℕ) (block : List ℕ) → AreWords words → IsBlock block → AreWords (set words at block)
AreWords-set words at block are new = record {
  thirty = length-set words at block ∙ are.thirty;
  blocks = λ s l. block-set IsBlock words at block s new (are.blocks s l);
}

abbrev pub zero_block : List ℕ
zero_block = replicate 32 0

zero_block-fits : (i : ℕ) → get_or zero_block i 0 < 2 ^ 16
zero_block-fits i = ⊎_elim
    (λ lt. let none : get_or zero_block i 0 ≡ 0 = get_or-replicate {A = ℕ} 32 i 0 0 lt in omega arith)
    (λ le. let none : get_or zero_block i 0 ≡ 0 = get_or_past zero_block i 0 le in omega arith)
    (cases_lt i 32)

-- a table of zeros
pub AreWords-zeros : AreWords (replicate 30 zero_block)
AreWords-zeros = record {
  thirty = refl;
  blocks = λ s l. subst IsBlock (sym (get_or-replicate {A = List ℕ} 30 s zero_block [] l)) (record { long = refl; fit = zero_block-fits });
}

-- a block with a part of it written: the elements before the part, in it and after it
pub get_or-part : (a k : ℕ) (block part : List ℕ) (i : ℕ) → length part ≡ k → a + k ≤ length block →
    get_or (take a block ++ (part ++ drop k (drop a block))) i 0 ≡ cond (nat_le a i && nat_lt i (a + k)) (get_or part (i - a) 0) (get_or block i 0)
get_or-part a k block part i long room = by_place (cases_lt i a) (cases_lt i (a + k))
  where
    before : length (take a block) ≡ a
    before = length-take-le a block (omega arith)

    by_place : (i < a) ⊎ (a ≤ i) → (i < a + k) ⊎ (a + k ≤ i) →
        get_or (take a block ++ (part ++ drop k (drop a block))) i 0 ≡ cond (nat_le a i && nat_lt i (a + k)) (get_or part (i - a) 0) (get_or block i 0)
    by_place (inl lt) c =
        let inside : i < length (take a block) = omega (arith, before) in
        let test : nat_le a i ≡ false = grind (arith, nat_tests) in
        get_or-append (take a block) (part ++ drop k (drop a block)) 0 i inside ∙ (get_or-take a block i 0 lt ∙ sym (ap (λ t. cond (t && nat_lt i (a + k)) (get_or part (i - a) 0) (get_or block i 0)) test))
    by_place (inr le) (inl lt) =
        let inside : i - a < length part = omega arith in
        let test : nat_le a i ≡ true = grind (arith, nat_tests) in
        let within : nat_lt i (a + k) ≡ true = grind (arith, nat_tests) in
        get_or-append_right (take a block) (part ++ drop k (drop a block)) a i 0 before le
        ∙ (get_or-append part (drop k (drop a block)) 0 (i - a) inside
        ∙ sym (ap (λ t. cond (t && nat_lt i (a + k)) (get_or part (i - a) 0) (get_or block i 0)) test ∙ ap (λ t. cond t (get_or part (i - a) 0) (get_or block i 0)) within))
    by_place (inr le) (inr past) =
        let test : nat_le a i ≡ true = grind (arith, nat_tests) in
        let outside : nat_lt i (a + k) ≡ false = grind (arith, nat_tests) in
        let beyond : k ≤ i - a = omega arith in
        let back : a + (k + (i - a - k)) ≡ i = omega arith in
        get_or-append_right (take a block) (part ++ drop k (drop a block)) a i 0 before le
        ∙ (get_or-append_right part (drop k (drop a block)) k (i - a) 0 long beyond
        ∙ (get_or-drop k (drop a block) (i - a - k) 0 ∙ (get_or-drop a block (k + (i - a - k)) 0 ∙ (ap (λ n. get_or block n 0) back
        ∙ sym (ap (λ t. cond (t && nat_lt i (a + k)) (get_or part (i - a) 0) (get_or block i 0)) test ∙ ap (λ t. cond t (get_or part (i - a) 0) (get_or block i 0)) outside)))))

cond-fits : (t : Bool) (a b : ℕ) → a < 2 ^ 16 → b < 2 ^ 16 → cond t a b < 2 ^ 16
cond-fits true a b l k = l
cond-fits false a b l k = k

-- a block with a part of it written is a block, where the part holds words
pub part-block : (a k : ℕ) (block part : List ℕ) → length part ≡ k → a + k ≤ length block → IsBlock block → ((i : ℕ) → get_or part i 0 < 2 ^ 16) →
    IsBlock (take a block ++ (part ++ drop k (drop a block)))
part-block a k block part long room is part_fits = record {
  long = omega (arith, is.long, long, room, length-append (take a block) (part ++ drop k (drop a block)), length-append part (drop k (drop a block)), length-take-le a block (omega arith), length-drop k (drop a block), length-drop a block);
  fit = λ i. subst (λ n. n < 2 ^ 16) (sym (get_or-part a k block part i long room)) (cond-fits (nat_le a i && nat_lt i (a + k)) (get_or part (i - a) 0) (get_or block i 0) (part_fits (i - a)) (is.fit i));
}

-- the same by numbers from 1: a part that begins with the number `first` holds the first `len` of these words
pub get_or-numbered : (first len start k : ℕ) (block words part : List ℕ) (i : ℕ) → 1 ≤ first → start ≡ first - 1 → k ≡ len → part ≡ take len words →
    length part ≡ len → start + len ≤ length block →
    get_or (take start block ++ (part ++ drop k (drop start block))) i 0 ≡ cond (nat_le first (i + 1) && nat_lt (i + 1) (first + len)) (get_or words (i + 1 - first) 0) (get_or block i 0)
get_or-numbered first len start k block words part i low at same is long room =
    get_or-part start k block part i (long ∙ sym same) (omega arith)
    ∙ (ap (λ t. cond (t && nat_lt i (start + k)) (get_or part (i - start) 0) (get_or block i 0)) from_start
    ∙ (ap (λ t. cond (nat_le first (i + 1) && t) (get_or part (i - start) 0) (get_or block i 0)) to_end
    ∙ cond-same (nat_le first (i + 1) && nat_lt (i + 1) (first + len)) (get_or part (i - start) 0) (get_or words (i + 1 - first) 0) (get_or block i 0) given))
  where
    from_start : nat_le start i ≡ nat_le first (i + 1)
    from_start = grind (arith, nat_tests)

    to_end : nat_lt i (start + k) ≡ nat_lt (i + 1) (first + len)
    to_end = grind (arith, nat_tests)

    cond-same : (t : Bool) (a b d : ℕ) → (t ≡ true → a ≡ b) → cond t a d ≡ cond t b d
    cond-same true a b d h = h refl
    cond-same false a b d h = refl

    given : (nat_le first (i + 1) && nat_lt (i + 1) (first + len)) ≡ true → get_or part (i - start) 0 ≡ get_or words (i + 1 - first) 0
    given t =
        let within : i - start < len = grind (arith, nat_tests) in
        let number : i - start ≡ i + 1 - first = grind (arith, nat_tests) in
        ap (λ p. get_or p (i - start) 0) is ∙ (get_or-take len words (i - start) 0 within ∙ ap (λ n. get_or words n 0) number)

-- the first words of a block
pub take-fits : (n : ℕ) (words : List ℕ) (i : ℕ) → ((i : ℕ) → get_or words i 0 < 2 ^ 16) → get_or (take n words) i 0 < 2 ^ 16
take-fits n words i fits = ⊎_elim
    (λ lt. subst (λ w. w < 2 ^ 16) (sym (get_or-take n words i 0 lt)) (fits i))
    (λ le. let none : get_or (take n words) i 0 ≡ 0 = get_or_past (take n words) i 0 (omega (arith, length-take n words, le)) in omega arith)
    (cases_lt i n)

-- what each word of a table is to be once it is cut to the word counts in these masks
abbrev pub cut_word : List (List ℕ) → List ℕ → ℕ → ℕ → ℕ
cut_word words masks s i = cond (nat_lt i (largest_in (get_or masks s 0))) (get_or (get_or words s []) i 0) 0

-- one more block, cut
pub block-cut : (words old : List (List ℕ)) (masks : List ℕ) (at keep : ℕ) (block : List ℕ) → at < length words → keep ≡ largest_in (get_or masks at 0) →
    get_or words at [] ≡ get_or old at [] →
    ((i : ℕ) → i < 32 → get_or block i 0 ≡ cond (nat_lt i keep) (get_or (get_or words at []) i 0) 0) →
    ((s i : ℕ) → s < at → s < 30 → i < 32 → get_or (get_or words s []) i 0 ≡ cut_word old masks s i) →
    (s i : ℕ) → s < at + 1 → s < 30 → i < 32 → get_or (get_or (set words at block) s []) i 0 ≡ cut_word old masks s i
block-cut words old masks at keep block inside is left cut before s i l place k = ⊎_elim
    (λ lt. let other : s ≢ at = omega arith in ap (λ r. get_or r i 0) (get_or-set_other words at s block [] other) ∙ before s i lt place k)
    (λ le.
    let here : s ≡ at = omega arith in
    ap (λ n. get_or (get_or (set words at block) n []) i 0) here
    ∙ (ap (λ r. get_or r i 0) (get_or-set_same words at block [] inside)
    ∙ (cut i k
    ∙ (ap (λ n. cond (nat_lt i n) (get_or (get_or words at []) i 0) 0) is
    ∙ (ap (λ r. cond (nat_lt i (largest_in (get_or masks at 0))) (get_or r i 0) 0) left
    ∙ sym (ap (λ n. cut_word old masks n i) here))))))
    (cases_lt s at)
