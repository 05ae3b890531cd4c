-- Texts that are trimmed and cut.
use Rattle.std.proofs.Common.{◌≡◌, ◌≢◌, ℕ, zero, suc, ◌+◌, ◌-◌, ◌<◌, ◌==◌, Bool, true, false, cond, List, [], ◌∷◌, length, get_or, take, drop, map, Option, Some, None, refl, ap, add-one, arith}
use Rattle.std.proofs.lemmas.Bool.Decides.{nat_tests}
use Rattle.std.proofs.lemmas.Grind.{common_steps}
use Rattle.std.specs.List.{slice_split, onto_first}
use Rattle.bus_profile.specs.RangesOf.{trim_end, before_trimmed, range_item}

-- a space at the end
pub trim_end-space : (bs : List ℕ) (n : ℕ) → length bs ≡ n + 1 → get_or bs n 0 ≡ 32 → trim_end (take n bs) ≡ trim_end bs
trim_end-space [] n e space = absurd (omega arith)
trim_end-space (b ∷ []) zero e space = rw space
trim_end-space (b ∷ []) (suc n) e space = absurd (omega arith)
trim_end-space (b ∷ c ∷ bs) zero e space = absurd (omega arith)
trim_end-space (b ∷ c ∷ bs) (suc n) e space = ap (before_trimmed b) (trim_end-space (c ∷ bs) n (omega arith) space)

-- another byte at the end
pub trim_end-same : (bs : List ℕ) (n : ℕ) → length bs ≡ n + 1 → get_or bs n 0 ≢ 32 → trim_end bs ≡ bs
trim_end-same [] n e other = refl
trim_end-same (b ∷ []) zero e other = let no : (b == 32) ≡ false = grind (arith, nat_tests) in rw no
trim_end-same (b ∷ []) (suc n) e other = absurd (omega arith)
trim_end-same (b ∷ c ∷ bs) zero e other = absurd (omega arith)
trim_end-same (b ∷ c ∷ bs) (suc n) e other = rw (trim_end-same (c ∷ bs) n (omega arith) other)

-- the first part ends at the first such byte
pub split_here : (at : ℕ) (bs : List ℕ) (i : ℕ) → i < length bs → ((k : ℕ) → k < i → get_or bs k 0 ≢ at) → get_or bs i 0 ≡ at
    → slice_split (λ b. b == at) bs ≡ take i bs ∷ slice_split (λ b. b == at) (take (length bs - (i + 1)) (drop (i + 1) bs))
split_here at [] i l none here = absurd (omega arith)
split_here at (b ∷ bs) zero l none here =
    let yes : (b == at) ≡ true = grind (arith, nat_tests) in
    let all : take (length (b ∷ bs) - (0 + 1)) (drop (0 + 1) (b ∷ bs)) ≡ bs = grind (arith, common_steps) in
    rw (yes, all)
split_here at (b ∷ bs) (suc i) l none here =
    let no : (b == at) ≡ false = grind (arith, nat_tests, none 0) in
    let count : length (b ∷ bs) - (suc i + 1) ≡ length bs - (i + 1) = omega arith in
    let tail : drop (suc i + 1) (b ∷ bs) ≡ drop (i + 1) bs = simp add-one in
    rw (no, count, tail) (ap (onto_first b) (split_here at bs i (omega arith) (λ k below. none (suc k) (omega arith)) here))

pub split_nowhere : (at : ℕ) (bs : List ℕ) → ((k : ℕ) → k < length bs → get_or bs k 0 ≢ at) → slice_split (λ b. b == at) bs ≡ bs ∷ []
split_nowhere at [] none = refl
split_nowhere at (b ∷ bs) none =
    let no : (b == at) ≡ false = grind (arith, nat_tests, none 0) in
    rw no (ap (onto_first b) (split_nowhere at bs (λ k below. none (suc k) (omega arith))))

-- a split has a first part
pub split_some : (p : ℕ → Bool) (bs : List ℕ) → (x : List ℕ) × (xs : List (List ℕ)) × (slice_split p bs ≡ x ∷ xs)
split_some p [] = ([], [], refl)
split_some p (b ∷ bs) = pick (p b) (split_some p bs)
  where
    pick : (t : Bool) → (x : List ℕ) × (xs : List (List ℕ)) × (slice_split p bs ≡ x ∷ xs) → (x : List ℕ) × (xs : List (List ℕ)) × (cond t ([] ∷ slice_split p bs) (onto_first b (slice_split p bs)) ≡ x ∷ xs)
    pick true r = ([], slice_split p bs, refl)
    pick false r = (b ∷ r.0, r.1, ap (onto_first b) r.2)

-- three parts or more are no item
pub range_item-more : (a b c : Option ℕ) (os : List (Option ℕ)) → range_item (a ∷ b ∷ c ∷ os) ≡ None
range_item-more None b c os = refl
range_item-more (Some m) None c os = refl
range_item-more (Some m) (Some n) c os = refl

pub no_third_part : (a b : Option ℕ) (bs : List ℕ) (p : ℕ → Bool) (f : List ℕ → Option ℕ) → range_item (a ∷ b ∷ map f (slice_split p bs)) ≡ None
no_third_part a b bs p f = let (x, xs, e) = split_some p bs in rw e (range_item-more a b (f x) (map f xs))
