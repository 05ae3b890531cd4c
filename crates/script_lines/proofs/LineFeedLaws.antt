-- Laws of the search for a line feed, 64 bytes at a time.
use Rattle.std.proofs.Common.{◌≡◌, ◌≢◌, ℕ, ◌+◌, ◌≤◌, ◌<◌, ◌^◌, ◌%◌, List, cond, eqb, length, get_or, map, replicate, not, Bool, sym, ap, ◌∙◌, arith, w8}
use Rattle.std.proofs.lemmas.Bool.Decides.{nat_tests}
use Rattle.std.proofs.lemmas.Bool.{ne_eqb}
use Rattle.std.proofs.lemmas.Simd.{length-chunk, bitmask_splat, first_set_mask_l, run_in_chunk_le, run_in_chunk_fails, run_in_chunk_stops}
use Rattle.std.specs.Simd.Lanes.{zip2, mask_l, top, chunk}
use Rattle.std.specs.List.{prefix_len}
use lib.Count.{count_trailing_zeros}

abbrev is_feed : ℕ → Bool
is_feed x = eqb x 10

-- how many of the first 64 bytes come before the first line feed
abbrev pub before : List ℕ → ℕ
before bytes = prefix_len (λ x. not (is_feed x)) (chunk 0 64 bytes)

-- the mask of a comparison of the first 64 bytes with line feeds
abbrev pub feeds : List ℕ → ℕ
feeds bytes = mask_l (map (top 7) (zip2 (λ a b. cond (eqb a b) 255 0) (chunk 0 64 bytes) (replicate 64 10))) % 2 ^ 64

first : (bytes : List ℕ) → 64 ≤ length bytes → cond (eqb (feeds bytes) 0) 64 (count_trailing_zeros 64 (feeds bytes)) ≡ before bytes
first bytes room =
    let long = length-chunk 0 64 bytes room in
    let e = bitmask_splat w8 eqb (chunk 0 64 bytes) 64 10 long (omega arith) in
    ap (λ m. cond (eqb m 0) 64 (count_trailing_zeros 64 m)) e ∙ first_set_mask_l is_feed (chunk 0 64 bytes) 64 long (omega arith)

pub none_marked : (bytes : List ℕ) → 64 ≤ length bytes → feeds bytes ≡ 0 → 64 ≡ before bytes
none_marked bytes room none = sym (ap (λ m. cond (eqb m 0) 64 (count_trailing_zeros 64 m)) none) ∙ first bytes room

pub some_marked : (bytes : List ℕ) → 64 ≤ length bytes → feeds bytes ≢ 0 → count_trailing_zeros 64 (feeds bytes) ≡ before bytes
some_marked bytes room some = sym (ap (λ t. cond t 64 (count_trailing_zeros 64 (feeds bytes))) (ne_eqb _ _ some)) ∙ first bytes room

pub few : (bytes : List ℕ) (r : ℕ) → 64 ≤ length bytes → r ≡ before bytes → r ≤ 64
few bytes r room counted = run_in_chunk_le is_feed bytes 0 64 r 0 room counted

pub others : (bytes : List ℕ) (r : ℕ) → 64 ≤ length bytes → r ≡ before bytes → (k : ℕ) → k < r → get_or bytes k 0 ≢ 10
others bytes r room counted k to = let no = run_in_chunk_fails is_feed bytes 0 64 r 0 room counted k (omega arith) (omega arith) in grind (arith, nat_tests)

pub found : (bytes : List ℕ) (r : ℕ) → 64 ≤ length bytes → r ≡ before bytes → r < 64 → get_or bytes r 0 ≡ 10
found bytes r room counted short =
    let there : 0 + r ≡ r = omega arith in
    let yes = rw there at (run_in_chunk_stops {X = ℕ} is_feed bytes 0 64 r 0 room counted short) in
    grind (arith, nat_tests)
