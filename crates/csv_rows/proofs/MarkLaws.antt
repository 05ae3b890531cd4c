-- A text without its byte order mark.
use Rattle.std.proofs.Common.{◌≡◌, ◌≢◌, ℕ, ◌-◌, ◌<◌, ◌≤◌, ◌==◌, ◌&&◌, false, if◌then◌else◌, List, [], ◌∷◌, length, take, drop, slice_index_or, refl, sym, ap, ◌∙◌, arith}
use Rattle.std.proofs.lemmas.Bool.Decides.{nat_tests}
use Rattle.std.proofs.lemmas.List.{take_all}
use Rattle.csv.specs.Reading.{strip_bom, is_bom}

pub marked : (xs : List ℕ) → 3 ≤ length xs → slice_index_or xs 0 0 ≡ 239 → slice_index_or xs 1 0 ≡ 187 → slice_index_or xs 2 0 ≡ 191 → take (length xs - 3) (drop 3 xs) ≡ strip_bom xs
unfolding strip_bom
marked [] long a b c = absurd (omega arith)
marked (x ∷ []) long a b c = absurd (omega arith)
marked (x ∷ y ∷ []) long a b c = absurd (omega arith)
marked (x ∷ y ∷ z ∷ rest) long a b c = take_all (length (x ∷ y ∷ z ∷ rest) - 3) rest (omega arith) ∙ sym (λ j. if is_bom (a j) (b j) (c j) then rest else x ∷ y ∷ z ∷ rest)

pub short : (xs : List ℕ) → length xs < 3 → xs ≡ strip_bom xs
unfolding strip_bom
short [] few = refl
short (x ∷ []) few = refl
short (x ∷ y ∷ []) few = refl
short (x ∷ y ∷ z ∷ rest) few = absurd (omega arith)

no_mark : (a b c : ℕ) (xs rest : List ℕ) → is_bom a b c ≡ false → xs ≡ (if is_bom a b c then rest else xs)
no_mark a b c xs rest other = sym (ap (λ q. if q then rest else xs) other)

pub unmarked : (xs : List ℕ) → is_bom (slice_index_or xs 0 0) (slice_index_or xs 1 0) (slice_index_or xs 2 0) ≡ false → xs ≡ strip_bom xs
unfolding strip_bom
unmarked [] other = refl
unmarked (x ∷ []) other = refl
unmarked (x ∷ y ∷ []) other = refl
unmarked (x ∷ y ∷ z ∷ rest) other = no_mark x y z (x ∷ y ∷ z ∷ rest) rest other

pub other_first : (a b c : ℕ) → a ≢ 239 → is_bom a b c ≡ false
other_first a b c other = let differs : (a == 239) ≡ false = grind (arith, nat_tests, other) in ap (λ q. (q && (b == 187)) && (c == 191)) differs

pub other_second : (a b c : ℕ) → a ≡ 239 → b ≢ 187 → is_bom a b c ≡ false
other_second a b c first other = let differs : (b == 187) ≡ false = grind (arith, nat_tests, other) in λ j. ((first j == 239) && differs j) && (c == 191)

pub other_third : (a b c : ℕ) → a ≡ 239 → b ≡ 187 → c ≢ 191 → is_bom a b c ≡ false
other_third a b c first second other = let differs : (c == 191) ≡ false = grind (arith, nat_tests, other) in λ j. ((first j == 239) && (second j == 187)) && differs j
