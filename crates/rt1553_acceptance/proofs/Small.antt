-- What has small digits is read as it stands.
use Rattle.std.proofs.Common.{ℕ, zero, suc, ◌+◌, ◌≡◌, ◌∙◌, ◌==◌, ◌/◌, ◌%◌, ◌≤◌, Bool, true, List, [], ◌∷◌, ◌++◌, slice_index, map, refl, ap, arith}
use Rattle.std.specs.List.{list_all}
use Rattle.std.proofs.lemmas.Bool.{and_parts}
use Rattle.std.proofs.lemmas.Bool.Decides.{nat_tests}
use Rattle.std.proofs.lemmas.List.{map-append}
use Rattle.hex.specs.Hex.{lower_digits, encode_with}
use Rattle.bus_word.specs.declared.word.Bus.{Bus}
use Rattle.bus_word.specs.declared.word.Bus.TheVariants.{A, B}
use Rattle.bus_word.specs.declared.word.Kind.{Kind}
use Rattle.bus_word.specs.declared.word.Kind.TheVariants.{Com, Dat}
use Rattle.script_lines.specs.Digits.{digits_of, decimal_digits}
use Rattle.script_lines.specs.Transcript.{bus_letter, sent_kind, word_field}
use Rattle.rt1553_verify.specs.Stated.{small_digit, small_digits}

abbrev pub IsSmall : List ℕ → Type 0
IsSmall bytes = map small_digit bytes ≡ bytes

pub small-append : (xs ys : List ℕ) → IsSmall xs → IsSmall ys → IsSmall (xs ++ ys)
small-append xs ys a b = map-append small_digit xs ys ∙ (λ j. a j ++ b j)

-- all of an answer
pub small-whole : (bytes : List ℕ) → IsSmall bytes → small_digits bytes ≡ bytes
small-whole [] small = refl
small-whole (b ∷ bytes) small = let rest : map small_digit bytes ≡ bytes = cc in ap (λ xs. b ∷ xs) rest

abbrev is_small : ℕ → Bool
is_small b = small_digit b == b

small_at : (xs : List ℕ) → list_all is_small xs ≡ true → (i : ℕ) → small_digit (slice_index xs i) ≡ slice_index xs i
small_at [] all i = refl
small_at (x ∷ xs) all zero = let both = and_parts (is_small x) (list_all is_small xs) all in grind (arith, nat_tests, both.0)
small_at (x ∷ xs) all (suc i) = let both = and_parts (is_small x) (list_all is_small xs) all in small_at xs both.1 i

small_place : (i : ℕ) → small_digit (slice_index lower_digits i) ≡ slice_index lower_digits i
small_place i = small_at lower_digits refl i

-- the digits of a word
pub small-digits : (word : ℕ) → IsSmall (digits_of word)
unfolding encode_with
small-digits word =
    λ j. small_place (word / 256 / 16) j ∷ small_place (word / 256 % 16) j ∷ small_place (word % 256 / 16) j ∷ small_place (word % 256 % 16) j ∷ []

pub small-field : (word : ℕ) → IsSmall (word_field word)
small-field word = ap (λ xs. 32 ∷ xs) (small-digits word)

-- the digits of a number
small_decimal : (b : ℕ) → b ≤ 57 → small_digit b ≡ b
small_decimal b low = grind (arith, nat_tests)

pub small-decimal : (n : ℕ) → n ≤ 99 → IsSmall (decimal_digits n)
small-decimal n low =
    let tens = small_decimal (48 + n / 10) (omega (arith, low)) in
    let ones = small_decimal (48 + n % 10) (omega arith) in (λ j. tens j ∷ ones j ∷ [])

-- ---- answers that are read as they stand

abbrev pub IsRead : List ℕ → Type 0
IsRead bytes = small_digits bytes ≡ bytes

-- the letter of a bus is a capital, and stays
on-bus : (bus : Bus) (bytes : List ℕ) → IsSmall bytes → IsRead (bus_letter bus ++ bytes)
on-bus A bytes small = ap (λ xs. 65 ∷ xs) small
on-bus B bytes small = ap (λ xs. 66 ∷ xs) small

sent_kind-small : (kind : Kind) → IsSmall (sent_kind kind)
sent_kind-small Com = refl
sent_kind-small Dat = refl

-- the line of a word that was sent
pub read-sent : (bus : Bus) (kind : Kind) (word : ℕ) → IsRead (bus_letter bus ++ (sent_kind kind ++ digits_of word))
read-sent bus kind word = on-bus bus _ (small-append (sent_kind kind) (digits_of word) (sent_kind-small kind) (small-digits word))
