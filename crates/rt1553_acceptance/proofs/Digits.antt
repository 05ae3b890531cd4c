-- The digits of a word: no line feed is among them, and no two words of 16 bits have the same.
use Rattle.std.proofs.Common.{ℕ, zero, suc, ◌≡◌, ◌≢◌, ◌∙◌, ◌/◌, ◌%◌, ◌<◌, ◌≤◌, ◌^◌, List, [], ◌∷◌, None, slice_index, get_or, length, refl, sym, ap, arith, ⊎_elim}
use Rattle.std.proofs.lemmas.Bool.{cases_lt}
use Rattle.hex.specs.Hex.{lower_digits, encode_with, hex_digit_value}
use Rattle.hex.proofs.HexLemmas.{IsDigits-lower_digits}
use Rattle.script_lines.specs.Digits.{digits_of, decimal_digits}
use Rattle.script_lines.specs.Text.{NoLineFeed}

-- beyond the table there is no digit
beyond : (xs : List ℕ) (i : ℕ) → length xs ≤ i → get_or xs i 0 ≡ 0
beyond [] i high = refl
beyond (x ∷ xs) zero high = absurd (omega (arith, high))
beyond (x ∷ xs) (suc i) high = beyond xs i (omega (arith, high))

no_digit : (i : ℕ) → 16 ≤ i → hex_digit_value (slice_index lower_digits i) ≡ None
no_digit i high = ap hex_digit_value (beyond lower_digits i high)

-- a digit of the table is that of one place alone
one_place : (i j : ℕ) → i < 16 → slice_index lower_digits i ≡ slice_index lower_digits j → i ≡ j
one_place i j low same = ⊎_elim within other (cases_lt j 16)
  where
    read : hex_digit_value (slice_index lower_digits i) ≡ hex_digit_value (slice_index lower_digits j)
    read = ap hex_digit_value same

    within : j < 16 → i ≡ j
    within small = let e = sym (IsDigits-lower_digits i low) ∙ read ∙ IsDigits-lower_digits j small in cc

    other : 16 ≤ j → i ≡ j
    other high = let e = sym (IsDigits-lower_digits i low) ∙ read ∙ no_digit j high in absurd (cc)

-- a word of 16 bits and another with the same digits are the same
pub same_digits : (a b : ℕ) → a < 2 ^ 16 → digits_of a ≡ digits_of b → a ≡ b
unfolding encode_with
same_digits a b small same =
    let first = one_place (a / 256 / 16) (b / 256 / 16) (omega (arith, small)) (ap (λ xs. get_or xs 0 0) same) in
    let second = one_place (a / 256 % 16) (b / 256 % 16) (omega arith) (ap (λ xs. get_or xs 1 0) same) in
    let third = one_place (a % 256 / 16) (b % 256 / 16) (omega arith) (ap (λ xs. get_or xs 2 0) same) in
    let fourth = one_place (a % 256 % 16) (b % 256 % 16) (omega arith) (ap (λ xs. get_or xs 3 0) same) in
    omega (arith, small, first, second, third, fourth)

-- no place of the table has a line feed
no_feed : (i : ℕ) → slice_index lower_digits i ≢ 10
no_feed i feed = ⊎_elim within other (cases_lt i 16)
  where
    within : i < 16 → ⊥
    within small = let e = sym (IsDigits-lower_digits i small) ∙ ap hex_digit_value feed in cc

    other : 16 ≤ i → ⊥
    other high = let e = sym (beyond lower_digits i high) ∙ feed in absurd (omega (arith, e))

pub feeds-digits : (word : ℕ) → NoLineFeed (digits_of word)
unfolding encode_with
feeds-digits word = (no_feed (word / 256 / 16), (no_feed (word / 256 % 16), (no_feed (word % 256 / 16), (no_feed (word % 256 % 16), tt))))

pub feeds-decimal : (n : ℕ) → NoLineFeed (decimal_digits n)
feeds-decimal n = (λ e. absurd (omega (arith, e)), (λ e. absurd (omega (arith, e)), tt))
