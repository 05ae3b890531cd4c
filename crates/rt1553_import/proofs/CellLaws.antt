-- Numbers in cells.
use Rattle.std.proofs.Common.{◌≡◌, ℕ, zero, suc, min, ◌+◌, ◌^◌, ◌<◌, ◌≤◌, ◌==◌, ◌&&◌, nat_lt, not, Bool, true, false, cond, Option, Some, None, List, [], ◌∷◌, ◌++◌, map, option_map, Bor, length, drop, slice_index_or, refl, sym, ap, subst, ◌∙◌, arith}
use Rattle.std.specs.Char.{is_digit, digit_value}
use Rattle.std.specs.List.{list_all}
use Rattle.std.specs.Str.{IsUtf8, IsAscii}
use Rattle.std.specs.Str.Parse.{AllDigits, IsNumeral, digits_value, without_leading_plus}
use Rattle.std.proofs.lemmas.Bool.Decides.{nat_tests}
use Rattle.std.proofs.lemmas.List.{drop_more, drop_all}
use Rattle.std.proofs.lemmas.Str.{IsUtf8-from_ascii}
use Rattle.rt1553_import.specs.Cells.{is_numeral, number_in, words_of_parts}

both : (a b : Bool) → (a && b) ≡ true → (a ≡ true) × (b ≡ true)
both true b e = (refl, e)
both false b e = cc e

digits_from : (radix : ℕ) (text : List ℕ) → list_all (λ c. is_digit c radix) text ≡ true → AllDigits radix text
digits_from radix [] e = tt
digits_from radix (c ∷ cs) e =
    let (here, more) = both (is_digit c radix) (list_all (λ c. is_digit c radix) cs) e in
    let low : digit_value c < radix = grind (arith, nat_tests) in
    (low, digits_from radix cs more)

digits_to : (radix : ℕ) (text : List ℕ) → AllDigits radix text → list_all (λ c. is_digit c radix) text ≡ true
digits_to radix [] h = refl
digits_to radix (c ∷ cs) h =
    let here : is_digit c radix ≡ true = grind (arith, nat_tests, h.0) in
    λ j. here j && digits_to radix cs h.1 j

pub numeral_from : (radix : ℕ) (text : List ℕ) → is_numeral radix text ≡ true → IsNumeral radix text
numeral_from radix [] e = cc e
numeral_from radix (c ∷ cs) e = (omega arith, digits_from radix (c ∷ cs) e)

numeral_to : (radix : ℕ) (text : List ℕ) → IsNumeral radix text → is_numeral radix text ≡ true
numeral_to radix [] h = absurd (omega (arith, h.0))
numeral_to radix (c ∷ cs) h = digits_to radix (c ∷ cs) h.1

-- the number of a text that is a numeral and small enough
pub number_there : (radix : ℕ) (text : List ℕ) → IsNumeral radix text → digits_value radix text < 2 ^ 32 → number_in radix text ≡ Some (digits_value radix text)
number_there radix text is low =
    let same : min (digits_value radix text) 4294967295 ≡ digits_value radix text = omega (arith, low) in
    λ j. cond (numeral_to radix text is j) (Some (same j)) None

-- no number of a text that is none
pub number_none : (radix : ℕ) (text : List ℕ) → is_numeral radix text ≡ false → None ≡ number_in radix text
number_none radix text wrong = sym (ap (λ b. cond b (Some (min (digits_value radix text) 4294967295)) None) wrong)

-- a digit is an ASCII character
digit_low : (c : ℕ) → digit_value c < 36 → c < 128
digit_low c low = by_test (nat_lt c 123) refl
  where
    by_test : (b : Bool) → nat_lt c 123 ≡ b → c < 128
    by_test true e = let small : c < 123 = grind (arith, nat_tests) in omega (arith, small)
    by_test false e = absurd (grind (arith, nat_tests, low))

ascii_from : (radix : ℕ) (text : List ℕ) → radix ≤ 36 → AllDigits radix text → IsAscii text
ascii_from radix [] few h i = omega arith
ascii_from radix (c ∷ cs) few h zero = digit_low c (omega (arith, h.0, few))
ascii_from radix (c ∷ cs) few h (suc i) = ascii_from radix cs few h.1 i

-- a numeral is text
pub numeral_is_text : (radix : ℕ) (text : List ℕ) → radix ≤ 36 → IsNumeral radix text → IsUtf8 text
numeral_is_text radix text few is = IsUtf8-from_ascii text (ascii_from radix text few is.1)

-- a numeral has no plus in front
no_plus : (radix : ℕ) (text : List ℕ) → radix ≤ 36 → IsNumeral radix text → without_leading_plus text ≡ text
no_plus radix [] few is = refl
no_plus radix (b ∷ bs) few is = ap (λ t. drop (cond t 1 0) (b ∷ bs)) (by_test (b == 43) refl)
  where
    by_test : (t : Bool) → (b == 43) ≡ t → (b == 43) ≡ false
    by_test false e = e
    by_test true e =
        let plus_is : b ≡ 43 = grind (arith, nat_tests) in
        let low : digit_value 43 < radix = subst (λ c. digit_value c < radix) plus_is is.1.0 in
        absurd (omega (arith, low, few))

pub number_read : (radix : ℕ) (digits text : List ℕ) (n : ℕ) → radix ≤ 36 → is_numeral radix digits ≡ true → text ≡ digits
    → (IsNumeral radix (without_leading_plus text) × (digits_value radix (without_leading_plus text) < 2 ^ 32)) × (n ≡ digits_value radix (without_leading_plus text)) → Some n ≡ number_in radix digits
number_read radix digits text n few is same h =
    let whole : without_leading_plus text ≡ digits = ap without_leading_plus same ∙ no_plus radix digits few (numeral_from radix digits is) in
    let fits = subst (λ t. IsNumeral radix t × (digits_value radix t < 2 ^ 32)) whole h.0 in
    ap Some (h.1 ∙ ap (digits_value radix) whole) ∙ sym (number_there radix digits fits.0 fits.1)

pub number_large : (radix : ℕ) (digits text : List ℕ) → radix ≤ 36 → is_numeral radix digits ≡ true → text ≡ digits
    → (IsNumeral radix (without_leading_plus text) × (digits_value radix (without_leading_plus text) < 2 ^ 32) → ⊥) → Some 4294967295 ≡ number_in radix digits
number_large radix digits text few is same wrong =
    λ j. cond (sym is j) (Some (sym top j)) None
  where
    numeral : IsNumeral radix digits
    numeral = numeral_from radix digits is

    whole : without_leading_plus text ≡ digits
    whole = ap without_leading_plus same ∙ no_plus radix digits few numeral

    by_test : (t : Bool) → nat_lt (digits_value radix digits) (2 ^ 32) ≡ t → min (digits_value radix digits) 4294967295 ≡ 4294967295
    by_test true e =
        let low : digits_value radix digits < 2 ^ 32 = grind (arith, nat_tests) in
        absurd (wrong (subst (λ t. IsNumeral radix t × (digits_value radix t < 2 ^ 32)) (sym whole) (numeral, low)))
    by_test false e = let high : 2 ^ 32 ≤ digits_value radix digits = grind (arith, nat_tests) in omega (arith, high)

    top : min (digits_value radix digits) 4294967295 ≡ 4294967295
    top = by_test (nat_lt (digits_value radix digits) (2 ^ 32)) refl

-- ---- words

-- words that were read, before those that are left
abbrev pub behind : List ℕ → Option (List ℕ) → Option (List ℕ)
behind words o = option_map (λ more. words ++ more) o

abbrev pub left : List (Bor (List ℕ)) → Option (List ℕ)
left parts = words_of_parts (map (λ part. part.now) parts)
