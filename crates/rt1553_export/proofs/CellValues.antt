-- What the cells of the full table say.
use Rattle.std.proofs.Common.{◌≡◌, ◌≢◌, ℕ, zero, suc, min, ◌+◌, ◌/◌, ◌%◌, ◌^◌, ◌<◌, ◌≤◌, ◌==◌, ◌&&◌, nat_lt, nat_le, Bool, true, false, cond, pos, List, [], ◌∷◌, ◌++◌, map, Some, None, codes, refl, ap, sym, subst, ◌∙◌, ◌⊎◌, inl, inr, ⊎_elim, append-nil, arith}
use Rattle.std.proofs.lemmas.Bool.{cases_lt, eqb-true}
use Rattle.std.proofs.lemmas.Bool.Decides.{nat_tests}
use Rattle.std.specs.Char.{is_digit, digit_value}
use Rattle.std.specs.List.{slice_split}
use Rattle.std.specs.Str.Parse.{digits_value, IsNumeral}
use Rattle.std.specs.Prelude.{slice_index, drop}
use Rattle.hex.specs.Hex.{lower_digits, encode_with}
use Rattle.toml.specs.Data.{string, integer, boolean}
use Rattle.bus_word.specs.Mask.{has_bit}
use Rattle.bus_legal.proofs.Bits.{same_mask}
use Rattle.bus_legal.proofs.TopBit.{zero-bit}
use Rattle.script_lines.specs.Digits.{digits_of}
use Rattle.rt1553_import.specs.Cells.{has_no_text, is_numeral, number_in, is_hexadecimal, cell_number, cell_truth, cell_word, words_of_parts, cell_words, value_or, value_from, cell_value, word_before}
use Rattle.rt1553_import.specs.Tree.{word_value, each_word, words_data}
use Rattle.rt1553_import.proofs.CellLaws.{number_there}
use Rattle.rt1553_toml.specs.Sets.{two_digits, lone_range, more_numbers, numbers_below, numbers_text, said_set, set_text}
use Rattle.rt1553_toml.specs.inner.FullTree.{wraparound_data}
use Rattle.rt1553_toml.proofs.SetTexts.{said_fits, said_some}
use Rattle.rt1553_export.specs.inner.Full.{yes_no, word_cell, wrap_cell, spaced_words, words_cell}
use Rattle.rt1553_export.proofs.Trimmed.{IsGraphic, AllAscii, EndsGraphic, IsPlain, plain_by, ascii-append, ends-append}

and_false : (b : Bool) → (b && false) ≡ false
and_false true = refl
and_false false = refl

both : (a b : Bool) → (a && b) ≡ true → (a ≡ true) × (b ≡ true)
both true b e = (refl, e)
both false b e = cc e

-- ---- numbers of two digits

tens_value : (n : ℕ) → n < 100 → digit_value (48 + n / 10) ≡ n / 10
tens_value n l =
    let small : n / 10 < 10 = omega arith in
    let low : nat_lt (48 + n / 10) 48 ≡ false = grind (arith, nat_tests) in
    let high : nat_lt (48 + n / 10) 58 ≡ true = grind (arith, nat_tests) in
    rw (low, high) (omega arith)

ones_value : (n : ℕ) → digit_value (48 + n % 10) ≡ n % 10
ones_value n =
    let small : n % 10 < 10 = omega arith in
    let low : nat_lt (48 + n % 10) 48 ≡ false = grind (arith, nat_tests) in
    let high : nat_lt (48 + n % 10) 58 ≡ true = grind (arith, nat_tests) in
    rw (low, high) (omega arith)

two_numeral : (n : ℕ) → n < 100 → IsNumeral 10 (two_digits n)
two_numeral n l = (omega arith, (omega (arith, tens_value n l), (omega (arith, ones_value n), tt)))

two_value : (n : ℕ) → n < 100 → digits_value 10 (two_digits n) ≡ n
two_value n l = omega (arith, tens_value n l, ones_value n)

no_x : (n : ℕ) → (48 + n % 10 == 120) ≡ false
no_x n = let small : n % 10 < 10 = omega arith in grind (arith, nat_tests)

-- what begins with two digits isn't hexadecimal
two_decimal : (n : ℕ) (rest : List ℕ) → is_hexadecimal (two_digits n ++ rest) ≡ false
two_decimal n rest = ap (λ b. (48 + n / 10 == 48) && b) (no_x n) ∙ and_false (48 + n / 10 == 48)

pub two_number : (n : ℕ) → n < 100 → cell_number (two_digits n) ≡ Some n
two_number n l =
    ap (λ b. cond b (number_in 16 (drop 2 (two_digits n))) (number_in 10 (two_digits n))) (two_decimal n [])
    ∙ number_there 10 (two_digits n) (two_numeral n l) (omega (arith, two_value n l)) ∙ ap Some (two_value n l)

pub two_says : (n : ℕ) → n < 100 → cell_value (two_digits n) ≡ integer (pos n)
two_says n l = ap (λ o. value_from o (two_digits n)) (two_number n l)

tens_graphic : (n : ℕ) → n < 100 → IsGraphic (48 + n / 10)
tens_graphic n l = (omega arith, omega arith)

ones_graphic : (n : ℕ) → IsGraphic (48 + n % 10)
ones_graphic n = (omega arith, omega arith)

two_ascii : (n : ℕ) → n < 100 → AllAscii (two_digits n)
two_ascii n l = (omega arith, (omega arith, tt))

pub two_plain : (n : ℕ) → n < 100 → IsPlain (two_digits n)
two_plain n l = record { ascii = two_ascii n l; begins = tens_graphic n l; ends = ones_graphic n }

-- ---- hexadecimal digits

abbrev hex_digit : ℕ → ℕ
hex_digit n = slice_index lower_digits n

abbrev is_good : ℕ → Bool
is_good n = ((digit_value (hex_digit n) == n) && nat_le 48 (hex_digit n)) && nat_le (hex_digit n) 102

abbrev all_below : ℕ → (ℕ → Bool) → Bool
all_below zero t = true
all_below (suc k) t = t k && all_below k t

at_each : (k i : ℕ) (t : ℕ → Bool) → all_below k t ≡ true → i < k → t i ≡ true
at_each zero i t e l = absurd (omega arith)
at_each (suc k) i t e l =
    let parts = both (t k) (all_below k t) e in
    ⊎_elim (λ lt. at_each k i t parts.1 lt) (λ le. let at : i ≡ k = omega arith in ap t at ∙ parts.0) (cases_lt i k)

record IsHexDigit (n : ℕ) : Type 0 where
  value : digit_value (hex_digit n) ≡ n
  low : 48 ≤ hex_digit n
  high : hex_digit n ≤ 102

hex_digits : (n : ℕ) → n < 16 → IsHexDigit n
hex_digits n l =
    let good = at_each 16 n is_good refl l in
    let parts = both ((digit_value (hex_digit n) == n) && nat_le 48 (hex_digit n)) (nat_le (hex_digit n) 102) good in
    let more = both (digit_value (hex_digit n) == n) (nat_le 48 (hex_digit n)) parts.0 in
    record { value = eqb-true (digit_value (hex_digit n)) n more.0; low = grind (arith, nat_tests, more.1); high = grind (arith, nat_tests, parts.1) }

-- the four digits of a word
abbrev four : ℕ → List ℕ
four w = hex_digit (w / 256 / 16) ∷ hex_digit (w / 256 % 16) ∷ hex_digit (w % 256 / 16) ∷ hex_digit (w % 256 % 16) ∷ []

are_four : (w : ℕ) → digits_of w ≡ four w
unfolding encode_with
are_four w = refl

record IsWord (w : ℕ) : Type 0 where
  first : IsHexDigit (w / 256 / 16)
  second : IsHexDigit (w / 256 % 16)
  third : IsHexDigit (w % 256 / 16)
  fourth : IsHexDigit (w % 256 % 16)

word_digits : (w : ℕ) → w < 2 ^ 16 → IsWord w
word_digits w l = record { first = hex_digits _ (omega arith); second = hex_digits _ (omega arith); third = hex_digits _ (omega arith); fourth = hex_digits _ (omega arith) }

four_number : (w : ℕ) → w < 2 ^ 16 → number_in 16 (four w) ≡ Some w
four_number w l =
    let is = word_digits w l in
    let value : digits_value 16 (four w) ≡ w = omega (arith, is.first.value, is.second.value, is.third.value, is.fourth.value) in
    let numeral : IsNumeral 16 (four w) = (omega arith, (omega (arith, is.first.value), (omega (arith, is.second.value), (omega (arith, is.third.value), (omega (arith, is.fourth.value), tt))))) in
    number_there 16 (four w) numeral (omega (arith, value)) ∙ ap Some value

pub word_number : (w : ℕ) → w < 2 ^ 16 → number_in 16 (digits_of w) ≡ Some w
word_number w l = ap (number_in 16) (are_four w) ∙ four_number w l

four_ascii : (w : ℕ) → w < 2 ^ 16 → AllAscii (four w)
four_ascii w l =
    let is = word_digits w l in
    (omega (arith, is.first.high), (omega (arith, is.second.high), (omega (arith, is.third.high), (omega (arith, is.fourth.high), tt))))

four_ends : (w : ℕ) → w < 2 ^ 16 → EndsGraphic (four w)
four_ends w l = let is = word_digits w l in (omega (arith, is.fourth.low), omega (arith, is.fourth.high))

pub word_says : (w : ℕ) → w < 2 ^ 16 → cell_value (word_cell w) ≡ integer (pos w)
word_says w l = ap (λ o. value_from o (word_cell w)) (word_number w l)

pub word_plain : (w : ℕ) → w < 2 ^ 16 → IsPlain (word_cell w)
word_plain w l = subst (λ d. IsPlain (48 ∷ 120 ∷ d)) (sym (are_four w)) (record { ascii = (omega arith, (omega arith, four_ascii w l)); begins = (omega arith, omega arith); ends = four_ends w l })

-- ---- truth values

pub yes_no_says : (b : Bool) → cell_value (yes_no b) ≡ boolean b
yes_no_says true = refl
yes_no_says false = refl

pub yes_no_plain : (b : Bool) → IsPlain (yes_no b)
yes_no_plain true = plain_by (codes "yes") refl
yes_no_plain false = plain_by (codes "no") refl

pub wrap_says : (w : ℕ) → w < 100 → cell_value (wrap_cell w) ≡ wraparound_data w
wrap_says w l = pick (w == 0)
  where
    pick : (b : Bool) → cell_value (cond b (codes "no") (two_digits w)) ≡ cond b (boolean false) (integer (pos w))
    pick true = refl
    pick false = two_says w l

pub wrap_plain : (w : ℕ) → w < 100 → IsPlain (wrap_cell w)
wrap_plain w l = pick (w == 0)
  where
    pick : (b : Bool) → IsPlain (cond b (codes "no") (two_digits w))
    pick true = yes_no_plain false
    pick false = two_plain w l

-- ---- words

-- words of 16 bits
abbrev pub AreWords16 : List ℕ → Type 0
AreWords16 [] = Unit {0}
AreWords16 (w ∷ ws) = (w < 2 ^ 16) × AreWords16 ws

abbrev at_spaces : List ℕ → List (List ℕ)
at_spaces text = slice_split (λ b. b == 32) text

no_space : (n : ℕ) → IsHexDigit n → (hex_digit n == 32) ≡ false
no_space n h = let low = h.low in grind (arith, nat_tests)

four_split : (w : ℕ) (rest : List ℕ) (parts : List (List ℕ)) → w < 2 ^ 16 → at_spaces rest ≡ [] ∷ parts → at_spaces (four w ++ rest) ≡ four w ∷ parts
four_split w rest parts l e =
    let is = word_digits w l in
    rw (no_space _ is.first, no_space _ is.second, no_space _ is.third, no_space _ is.fourth, e) refl

word_split : (w : ℕ) (rest : List ℕ) (parts : List (List ℕ)) → w < 2 ^ 16 → at_spaces rest ≡ [] ∷ parts → at_spaces (digits_of w ++ rest) ≡ digits_of w ∷ parts
word_split w rest parts l e = subst (λ d. at_spaces (d ++ rest) ≡ d ∷ parts) (sym (are_four w)) (four_split w rest parts l e)

spaced_split : (ws : List ℕ) → AreWords16 ws → at_spaces (spaced_words ws) ≡ [] ∷ map digits_of ws
spaced_split [] h = refl
spaced_split (w ∷ ws) h = ap (λ parts. [] ∷ parts) (word_split w (spaced_words ws) (map digits_of ws) h.0 (spaced_split ws h.1))

one_word : (w : ℕ) → w < 2 ^ 16 → cell_word (digits_of w) ≡ Some w
unfolding encode_with
one_word w l = word_number w l

has_digits : (w : ℕ) → has_no_text (digits_of w) ≡ false
unfolding encode_with
has_digits w = refl

parts_words : (ws : List ℕ) → AreWords16 ws → words_of_parts (map digits_of ws) ≡ Some ws
parts_words [] h = refl
parts_words (w ∷ ws) h =
    let parts : List (List ℕ) = map digits_of ws in
    ap (λ b. cond b (words_of_parts parts) (word_before (cell_word (digits_of w)) (words_of_parts parts))) (has_digits w) ∙ (λ j. word_before (one_word w h.0 j) (parts_words ws h.1 j))

pub words_read : (w : ℕ) (ws : List ℕ) → AreWords16 (w ∷ ws) → cell_words (words_cell (w ∷ ws)) ≡ Some (w ∷ ws)
words_read w ws h = ap words_of_parts (word_split w (spaced_words ws) (map digits_of ws) h.0 (spaced_split ws h.1)) ∙ parts_words (w ∷ ws) h

pub words_say : (w : ℕ) (ws : List ℕ) → AreWords16 (w ∷ ws) → words_data (words_cell (w ∷ ws)) ≡ map word_value (w ∷ ws)
words_say w ws h = ap each_word (words_read w ws h)

spaced_ascii : (ws : List ℕ) → AreWords16 ws → AllAscii (spaced_words ws)
spaced_ascii [] h = tt
spaced_ascii (w ∷ ws) h = (omega arith, ascii-append (digits_of w) (spaced_words ws) (subst AllAscii (sym (are_four w)) (four_ascii w h.0)) (spaced_ascii ws h.1))

spaced_ends : (part ws : List ℕ) → EndsGraphic part → AreWords16 ws → EndsGraphic (part ++ spaced_words ws)
spaced_ends part [] e h = rw (append-nil part) e
spaced_ends part (w ∷ ws) e h =
    ends-append part (32 ∷ (digits_of w ++ spaced_words ws)) (behind (digits_of w ++ spaced_words ws) (spaced_ends (digits_of w) ws (subst EndsGraphic (sym (are_four w)) (four_ends w h.0)) h.1))
  where
    behind : (t : List ℕ) → EndsGraphic t → EndsGraphic (32 ∷ t)
    behind [] h = absurd h
    behind (c ∷ cs) h = h

pub words_plain : (w : ℕ) (ws : List ℕ) → AreWords16 (w ∷ ws) → IsPlain (words_cell (w ∷ ws))
words_plain w ws h =
    let is = word_digits w h.0 in
    subst (λ d. IsPlain (d ++ spaced_words ws)) (sym (are_four w)) (record {
      ascii = ascii-append (four w) (spaced_words ws) (four_ascii w h.0) (spaced_ascii ws h.1);
      begins = (omega (arith, is.first.low), omega (arith, is.first.high));
      ends = spaced_ends (four w) ws (four_ends w h.0) h.1;
    })

-- ---- sets

-- the text begins with two digits and a minus sign
record IsSetCell (text : List ℕ) : Type 0 where
  first : ℕ
  small : first < 100
  rest : List ℕ
  is : text ≡ two_digits first ++ (45 ∷ rest)
  plain : IsPlain text

more_ascii : (first mask k : ℕ) → first + k ≤ 100 → AllAscii (more_numbers first mask k)
more_ascii first mask zero small = tt
more_ascii first mask (suc k) small = pick (has_bit mask k) (more_ascii first mask k (omega arith))
  where
    pick : (b : Bool) → AllAscii (more_numbers first mask k) → AllAscii (cond b (44 ∷ (two_digits (first + k) ++ more_numbers first mask k)) (more_numbers first mask k))
    pick true more = (omega arith, ascii-append (two_digits (first + k)) (more_numbers first mask k) (two_ascii (first + k) (omega arith)) more)
    pick false more = more

more_ends : (first mask k : ℕ) → first + k ≤ 100 → (part : List ℕ) → EndsGraphic part → EndsGraphic (part ++ more_numbers first mask k)
more_ends first mask zero small part e = rw (append-nil part) e
more_ends first mask (suc k) small part e = pick (has_bit mask k) (more_ends first mask k (omega arith))
  where
    pick : (b : Bool) → ((part : List ℕ) → EndsGraphic part → EndsGraphic (part ++ more_numbers first mask k)) → EndsGraphic (part ++ cond b (44 ∷ (two_digits (first + k) ++ more_numbers first mask k)) (more_numbers first mask k))
    pick true more = ends-append part (44 ∷ (two_digits (first + k) ++ more_numbers first mask k)) (more (two_digits (first + k)) (ones_graphic (first + k)))
    pick false more = more part e

lone_cell : (first mask k : ℕ) → suc (first + k) ≤ 100 → IsSetCell (lone_range (first + k) ++ more_numbers first mask k)
lone_cell first mask k small =
    let n : ℕ = first + k in
    let low : n < 100 = omega arith in
    record {
      first = n;
      small = low;
      rest = two_digits n ++ more_numbers first mask k;
      is = refl;
      plain = record {
        ascii = ascii-append (lone_range n) (more_numbers first mask k) (omega arith, (omega arith, (omega arith, two_ascii n low))) (more_ascii first mask k (omega arith));
        begins = tens_graphic n low;
        ends = more_ends first mask k (omega arith) (lone_range n) (ones_graphic n);
      };
    }

below_cell : (first mask k : ℕ) → first + k ≤ 100 → IsSetCell (numbers_below first mask k) ⊎ ((i : ℕ) → i < k → has_bit mask i ≡ false)
below_cell first mask zero small = inr (λ i l. absurd (omega arith))
below_cell first mask (suc k) small = pick (has_bit mask k) refl (below_cell first mask k (omega arith))
  where
    pick : (b : Bool) → has_bit mask k ≡ b → IsSetCell (numbers_below first mask k) ⊎ ((i : ℕ) → i < k → has_bit mask i ≡ false)
        → IsSetCell (cond b (lone_range (first + k) ++ more_numbers first mask k) (numbers_below first mask k)) ⊎ ((i : ℕ) → i < suc k → has_bit mask i ≡ false)
    pick true set below = inl (lone_cell first mask k (omega arith))
    pick false unset (inl d) = inl d
    pick false unset (inr none) = inr (λ i l. ⊎_elim (λ lt. none i lt) (λ le. let e : i ≡ k = omega arith in ap (has_bit mask) e ∙ unset) (cases_lt i k))

text_cell : (first mask : ℕ) → first ≤ 1 → mask < 2 ^ 32 → mask ≢ 0 → IsSetCell (numbers_text first mask)
unfolding numbers_text
text_cell first mask low fits some =
    ⊎_elim (λ d. d) (λ none. absurd (some (same_mask mask 0 fits (omega arith) (λ i l. none i l ∙ sym (zero-bit i))))) (below_cell first mask 32 (omega arith))

set_cell : (first mask : ℕ) → first ≤ 1 → mask < 2 ^ 32 → IsSetCell (set_text first mask)
set_cell first mask low fits = text_cell first (said_set mask) low (said_fits mask fits) (said_some mask)

-- a text that begins so is neither a number nor a truth value
no_number : (n : ℕ) (rest : List ℕ) → n < 100 → cell_number (two_digits n ++ (45 ∷ rest)) ≡ None
no_number n rest l =
    let text : List ℕ = two_digits n ++ (45 ∷ rest) in
    let none : is_numeral 10 text ≡ false = ap (λ b. is_digit (48 + n / 10) 10 && b) (and_false (is_digit (48 + n % 10) 10)) ∙ and_false (is_digit (48 + n / 10) 10) in
    ap (λ b. cond b (number_in 16 (drop 2 text)) (number_in 10 text)) (two_decimal n (45 ∷ rest))
    ∙ ap (λ b. cond b (Some (min (digits_value 10 text) 4294967295)) None) none

no_truth : (n : ℕ) (rest : List ℕ) → n < 100 → cell_truth (two_digits n ++ (45 ∷ rest)) ≡ None
no_truth n rest l =
    let small : n / 10 < 10 = omega arith in
    let low : nat_lt (48 + n / 10) 65 ≡ true = grind (arith, nat_tests) in
    let a : (48 + n / 10 == 121) ≡ false = grind (arith, nat_tests) in
    let b : (48 + n / 10 == 116) ≡ false = grind (arith, nat_tests) in
    let d : (48 + n / 10 == 110) ≡ false = grind (arith, nat_tests) in
    let e : (48 + n / 10 == 102) ≡ false = grind (arith, nat_tests) in
    rw (low, a, b, d, e) refl

text_says : (n : ℕ) (rest : List ℕ) → n < 100 → cell_value (two_digits n ++ (45 ∷ rest)) ≡ string (two_digits n ++ (45 ∷ rest))
text_says n rest l =
    let text : List ℕ = two_digits n ++ (45 ∷ rest) in
    ap (λ o. value_from o text) (no_number n rest l) ∙ ap (λ o. value_or o text) (no_truth n rest l)

pub set_says : (first mask : ℕ) → first ≤ 1 → mask < 2 ^ 32 → cell_value (set_text first mask) ≡ string (set_text first mask)
set_says first mask low fits =
    let cell = set_cell first mask low fits in
    subst (λ t. cell_value t ≡ string t) (sym cell.is) (text_says cell.first cell.rest cell.small)

pub set_plain : (first mask : ℕ) → first ≤ 1 → mask < 2 ^ 32 → IsPlain (set_text first mask)
set_plain first mask low fits = (set_cell first mask low fits).plain
