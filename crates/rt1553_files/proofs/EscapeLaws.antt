-- What shows bytes prints on one line: no character of an escape is a control character.
use Rattle.std.proofs.Common.{ℕ, suc, ◌≡◌, ◌<◌, ◌≤◌, ◌/◌, ◌%◌, ◌⊎◌, inl, inr, Bool, true, false, cond, List, [], ◌∷◌, ◌++◌}
use Rattle.std.proofs.Common.{arith, sym, subst, refl}
use Rattle.std.specs.Prelude.{nat_lt, encode_utf8_all}
use Rattle.std.specs.List.{All, flat_map}
use Rattle.std.specs.Char.{digit_char}
use Rattle.std.specs.Char.Escape.{hex_digit_at, escape_unicode, short_escape, escape_or, escape_ascii, IsEscapeDebug}
use Rattle.std.proofs.lemmas.Bool.{cases_lt, ltb-true, ltb-false}
use Rattle.std.proofs.lemmas.Bool.Decides.{nat_tests}
use Rattle.std.proofs.lemmas.List.Elements.{All-nil, All-cons, All-append}
use Rattle.rt1553_files.specs.Printable.{IsPrintable, PrintsOnOneLine, front_fault, ShowsChars, no_chars, one_char, ShowsBytes, no_bytes}
use Rattle.rt1553_files.specs.Printable.{one_chunk, Shows}
use Rattle.rt1553_files.proofs.PrintLaws.{encoded_prints}

-- none of the characters is a control character of ASCII: a record, so that antt finds the list
record AllPrint (xs : List ℕ) : Type 0 where
  each : All IsPrintable xs

none : AllPrint []
none = record { each = All-nil IsPrintable }

more : (c : ℕ) (xs : List ℕ) → IsPrintable c → AllPrint xs → AllPrint (c ∷ xs)
more c xs prints others = record { each = All-cons IsPrintable c xs prints others.each }

joined : (xs ys : List ℕ) → AllPrint xs → AllPrint ys → AllPrint (xs ++ ys)
joined xs ys p q = record { each = All-append IsPrintable xs ys p.each q.each }

plain : (c : ℕ) (xs : List ℕ) → 32 ≤ c → c < 127 → AllPrint xs → AllPrint (c ∷ xs)
plain c xs low high others = more c xs (low, λ is. absurd (omega arith)) others

picked : (b : Bool) (xs ys : List ℕ) → (b ≡ true → AllPrint xs) → (b ≡ false → AllPrint ys) → AllPrint (cond b xs ys)
picked true xs ys first second = first refl
picked false xs ys first second = second refl

-- hexadecimal digits
digit_range : (d : ℕ) → d < 16 → (48 ≤ digit_char d) × (digit_char d < 127)
digit_range d small = (grind (arith, nat_tests), grind (arith, nat_tests))

hex_more : (place c : ℕ) (xs : List ℕ) → AllPrint xs → AllPrint (hex_digit_at place c ∷ xs)
hex_more place c xs others =
    let small : c / place % 16 < 16 = omega arith in
    let range = digit_range (c / place % 16) small in
    plain _ xs (omega arith) range.1 others

braced : (xs : List ℕ) → AllPrint xs → AllPrint (92 ∷ 117 ∷ 123 ∷ xs)
braced xs digits =
    plain _ _ (omega arith) (omega arith) (plain _ _ (omega arith) (omega arith) (plain _ _ (omega arith) (omega arith) digits))

unicode_prints : (c : ℕ) → AllPrint (escape_unicode c)
unicode_prints c =
    let closed : AllPrint (125 ∷ []) = plain _ _ (omega arith) (omega arith) none in
    let one = hex_more 1 c _ closed in
    let two = hex_more 0x10 c _ one in
    let three = hex_more 0x100 c _ two in
    let four = hex_more 0x1000 c _ three in
    let five = hex_more 0x1_0000 c _ four in
    let six = hex_more 0x10_0000 c _ five in
    picked (nat_lt c 0x10) _ _ (λ _. braced _ one)
    (λ _. picked (nat_lt c 0x100) _ _ (λ _. braced _ two)
    (λ _. picked (nat_lt c 0x1000) _ _ (λ _. braced _ three)
    (λ _. picked (nat_lt c 0x1_0000) _ _ (λ _. braced _ four)
    (λ _. picked (nat_lt c 0x10_0000) _ _ (λ _. braced _ five) (λ _. braced _ six)))))

-- a letter after a backslash, or the character itself, or another escape
short_range : (c : ℕ) → 0 < short_escape c → (32 ≤ short_escape c) × (short_escape c < 127)
short_range c some = (grind (arith, nat_tests), grind (arith, nat_tests))

or_prints : (c : ℕ) (other : List ℕ) → AllPrint other → AllPrint (escape_or c other)
or_prints c other others =
    picked (nat_lt 0 (short_escape c)) _ _
    (λ short. let range = short_range c (ltb-true 0 (short_escape c) short) in
    plain _ _ (omega arith) (omega arith) (plain _ _ range.0 range.1 none))
    (λ _. picked (nat_lt c 32) _ _ (λ _. others)
    (λ low. picked (nat_lt c 127) _ _ (λ high. plain _ _ (ltb-false c 32 low) (ltb-true c 127 high) none) (λ _. others)))

ascii_prints : (b : ℕ) → AllPrint (escape_ascii b)
ascii_prints b =
    let digits = hex_more 0x10 b _ (hex_more 1 b _ none) in
    or_prints b _ (plain _ _ (omega arith) (omega arith) (plain _ _ (omega arith) (omega arith) digits))

nul_prints : AllPrint (92 ∷ 48 ∷ [])
nul_prints = plain _ _ (omega arith) (omega arith) (plain _ _ (omega arith) (omega arith) none)

past_ascii_prints : (c : ℕ) (xs : List ℕ) → 127 < c → (xs ≡ c ∷ []) ⊎ (xs ≡ escape_unicode c) → AllPrint xs
past_ascii_prints c xs high (inl is) = subst AllPrint (sym is) (more c [] (omega arith, λ same. absurd (omega arith)) none)
past_ascii_prints c xs high (inr is) = subst AllPrint (sym is) (unicode_prints c)

debug_prints : (c : ℕ) (xs : List ℕ) → IsEscapeDebug c xs → AllPrint xs
debug_prints c xs is = elim (cases_lt 127 c) [
  | inl high ↦ past_ascii_prints c xs high (is.2 high)
  | inr ascii ↦ elim (cases_lt 0 c) [
    | inl some ↦ subst AllPrint (sym (is.1 some (omega arith))) (or_prints c _ (unicode_prints c))
    | inr nul ↦ subst AllPrint (sym (is.0 (omega arith))) nul_prints
  ]
]

-- what shows characters, and bytes
chars_print : (cs shown : List ℕ) → ShowsChars cs shown → AllPrint shown
chars_print cs shown no_chars = none
chars_print cs shown (one_char c escape others rest is shows) = joined _ _ (debug_prints c escape is) (chars_print others rest shows)

escapes_print : (bytes : List ℕ) → AllPrint (flat_map escape_ascii bytes)
escapes_print [] = none
escapes_print (b ∷ bytes) = joined _ _ (ascii_prints b) (escapes_print bytes)

shown_prints : (bytes shown : List ℕ) → ShowsBytes bytes shown → AllPrint shown
shown_prints bytes shown no_bytes = none
shown_prints bytes shown (one_chunk all text rest some shows behind) =
    joined _ _ (joined _ _ (chars_print _ text shows) (escapes_print (front_fault all))) (shown_prints _ rest behind)

encoded_all_print : (cs : List ℕ) → All IsPrintable cs → PrintsOnOneLine (encode_utf8_all cs)
encoded_all_print [] each = All-nil IsPrintable
encoded_all_print (c ∷ cs) each =
    let first : IsPrintable c = each 0 0 (omega arith) in
    All-append IsPrintable _ _ (encoded_prints c first.0 first.1) (encoded_all_print cs (λ k d below. each (suc k) d (omega arith)))

pub shows_one_line : (bytes text : List ℕ) → Shows bytes text → PrintsOnOneLine text
shows_one_line bytes text shows =
    subst PrintsOnOneLine (sym shows.1) (encoded_all_print shows.0 (shown_prints bytes shows.0 shows.2).each)
