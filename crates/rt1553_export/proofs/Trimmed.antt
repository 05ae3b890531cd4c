-- Cells of ASCII text that begin and end with a graphic byte: nothing is trimmed off them.
use Rattle.std.proofs.Common.{◌≡◌, ℕ, zero, suc, ◌<◌, ◌≤◌, ◌==◌, ◌&&◌, nat_lt, nat_le, Bool, true, false, cond, List, [], ◌∷◌, ◌++◌, length, refl, ap, ◌∙◌, arith}
use Rattle.std.proofs.lemmas.Bool.Decides.{nat_tests}
use Rattle.std.proofs.lemmas.Str.{chars-IsAscii, encodes-IsAscii}
use Rattle.std.specs.Char.{is_whitespace}
use Rattle.std.specs.List.{list_all}
use Rattle.std.specs.Str.{IsAscii, chars, encode_utf8_all, skip_leading_whitespace, drop_trailing_whitespace, trim_start, trim_end, trim}

abbrev pub IsGraphic : ℕ → Type 0
IsGraphic c = (33 ≤ c) × (c ≤ 126)

abbrev pub AllAscii : List ℕ → Type 0
AllAscii [] = Unit {0}
AllAscii (b ∷ bs) = (b < 128) × AllAscii bs

abbrev pub BeginsGraphic : List ℕ → Type 0
BeginsGraphic [] = ⊥
BeginsGraphic (c ∷ cs) = IsGraphic c

abbrev pub EndsGraphic : List ℕ → Type 0
EndsGraphic [] = ⊥
EndsGraphic (c ∷ []) = IsGraphic c
EndsGraphic (c ∷ d ∷ ds) = EndsGraphic (d ∷ ds)

pub record IsPlain (text : List ℕ) : Type 0 where
  pub ascii : AllAscii text
  pub begins : BeginsGraphic text
  pub ends : EndsGraphic text

-- ---- the same as a test, for texts that are known

abbrev is_graphic : ℕ → Bool
is_graphic c = nat_le 33 c && nat_le c 126

abbrev begins_graphic : List ℕ → Bool
begins_graphic [] = false
begins_graphic (c ∷ cs) = is_graphic c

abbrev ends_graphic : List ℕ → Bool
ends_graphic [] = false
ends_graphic (c ∷ []) = is_graphic c
ends_graphic (c ∷ d ∷ ds) = ends_graphic (d ∷ ds)

abbrev pub is_plain : List ℕ → Bool
is_plain text = (list_all (λ b. nat_lt b 128) text && begins_graphic text) && ends_graphic text

both : (a b : Bool) → (a && b) ≡ true → (a ≡ true) × (b ≡ true)
both true b e = (refl, e)
both false b e = cc e

graphic_by : (c : ℕ) → is_graphic c ≡ true → IsGraphic c
graphic_by c e =
    let parts = both (nat_le 33 c) (nat_le c 126) e in
    (grind (arith, nat_tests, parts.0), grind (arith, nat_tests, parts.1))

ascii_by : (bs : List ℕ) → list_all (λ b. nat_lt b 128) bs ≡ true → AllAscii bs
ascii_by [] e = tt
ascii_by (b ∷ bs) e = let parts = both (nat_lt b 128) (list_all (λ b. nat_lt b 128) bs) e in (grind (arith, nat_tests, parts.0), ascii_by bs parts.1)

begins_by : (bs : List ℕ) → begins_graphic bs ≡ true → BeginsGraphic bs
begins_by [] e = cc e
begins_by (c ∷ cs) e = graphic_by c e

ends_by : (bs : List ℕ) → ends_graphic bs ≡ true → EndsGraphic bs
ends_by [] e = cc e
ends_by (c ∷ []) e = graphic_by c e
ends_by (c ∷ d ∷ ds) e = ends_by (d ∷ ds) e

pub plain_by : (text : List ℕ) → is_plain text ≡ true → IsPlain text
plain_by text e =
    let parts = both (list_all (λ b. nat_lt b 128) text && begins_graphic text) (ends_graphic text) e in
    let more = both (list_all (λ b. nat_lt b 128) text) (begins_graphic text) parts.0 in
    record { ascii = ascii_by text more.0; begins = begins_by text more.1; ends = ends_by text parts.1 }

-- ---- lists of bytes

pub ascii_all : (bs : List ℕ) → AllAscii bs → IsAscii bs
ascii_all [] h i = omega arith
ascii_all (c ∷ cs) h zero = h.0
ascii_all (c ∷ cs) h (suc i) = ascii_all cs h.1 i

pub ascii-append : (xs ys : List ℕ) → AllAscii xs → AllAscii ys → AllAscii (xs ++ ys)
ascii-append [] ys a b = b
ascii-append (x ∷ xs) ys a b = (a.0, ascii-append xs ys a.1 b)

pub ends-append : (xs ys : List ℕ) → EndsGraphic ys → EndsGraphic (xs ++ ys)
ends-append [] ys h = h
ends-append (x ∷ []) [] h = absurd h
ends-append (x ∷ []) (y ∷ ys) h = h
ends-append (x ∷ z ∷ zs) ys h = ends-append (z ∷ zs) ys h

-- ---- nothing is trimmed off

not_white : (c : ℕ) → 33 ≤ c → c ≤ 126 → is_whitespace c ≡ false
not_white c low high = grind (arith, nat_tests)

skip_none : (t : List ℕ) → BeginsGraphic t → skip_leading_whitespace t ≡ t
skip_none [] h = refl
skip_none (c ∷ cs) h = ap (λ b. cond b (skip_leading_whitespace cs) (c ∷ cs)) (not_white c h.0 h.1)

drop_none : (t : List ℕ) → EndsGraphic t → drop_trailing_whitespace t ≡ t
drop_none [] h = refl
drop_none (c ∷ []) h = ap (λ b. cond (b && (length (drop_trailing_whitespace []) == 0)) [] (c ∷ [])) (not_white c h.0 h.1)
drop_none (c ∷ d ∷ ds) h =
    ap (λ r. cond (is_whitespace c && (length r == 0)) [] (c ∷ r)) (drop_none (d ∷ ds) h) ∙ kept (is_whitespace c)
  where
    some : (length (d ∷ ds) == 0) ≡ false
    some = grind (arith, nat_tests)

    kept : (b : Bool) → cond (b && (length (d ∷ ds) == 0)) [] (c ∷ d ∷ ds) ≡ c ∷ d ∷ ds
    kept true = rw some refl
    kept false = refl

pub trim_plain : (t : List ℕ) → IsPlain t → trim t ≡ t
unfolding trim_start trim_end
trim_plain t h =
    let ascii = ascii_all t h.ascii in
    let spelled : chars t ≡ t = chars-IsAscii t ascii in
    let back : encode_utf8_all t ≡ t = encodes-IsAscii t ascii in
    let front : trim_start t ≡ t = ap (λ x. encode_utf8_all (skip_leading_whitespace x)) spelled ∙ ap encode_utf8_all (skip_none t h.begins) ∙ back in
    ap trim_end front ∙ ap (λ x. encode_utf8_all (drop_trailing_whitespace x)) spelled ∙ ap encode_utf8_all (drop_none t h.ends) ∙ back

pub trim_nothing : trim [] ≡ []
unfolding trim_start trim_end chars
trim_nothing = refl
