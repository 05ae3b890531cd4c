-- The parts of a text that was written, and where it is cut.
use Rattle.std.proofs.Common.{ℕ, ◌≡◌, ◌≢◌, ◌∙◌, ◌+◌, ◌/◌, ◌%◌, ◌<◌, Bool, true, false, not, ◌&&◌, ◌==◌, nat_lt, if◌then◌else◌, List, [], ◌∷◌, ◌++◌, Some, None, length, codes, refl, ap, arith}
use Rattle.std.proofs.lemmas.Bool.Decides.{nat_tests}
use Rattle.line_format.specs.Front.{after}
use Rattle.script_lines.specs.Digits.{decimal_digits}
use Rattle.script_lines.specs.Text.{onto_first}
use Rattle.rt1553_tool.specs.Parts.{before_comment, pieces_of, with_bytes, line_parts, is_blank}
use Rattle.rt1553_tool.specs.WordTexts.{short_decimal, address_text, tr_text}
use Rattle.rt1553_expand.specs.Message.{cut_here, cut}
use Rattle.rt1553_expand.proofs.CutLaws.{cut-none, cut-byte}

-- ---- texts without a byte

-- no byte is this one
abbrev pub Free : ℕ → List ℕ → Type 0
Free c [] = Unit {0}
Free c (b ∷ bytes) = (b ≢ c) × Free c bytes

pub free-append : (c : ℕ) (xs ys : List ℕ) → Free c xs → Free c ys → Free c (xs ++ ys)
free-append c [] ys p q = q
free-append c (b ∷ xs) ys p q = (p.0, free-append c xs ys p.1 q)

abbrev has_none : ℕ → List ℕ → Bool
has_none c [] = true
has_none c (b ∷ bytes) = not (b == c) && has_none c bytes

-- a text that is written out
pub free : (c : ℕ) (bytes : List ℕ) → has_none c bytes ≡ true → Free c bytes
free c [] none = tt
free c (b ∷ bytes) none = one (b == c) (has_none c bytes) (λ e. grind (arith, nat_tests)) none (free c bytes)
  where
    one : (same rest : Bool) → (b ≡ c → same ≡ true) → (not same && rest) ≡ true → (rest ≡ true → Free c bytes) → (b ≢ c) × Free c bytes
    one true rest is e later = absurd (cc)
    one false true is e later = (λ eq. let yes = is eq in cc, later refl)
    one false false is e later = absurd (cc)

pub free-if : (c : ℕ) (b : Bool) (x y : List ℕ) → Free c x → Free c y → Free c (if b then x else y)
free-if c true x y p q = p
free-if c false x y p q = q

-- decimal digits are none of what is no digit
pub free-decimal : (c n : ℕ) → c < 48 → Free c (short_decimal n)
free-decimal c n low = free-if c (nat_lt n 10) ((48 + n) ∷ []) ((48 + n / 10) ∷ (48 + n % 10) ∷ [])
    (λ e. absurd (omega (arith, e, low)), tt) (λ e. absurd (omega (arith, e, low)), (λ e. absurd (omega (arith, e, low)), tt))

pub free-above : (c n : ℕ) → 57 < c → n < 100 → Free c (short_decimal n)
free-above c n high small = case (nat_lt n 10) refl
  where
    case : (t : Bool) → nat_lt n 10 ≡ t → Free c (if t then (48 + n) ∷ [] else (48 + n / 10) ∷ (48 + n % 10) ∷ [])
    case true e = let low : n < 10 = grind (arith, nat_tests, e) in (λ eq. absurd (omega (arith, eq, high, low)), tt)
    case false e = (λ eq. absurd (omega (arith, eq, high, small)), (λ eq. absurd (omega (arith, eq, high)), tt))

-- ---- cut where a byte comes first

pub cut-free : (c : ℕ) (xs : List ℕ) → Free c xs → cut (c ∷ []) xs ≡ record { front = xs; behind = None }
cut-free c [] p = cut-none (c ∷ [])
cut-free c (b ∷ xs) p =
    let other : (b == c) ≡ false = grind (arith, nat_tests, p.0) in
    cut-byte (c ∷ []) b xs ∙ ap (λ t. cut_here b (if t then Some xs else None) (cut (c ∷ []) xs)) other ∙ ap (cut_here b None) (cut-free c xs p.1)

pub cut-at : (c : ℕ) (xs ys : List ℕ) → Free c xs → cut (c ∷ []) (xs ++ c ∷ ys) ≡ record { front = xs; behind = Some ys }
cut-at c [] ys p =
    let same : (c == c) ≡ true = grind (arith, nat_tests) in
    cut-byte (c ∷ []) c ys ∙ ap (λ t. cut_here c (if t then Some ys else None) (cut (c ∷ []) ys)) same
cut-at c (b ∷ xs) ys p =
    let other : (b == c) ≡ false = grind (arith, nat_tests, p.0) in
    cut-byte (c ∷ []) b (xs ++ c ∷ ys) ∙ ap (λ t. cut_here b (if t then Some (xs ++ c ∷ ys) else None) (cut (c ∷ []) (xs ++ c ∷ ys))) other
    ∙ ap (cut_here b None) (cut-at c xs ys p.1)

-- ---- cut at `from`, which has an f behind its space

-- the first byte, if there is one, is no f
abbrev BeginsOther : List ℕ → Type 0
BeginsOther [] = Unit {0}
BeginsOther (b ∷ bytes) = b ≢ 102

not-from : (b : ℕ) (bytes : List ℕ) → BeginsOther bytes → after (codes " from ") (b ∷ bytes) ≡ None
not-from b [] other = case (b == 32)
  where
    case : (t : Bool) → (if t then after (codes "from ") [] else None) ≡ None
    case true = refl
    case false = refl
not-from b (x ∷ bytes) other = case (b == 32)
  where
    no_f : (x == 102) ≡ false
    no_f = grind (arith, nat_tests, other)

    case : (t : Bool) → (if t then after (codes "from ") (x ∷ bytes) else None) ≡ None
    case true = ap (λ s. if s then after (codes "rom ") bytes else None) no_f
    case false = refl

begins-free : (xs : List ℕ) → Free 102 xs → BeginsOther xs
begins-free [] p = tt
begins-free (b ∷ xs) p = p.0

begins-space : (xs ys : List ℕ) → Free 102 xs → BeginsOther (xs ++ 32 ∷ ys)
begins-space [] ys p = λ e. absurd (omega (arith, e))
begins-space (b ∷ xs) ys p = p.0

pub cut-from-none : (xs : List ℕ) → Free 102 xs → cut (codes " from ") xs ≡ record { front = xs; behind = None }
cut-from-none [] p = cut-none (codes " from ")
cut-from-none (b ∷ xs) p =
    cut-byte (codes " from ") b xs ∙ ap (λ o. cut_here b o (cut (codes " from ") xs)) (not-from b xs (begins-free xs p.1)) ∙ ap (cut_here b None) (cut-from-none xs p.1)

pub cut-from : (xs ys : List ℕ) → Free 102 xs → cut (codes " from ") (xs ++ (codes " from " ++ ys)) ≡ record { front = xs; behind = Some ys }
cut-from [] ys p = cut-byte (codes " from ") 32 (codes "from " ++ ys)
cut-from (b ∷ xs) ys p =
    let rest : List ℕ = xs ++ (codes " from " ++ ys) in
    cut-byte (codes " from ") b rest ∙ ap (λ o. cut_here b o (cut (codes " from ") rest)) (not-from b rest (begins-space xs (codes "from " ++ ys) p.1))
    ∙ ap (cut_here b None) (cut-from xs ys p.1)

-- ---- the parts of a line

-- no byte is blank
abbrev NoBlank : List ℕ → Type 0
NoBlank [] = Unit {0}
NoBlank (b ∷ bytes) = (is_blank b ≡ false) × NoBlank bytes

-- a part of a line
pub record IsPart (p : List ℕ) : Type 0 where
  pub plain : NoBlank p
  pub hash : Free 35 p
  pub some : 0 < length p

no-comment : (xs : List ℕ) → Free 35 xs → before_comment xs ≡ xs
unfolding before_comment
no-comment [] p = refl
no-comment (b ∷ xs) p = let other : (b == 35) ≡ false = grind (arith, nat_tests, p.0) in rw other (ap (λ bytes. b ∷ bytes) (no-comment xs p.1))

pieces-more : (xs rest : List ℕ) → NoBlank xs → pieces_of (xs ++ 32 ∷ rest) ≡ xs ∷ pieces_of rest
unfolding pieces_of
pieces-more [] rest p = refl
pieces-more (b ∷ xs) rest p = rw p.0 (ap (onto_first b) (pieces-more xs rest p.1))

pieces-last : (b : ℕ) (xs : List ℕ) → NoBlank (b ∷ xs) → pieces_of (b ∷ xs) ≡ (b ∷ xs) ∷ []
unfolding pieces_of
pieces-last b [] p = rw p.0 refl
pieces-last b (x ∷ xs) p = rw p.0 (ap (onto_first b) (pieces-last x xs p.1))

pieces-part : (p : List ℕ) → IsPart p → pieces_of p ≡ p ∷ []
pieces-part [] is = absurd (omega (arith, is.some))
pieces-part (b ∷ p) is = pieces-last b p is.plain

with-part : (p : List ℕ) (ps : List (List ℕ)) → IsPart p → with_bytes (p ∷ ps) ≡ p ∷ with_bytes ps
with-part [] ps is = absurd (omega (arith, is.some))
with-part (b ∷ p) ps is = refl

-- the bytes of parts with a space between them
abbrev pub spaced : List ℕ → List (List ℕ) → List ℕ
spaced p [] = p
spaced p (q ∷ ps) = p ++ 32 ∷ spaced q ps

abbrev pub ArePart : List (List ℕ) → Type 0
ArePart [] = Unit {0}
ArePart (p ∷ ps) = IsPart p × ArePart ps

pieces-spaced : (p : List ℕ) (ps : List (List ℕ)) → ArePart (p ∷ ps) → with_bytes (pieces_of (spaced p ps)) ≡ p ∷ ps
pieces-spaced p [] are = ap with_bytes (pieces-part p are.0) ∙ with-part p [] are.0
pieces-spaced p (q ∷ ps) are =
    ap with_bytes (pieces-more p (spaced q ps) are.0.plain) ∙ with-part p (pieces_of (spaced q ps)) are.0 ∙ ap (λ rest. p ∷ rest) (pieces-spaced q ps are.1)

free-spaced : (p : List ℕ) (ps : List (List ℕ)) → ArePart (p ∷ ps) → Free 35 (spaced p ps)
free-spaced p [] are = are.0.hash
free-spaced p (q ∷ ps) are = free-append 35 p (32 ∷ spaced q ps) are.0.hash (λ e. absurd (omega (arith, e)), free-spaced q ps are.1)

-- the parts of a line are what was written with a space between them
pub parts-spaced : (p : List ℕ) (ps : List (List ℕ)) → ArePart (p ∷ ps) → line_parts (spaced p ps) ≡ p ∷ ps
parts-spaced p ps are = ap (λ line. with_bytes (pieces_of line)) (no-comment (spaced p ps) (free-spaced p ps are)) ∙ pieces-spaced p ps are

-- ---- what is written as a part

pub decimal-part : (n : ℕ) → n < 100 → IsPart (short_decimal n)
decimal-part n small = record { plain = plain (nat_lt n 10); hash = free-decimal 35 n (omega arith); some = some (nat_lt n 10) }
  where
    digit : (d : ℕ) → is_blank (48 + d) ≡ false
    digit d = grind (arith, nat_tests)

    plain : (t : Bool) → NoBlank (if t then (48 + n) ∷ [] else (48 + n / 10) ∷ (48 + n % 10) ∷ [])
    plain true = (digit n, tt)
    plain false = (digit (n / 10), (digit (n % 10), tt))

    some : (t : Bool) → 0 < length (if t then (48 + n) ∷ [] else (48 + n / 10) ∷ (48 + n % 10) ∷ [])
    some true = omega arith
    some false = omega arith

pub two-part : (n : ℕ) → n < 100 → IsPart (decimal_digits n)
two-part n small = record {
  plain = (digit (n / 10), (digit (n % 10), tt));
  hash = (λ e. absurd (omega (arith, e)), (λ e. absurd (omega (arith, e)), tt));
  some = omega arith;
}
  where
    digit : (d : ℕ) → is_blank (48 + d) ≡ false
    digit d = grind (arith, nat_tests)

pub all-part : IsPart (codes "all")
all-part = record { plain = (refl, (refl, (refl, tt))); hash = free 35 (codes "all") refl; some = omega arith }

pub part-if : (b : Bool) (x y : List ℕ) → IsPart x → IsPart y → IsPart (if b then x else y)
part-if true x y p q = p
part-if false x y p q = q

pub address-part : (a : ℕ) → a < 100 → IsPart (address_text a)
address-part a small = part-if (a == 31) (codes "all") (short_decimal a) all-part (decimal-part a small)

pub tx-part : IsPart (codes "tx")
tx-part = record { plain = (refl, (refl, tt)); hash = free 35 (codes "tx") refl; some = omega arith }

pub rx-part : IsPart (codes "rx")
rx-part = record { plain = (refl, (refl, tt)); hash = free 35 (codes "rx") refl; some = omega arith }

pub mode-part : IsPart (codes "mode")
mode-part = record { plain = (refl, (refl, (refl, (refl, tt)))); hash = free 35 (codes "mode") refl; some = omega arith }

pub direction-part : (transmit : Bool) → IsPart (tr_text transmit)
direction-part true = tx-part
direction-part false = rx-part

pub thirty_one-part : IsPart (codes "31")
thirty_one-part = record { plain = (refl, (refl, tt)); hash = free 35 (codes "31") refl; some = omega arith }
