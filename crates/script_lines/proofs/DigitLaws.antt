-- Laws of hexadecimal digits: they are ASCII, and a word is read by pairs or by the values of its digits.
use Rattle.std.proofs.Common.{◌≡◌, ◌≢◌, ℕ, zero, suc, ◌<◌, ◌+◌, ◌*◌, ◌/◌, ◌%◌, ◌^◌, nat_lt, List, [], ◌∷◌, Bool, true, false, ◌==◌, Option, Some, None, Ok, option_map, slice_index, replicate, lit<, refl, sym, ap, ◌∙◌, arith, zero-add, length, get_or, set, subst}
use Rattle.std.specs.List.{list_all, range_with_len}
use Rattle.std.specs.Int.{w32, to_le_bytes, from_le_bytes}
use Rattle.std.specs.Int.Bits.{bit_or}
use Rattle.std.proofs.lemmas.Nat.{or_block, or_of_8, le_bytes_4}
use Rattle.std.proofs.lemmas.List.{get_or-replicate, get_or-set_same, get_or-set_other, ext_get_or}
use Rattle.std.proofs.lemmas.List.Folds.{list_all_at}
use Rattle.std.proofs.lemmas.List.FromFn.{get_or-range_with_len, length-range_with_len}
use Rattle.std.proofs.lemmas.Bool.{and_parts}
use Rattle.std.proofs.lemmas.Bool.Decides.{nat_tests}
use Rattle.hex.specs.Hex.{◌>>=◌, digit_or_error, hex_digit_value, decode_pairs, lower_digits, encode_with}
use Rattle.script_lines.specs.Digits.{word_of_bytes, word_of, digits_of}
use Rattle.script_lines.specs.inner.Digits.{byte_of_bytes, byte_of, AreKnown}

abbrev pub is_ascii : ℕ → Bool
is_ascii b = nat_lt b 128

pub ascii_at : (xs : List ℕ) → list_all is_ascii xs ≡ true → (i : ℕ) → slice_index xs i < 128
ascii_at [] h i = lit< tt
ascii_at (x ∷ xs) h zero = let both : (is_ascii x ≡ true) × (list_all is_ascii xs ≡ true) = and_parts (is_ascii x) (list_all is_ascii xs) h in grind (arith, nat_tests, both.0)
ascii_at (x ∷ xs) h (suc i) = let both : (is_ascii x ≡ true) × (list_all is_ascii xs ≡ true) = and_parts (is_ascii x) (list_all is_ascii xs) h in ascii_at xs both.1 i

encoded_ascii : (digits bytes : List ℕ) → list_all is_ascii digits ≡ true → (i : ℕ) → slice_index (encode_with digits bytes) i < 128
unfolding encode_with
encoded_ascii digits [] h i = lit< tt
encoded_ascii digits (b ∷ bytes) h zero = ascii_at digits h (b / 16)
encoded_ascii digits (b ∷ bytes) h (suc zero) = ascii_at digits h (b % 16)
encoded_ascii digits (b ∷ bytes) h (suc (suc i)) = encoded_ascii digits bytes h i

pub digits_ascii : (word i : ℕ) → slice_index (digits_of word) i < 128
digits_ascii word i = encoded_ascii lower_digits (word / 256 ∷ word % 256 ∷ []) refl i

-- the word of two bytes, where both are there
abbrev pub word_by_bytes : Option ℕ → Option ℕ → Option ℕ
word_by_bytes (Some high) (Some low) = Some (high * 256 + low)
word_by_bytes _ _ = None

by_digits : (a b c d : ℕ) (p q r s : Option ℕ)
    → word_of_bytes (digit_or_error a 0 p >>= (λ h. digit_or_error b 1 q >>= (λ l. Ok (h * 16 + l))) >>= (λ high.
    (digit_or_error c 2 r >>= (λ h. digit_or_error d 3 s >>= (λ l. Ok (h * 16 + l))) >>= (λ low. Ok (low ∷ []))) >>= (λ low. Ok (high ∷ low))))
    ≡ word_by_bytes (byte_of_bytes (digit_or_error a 0 p >>= (λ h. digit_or_error b 1 q >>= (λ l. Ok (h * 16 + l))) >>= (λ byte. Ok (byte ∷ []))))
    (byte_of_bytes (digit_or_error c 0 r >>= (λ h. digit_or_error d 1 s >>= (λ l. Ok (h * 16 + l))) >>= (λ byte. Ok (byte ∷ []))))
by_digits a b c d (Some p) (Some q) (Some r) (Some s) = refl
by_digits a b c d (Some p) (Some q) (Some r) None = refl
by_digits a b c d (Some p) (Some q) None s = refl
by_digits a b c d (Some p) None r s = refl
by_digits a b c d None q r s = refl

-- a word's digits are read two by two
pub word_by_pairs : (a b c d : ℕ) → word_of (a ∷ b ∷ c ∷ d ∷ []) ≡ word_by_bytes (byte_of (a ∷ b ∷ [])) (byte_of (c ∷ d ∷ []))
unfolding decode_pairs
word_by_pairs a b c d = by_digits a b c d (hex_digit_value a) (hex_digit_value b) (hex_digit_value c) (hex_digit_value d)

all_there : (a b c d w : ℕ) (p q r s : Option ℕ)
    → word_of_bytes (digit_or_error a 0 p >>= (λ h. digit_or_error b 1 q >>= (λ l. Ok (h * 16 + l))) >>= (λ high.
    (digit_or_error c 2 r >>= (λ h. digit_or_error d 3 s >>= (λ l. Ok (h * 16 + l))) >>= (λ low. Ok (low ∷ []))) >>= (λ low. Ok (high ∷ low)))) ≡ Some w
    → (p ≢ None) × (q ≢ None) × (r ≢ None) × (s ≢ None)
all_there a b c d w (Some p) (Some q) (Some r) (Some s) is = (λ e. cc e, λ e. cc e, λ e. cc e, λ e. cc e)
all_there a b c d w (Some p) (Some q) (Some r) None is = cc is
all_there a b c d w (Some p) (Some q) None s is = cc is
all_there a b c d w (Some p) None r s is = cc is
all_there a b c d w None q r s is = cc is

-- no digit of a word is a line feed
pub no_feed_in_digits : (a b c d w : ℕ) → word_of (a ∷ b ∷ c ∷ d ∷ []) ≡ Some w → (a ≢ 10) × (b ≢ 10) × (c ≢ 10) × (d ≢ 10)
unfolding decode_pairs
no_feed_in_digits a b c d w is =
    let there = all_there a b c d w (hex_digit_value a) (hex_digit_value b) (hex_digit_value c) (hex_digit_value d) is in (
      λ e. there.0 (ap hex_digit_value e),
      λ e. there.1 (ap hex_digit_value e),
      λ e. there.2 (ap hex_digit_value e),
      λ e. there.3 (ap hex_digit_value e),
    )

-- the word of four digits, where each is one
abbrev pub word_of_digits : Option ℕ → Option ℕ → Option ℕ → Option ℕ → Option ℕ
word_of_digits (Some a) (Some b) (Some c) (Some d) = Some (a * 4096 + b * 256 + c * 16 + d)
word_of_digits _ _ _ _ = None

by_each : (a b c d : ℕ) (p q r s : Option ℕ)
    → word_of_bytes (digit_or_error a 0 p >>= (λ h. digit_or_error b 1 q >>= (λ l. Ok (h * 16 + l))) >>= (λ high.
    (digit_or_error c 2 r >>= (λ h. digit_or_error d 3 s >>= (λ l. Ok (h * 16 + l))) >>= (λ low. Ok (low ∷ []))) >>= (λ low. Ok (high ∷ low))))
    ≡ word_of_digits p q r s
by_each a b c d (Some p) (Some q) (Some r) (Some s) = ap Some (omega arith)
by_each a b c d (Some p) (Some q) (Some r) None = refl
by_each a b c d (Some p) (Some q) None s = refl
by_each a b c d (Some p) None r s = refl
by_each a b c d None q r s = refl

word_by_digits : (a b c d : ℕ) → word_of (a ∷ b ∷ c ∷ d ∷ []) ≡ word_of_digits (hex_digit_value a) (hex_digit_value b) (hex_digit_value c) (hex_digit_value d)
unfolding decode_pairs
word_by_digits a b c d = by_each a b c d (hex_digit_value a) (hex_digit_value b) (hex_digit_value c) (hex_digit_value d)

-- a word is read by the values of its digits
pub word_of_values : (a b c d p q r s : ℕ) → hex_digit_value a ≡ Some p → hex_digit_value b ≡ Some q → hex_digit_value c ≡ Some r → hex_digit_value d ≡ Some s
    → word_of (a ∷ b ∷ c ∷ d ∷ []) ≡ Some (p * 4096 + q * 256 + r * 16 + s)
word_of_values a b c d p q r s e f g h = word_by_digits a b c d ∙ (λ i. word_of_digits (e i) (f i) (g i) (h i))

by_one : (b : ℕ) (v : Option ℕ)
    → byte_of_bytes (digit_or_error 48 0 (Some 0) >>= (λ h. digit_or_error b 1 v >>= (λ l. Ok (h * 16 + l))) >>= (λ byte. Ok (byte ∷ []))) ≡ v
by_one b (Some v) = ap Some (omega arith)
by_one b None = refl

-- behind a 0 a digit gives its value
pub behind_zero : (b : ℕ) → byte_of (48 ∷ b ∷ []) ≡ hex_digit_value b
unfolding decode_pairs
behind_zero b = by_one b (hex_digit_value b)

-- no byte is known
pub none_known : AreKnown (replicate 256 255)
none_known b below known = absurd (omega (arith, subst (λ n. n < 16) (get_or-replicate 256 b 255 0 below) known))

-- a digit more is known
pub known_more : (values : List ℕ) (byte value : ℕ) → byte < length values → hex_digit_value byte ≡ Some value → AreKnown values → AreKnown (set values byte value)
known_more values byte value within is known b below small = by_test (b == byte) refl
  where
    by_test : (t : Bool) → (b == byte) ≡ t → hex_digit_value b ≡ Some (get_or (set values byte value) b 0)
    by_test true e =
        let same : b ≡ byte = grind (arith, nat_tests, e) in
        ap hex_digit_value same ∙ is ∙ ap Some (sym (ap (λ i. get_or (set values byte value) i 0) same ∙ get_or-set_same values byte value 0 within))
    by_test false e =
        let other : b ≢ byte = grind (arith, nat_tests, e) in
        let kept = get_or-set_other values byte b value 0 other in
        known b below (subst (λ n. n < 16) kept small) ∙ ap Some (sym kept)

-- a digit is below 16
digit_small : (b v : ℕ) → hex_digit_value b ≡ Some v → v < 16
digit_small b v is = grind (arith, nat_tests, is)

-- whether the digit that `hex` writes for the value of a byte is the byte with bit 5 set
abbrev small_is : ℕ → Option ℕ → Bool
small_is b (Some v) = slice_index lower_digits v == bit_or b 32
small_is b None = true

abbrev is_small : ℕ → Bool
is_small b = small_is b (hex_digit_value b)

all_small : list_all is_small (range_with_len 0 256) ≡ true
all_small = refl

small_digit : (b v : ℕ) → b < 256 → hex_digit_value b ≡ Some v → slice_index lower_digits v ≡ bit_or b 32
small_digit b v below is = by_test (is_small b) refl
  where
    by_test : (t : Bool) → is_small b ≡ t → slice_index lower_digits v ≡ bit_or b 32
    by_test true e = grind (arith, nat_tests, sym (ap (small_is b) is) ∙ e)
    by_test false e = cc (sym (list_all_at is_small (range_with_len 0 256) b 0 (omega (arith, length-range_with_len 0 256, below)) (ap is_small (get_or-range_with_len 0 256 b 0 below ∙ zero-add b) ∙ e)) ∙ all_small)

-- the digits of a word that was read are its own with bit 5 set
pub small_digits : (a b c d p q r s : ℕ) → a < 2 ^ 8 → b < 2 ^ 8 → c < 2 ^ 8 → d < 2 ^ 8
    → hex_digit_value a ≡ Some p → hex_digit_value b ≡ Some q → hex_digit_value c ≡ Some r → hex_digit_value d ≡ Some s
    → option_map digits_of (word_of (a ∷ b ∷ c ∷ d ∷ [])) ≡ Some (bit_or a 32 ∷ bit_or b 32 ∷ bit_or c 32 ∷ bit_or d 32 ∷ [])
unfolding encode_with
small_digits a b c d p q r s ka kb kc kd e f g h =
    ap (option_map digits_of) (word_of_values a b c d p q r s e f g h)
    ∙ (λ i. Some (slice_index lower_digits (first i) ∷ slice_index lower_digits (second i) ∷ slice_index lower_digits (third i) ∷ slice_index lower_digits (fourth i) ∷ []))
    ∙ (λ i. Some (small_digit a p ka e i ∷ small_digit b q kb f i ∷ small_digit c r kc g i ∷ small_digit d s kd h i ∷ []))
  where
    word : ℕ
    word = p * 4096 + q * 256 + r * 16 + s

    first : word / 256 / 16 ≡ p
    first = omega (arith, digit_small a p e, digit_small b q f, digit_small c r g, digit_small d s h)

    second : word / 256 % 16 ≡ q
    second = omega (arith, digit_small a p e, digit_small b q f, digit_small c r g, digit_small d s h)

    third : word % 256 / 16 ≡ r
    third = omega (arith, digit_small a p e, digit_small b q f, digit_small c r g, digit_small d s h)

    fourth : word % 256 % 16 ≡ s
    fourth = omega (arith, digit_small a p e, digit_small b q f, digit_small c r g, digit_small d s h)

-- bit 5 is set in four bytes at once
pub all_or : (a b c d : ℕ) → a < 2 ^ 8 → b < 2 ^ 8 → c < 2 ^ 8 → d < 2 ^ 8
    → to_le_bytes w32 (bit_or (from_le_bytes w32 (a ∷ b ∷ c ∷ d ∷ [])) 538976288) ≡ bit_or a 32 ∷ bit_or b 32 ∷ bit_or c 32 ∷ bit_or d 32 ∷ []
all_or a b c d ka kb kc kd = le_bytes_4 (bit_or a 32 ∷ bit_or b 32 ∷ bit_or c 32 ∷ bit_or d 32 ∷ []) (bit_or n 538976288) refl at (ap (λ m. bit_or m 538976288) split ∙ by_blocks ∙ joined)
  where
    n : ℕ
    n = from_le_bytes w32 (a ∷ b ∷ c ∷ d ∷ [])

    split : n ≡ ((d * 2 ^ 8 + c) * 2 ^ 8 + b) * 2 ^ 8 + a
    split = omega arith

    by_blocks : bit_or (((d * 2 ^ 8 + c) * 2 ^ 8 + b) * 2 ^ 8 + a) 538976288 ≡ ((bit_or d 32 * 2 ^ 8 + bit_or c 32) * 2 ^ 8 + bit_or b 32) * 2 ^ 8 + bit_or a 32
    by_blocks =
        or_block 8 ((d * 2 ^ 8 + c) * 2 ^ 8 + b) 2105376 a 32 ka (omega arith)
        ∙ ap (λ m. m * 2 ^ 8 + bit_or a 32) (or_block 8 (d * 2 ^ 8 + c) 8224 b 32 kb (omega arith)
        ∙ ap (λ m. m * 2 ^ 8 + bit_or b 32) (or_block 8 d 32 c 32 kc (omega arith)))

    joined : ((bit_or d 32 * 2 ^ 8 + bit_or c 32) * 2 ^ 8 + bit_or b 32) * 2 ^ 8 + bit_or a 32 ≡ from_le_bytes w32 (bit_or a 32 ∷ bit_or b 32 ∷ bit_or c 32 ∷ bit_or d 32 ∷ [])
    joined = omega arith

    at : (i : ℕ) → get_or (bit_or a 32 ∷ bit_or b 32 ∷ bit_or c 32 ∷ bit_or d 32 ∷ []) i 0 < 256
    at zero = or_of_8 a 32 ka (omega arith)
    at (suc zero) = or_of_8 b 32 kb (omega arith)
    at (suc (suc zero)) = or_of_8 c 32 kc (omega arith)
    at (suc (suc (suc zero))) = or_of_8 d 32 kd (omega arith)
    at (suc (suc (suc (suc i)))) = lit< tt

-- and they are ASCII
pub small_ascii : (a b c d p q r s : ℕ) → a < 2 ^ 8 → b < 2 ^ 8 → c < 2 ^ 8 → d < 2 ^ 8
    → hex_digit_value a ≡ Some p → hex_digit_value b ≡ Some q → hex_digit_value c ≡ Some r → hex_digit_value d ≡ Some s
    → (i : ℕ) → slice_index (bit_or a 32 ∷ bit_or b 32 ∷ bit_or c 32 ∷ bit_or d 32 ∷ []) i < 128
small_ascii a b c d p q r s ka kb kc kd e f g h i = at i
  where
    below : (b v : ℕ) → b < 256 → hex_digit_value b ≡ Some v → bit_or b 32 < 128
    below b v k is = subst (λ n. n < 128) (small_digit b v k is) (ascii_at lower_digits refl v)

    at : (i : ℕ) → slice_index (bit_or a 32 ∷ bit_or b 32 ∷ bit_or c 32 ∷ bit_or d 32 ∷ []) i < 128
    at zero = below a p ka e
    at (suc zero) = below b q kb f
    at (suc (suc zero)) = below c r kc g
    at (suc (suc (suc zero))) = below d s kd h
    at (suc (suc (suc (suc i)))) = lit< tt

-- ---- all pairs

-- the two digits of element i
pair_of : (t xs : List ℕ) (i : ℕ) → i < length xs → (slice_index (encode_with t xs) (i * 2) ≡ slice_index t (get_or xs i 0 / 16)) × (slice_index (encode_with t xs) (i * 2 + 1) ≡ slice_index t (get_or xs i 0 % 16))
unfolding encode_with
pair_of t [] i within = absurd (omega (arith, within))
pair_of t (x ∷ xs) zero within = (refl, refl)
pair_of t (x ∷ xs) (suc i) within =
    let rest = pair_of t xs i (omega (arith, within)) in
    let first : suc i * 2 ≡ suc (suc (i * 2)) = omega arith in
    let second : suc i * 2 + 1 ≡ suc (suc (i * 2 + 1)) = omega arith in
    (ap (slice_index (encode_with t (x ∷ xs))) first ∙ rest.0, ap (slice_index (encode_with t (x ∷ xs))) second ∙ rest.1)

-- each byte once
pub all_bytes : (xs : List ℕ) → length xs ≡ 256 → ((k : ℕ) → k < 256 → get_or xs k 0 ≡ k) → xs ≡ range_with_len 0 256
all_bytes xs long each = ext_get_or 0 xs (range_with_len 0 256) (long ∙ sym (length-range_with_len 0 256))
    (λ k below. each k (omega (arith, below, long)) ∙ sym (get_or-range_with_len 0 256 k 0 (omega (arith, below, long)) ∙ zero-add k))

-- a word's digits, from those of all bytes
pub digits_from : (pairs : List ℕ) (word : ℕ) → word < 2 ^ 16 → pairs ≡ encode_with lower_digits (range_with_len 0 256)
    → slice_index pairs (word / 256 * 2) ∷ slice_index pairs (word / 256 * 2 + 1) ∷ slice_index pairs (word % 256 * 2) ∷ slice_index pairs (word % 256 * 2 + 1) ∷ [] ≡ digits_of word
unfolding encode_with
digits_from pairs word small known = λ i. (high.0 i ∷ high.1 i ∷ low.0 i ∷ low.1 i ∷ [])
  where
    both : (b : ℕ) → b < 256 → (slice_index pairs (b * 2) ≡ slice_index lower_digits (b / 16)) × (slice_index pairs (b * 2 + 1) ≡ slice_index lower_digits (b % 16))
    both b below =
        let p = pair_of lower_digits (range_with_len 0 256) b (omega (arith, below, length-range_with_len 0 256)) in
        let is = get_or-range_with_len 0 256 b 0 below ∙ zero-add b in (
          ap (λ xs. slice_index xs (b * 2)) known ∙ p.0 ∙ ap (λ x. slice_index lower_digits (x / 16)) is,
          ap (λ xs. slice_index xs (b * 2 + 1)) known ∙ p.1 ∙ ap (λ x. slice_index lower_digits (x % 16)) is,
        )

    high : (slice_index pairs (word / 256 * 2) ≡ slice_index lower_digits (word / 256 / 16)) × (slice_index pairs (word / 256 * 2 + 1) ≡ slice_index lower_digits (word / 256 % 16))
    high = both (word / 256) (omega (arith, small))

    low : (slice_index pairs (word % 256 * 2) ≡ slice_index lower_digits (word % 256 / 16)) × (slice_index pairs (word % 256 * 2 + 1) ≡ slice_index lower_digits (word % 256 % 16))
    low = both (word % 256) (omega arith)
