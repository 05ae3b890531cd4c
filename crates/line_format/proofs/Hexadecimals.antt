-- Hexadecimal digits, as the crate `hex` reads and writes them.
use Rattle.std.proofs.Common.{◌≡◌, ℕ, zero, suc, ◌+◌, ◌*◌, ◌/◌, ◌%◌, ◌^◌, ◌<◌, ◌||◌, nat_le, nat_lt, Bool, true, false, List, [], ◌∷◌, ◌++◌, MatchResult, length, slice_index, take, drop, Option, Some, None, Result, Ok, Err, lit<, refl, ap, sym, ◌∙◌, arith, append-nil}
use Rattle.std.specs.List.{list_any}
use Rattle.std.specs.Result.{IsOk, OnOk}
use Rattle.std.specs.Char.{is_ascii_uppercase}
use Rattle.std.specs.Int.{w16, w32, to_be_bytes, from_be_bytes}
use Rattle.std.proofs.lemmas.Bool.Decides.{nat_tests}
use Rattle.std.proofs.lemmas.List.{take-append-drop}
use Rattle.std.proofs.lemmas.Nat.{from_be_bytes-to_be_bytes_2, from_be_bytes-to_be_bytes_4}
use Rattle.hex.specs.Hex.{IsBytes, lower_digits, encode_with, encode_lower, hex_digit_value, decode_pairs, decode_of, decode_sized}
use Rattle.hex.specs.Hex as hex
use Rattle.hex.specs.declared.error.FromHexError.{FromHexError}
use Rattle.hex.proofs.HexLemmas.{decode_of-encode_lower, decode_of-even, decode_sized-twice, length-encode_with}
use Rattle.line_format.specs.Format.{digits}
use Rattle.line_format.specs.Front.{◌>>=◌}
use Rattle.line_format.specs.Reading.{digit_value, number_at}
use Rattle.line_format.specs.inner.Fields.{number_from}
use Rattle.line_format.proofs.Digits.{Reads, number_at-is}

abbrev pub has_capital : List ℕ → Bool
has_capital digits = list_any is_ascii_uppercase digits

-- a capital letter is no digit of a canonical text, and `hex` reads all other bytes alike
capital_none : (b : ℕ) → is_ascii_uppercase b ≡ true → digit_value 16 b ≡ None
capital_none b e =
    let low : nat_lt b 97 ≡ true = grind (arith, nat_tests) in
    let high : nat_lt b 58 ≡ false = grind (arith, nat_tests) in
    let some : nat_le 48 b ≡ true = grind (arith, nat_tests) in
    rw (low, some, high) refl

small_same : (b : ℕ) → is_ascii_uppercase b ≡ false → digit_value 16 b ≡ hex_digit_value b
small_same b e = grind (arith, nat_tests)

-- what decoded bytes say of the number that is read
abbrev pub decoded : ℕ → List ℕ → Result (List ℕ) FromHexError → Option (ℕ × List ℕ)
decoded acc rest (Ok bytes) = Some (number_from acc bytes, rest)
decoded acc rest (Err e) = None

one_byte : (acc b : ℕ) (rest : List ℕ) (o : Result (List ℕ) FromHexError) → decoded (acc * 256 + b) rest o ≡ decoded acc rest (hex.◌>>=◌ o (λ bytes. Ok (b ∷ bytes)))
one_byte acc b rest (Ok bytes) = refl
one_byte acc b rest (Err e) = refl

-- digits without a capital letter are read as `hex` decodes them, two at a time
pub decoded_alike : (i acc : ℕ) (ds rest : List ℕ) → length ds % 2 ≡ 0 → has_capital ds ≡ false
    → number_at 16 (length ds) acc (ds ++ rest) ≡ decoded acc rest (decode_pairs i ds)
unfolding decode_pairs
decoded_alike i acc [] rest even small = refl
decoded_alike i acc (d ∷ []) rest even small = absurd (omega (arith, even))
decoded_alike i acc (high ∷ low ∷ ds) rest even small =
    let a : is_ascii_uppercase high ≡ false = first_false _ _ small in
    let later : has_capital (low ∷ ds) ≡ false = second_false (is_ascii_uppercase high) _ small in
    let b : is_ascii_uppercase low ≡ false = first_false _ _ later in
    let c : has_capital ds ≡ false = second_false (is_ascii_uppercase low) _ later in
    rw (small_same high a, small_same low b) (pick (hex_digit_value high) (hex_digit_value low) (λ acc. decoded_alike (i + 2) acc ds rest (omega (arith, even)) c))
  where
    first_false : (a b : Bool) → (a || b) ≡ false → a ≡ false
    first_false true b e = cc
    first_false false b e = refl

    second_false : (a b : Bool) → (a || b) ≡ false → b ≡ false
    second_false true b e = cc
    second_false false b e = e

    pick : (h l : Option ℕ) → ((acc : ℕ) → number_at 16 (length ds) acc (ds ++ rest) ≡ decoded acc rest (decode_pairs (i + 2) ds))
        → (h >>= λ h. l >>= λ l. number_at 16 (length ds) ((acc * 16 + h) * 16 + l) (ds ++ rest))
        ≡ decoded acc rest (hex.◌>>=◌ (hex.◌>>=◌ (hex.digit_or_error high i h) (λ h. hex.◌>>=◌ (hex.digit_or_error low (i + 1) l) (λ l. Ok (h * 16 + l)))) (λ b. hex.◌>>=◌ (decode_pairs (i + 2) ds) (λ bytes. Ok (b ∷ bytes))))
    pick None l later = refl
    pick (Some h) None later = refl
    pick (Some h) (Some l) later =
        let same : (acc * 16 + h) * 16 + l ≡ acc * 256 + (h * 16 + l) = omega arith in
        ap (λ acc. number_at 16 (length ds) acc (ds ++ rest)) same ∙ later _ ∙ one_byte acc (h * 16 + l) rest (decode_pairs (i + 2) ds)

-- a capital letter among the digits
pub capital_read : (acc : ℕ) (ds rest : List ℕ) → has_capital ds ≡ true → number_at 16 (length ds) acc (ds ++ rest) ≡ None
capital_read acc [] rest e = cc
capital_read acc (d ∷ ds) rest e = pick (is_ascii_uppercase d) refl e (λ h acc. capital_read acc ds rest h)
  where
    through : (o : Option ℕ) → ((acc : ℕ) → number_at 16 (length ds) acc (ds ++ rest) ≡ None) → (o >>= λ v. number_at 16 (length ds) (acc * 16 + v) (ds ++ rest)) ≡ None
    through None later = refl
    through (Some v) later = later _

    pick : (t : Bool) → is_ascii_uppercase d ≡ t → (t || has_capital ds) ≡ true → (has_capital ds ≡ true → (acc : ℕ) → number_at 16 (length ds) acc (ds ++ rest) ≡ None) → number_at 16 (length (d ∷ ds)) acc (d ∷ (ds ++ rest)) ≡ None
    pick true capital e later = rw (capital_none d capital) refl
    pick false other e later = through (digit_value 16 d) (later e)

-- fewer bytes than digits
pub too_few : (base width acc : ℕ) (bytes : List ℕ) → length bytes < width → number_at base width acc bytes ≡ None
too_few base zero acc bytes l = absurd (omega (arith, l))
too_few base (suc width) acc [] l = refl
too_few base (suc width) acc (b ∷ bytes) l = through (digit_value base b) (λ acc. too_few base width acc bytes (omega (arith, l)))
  where
    through : (o : Option ℕ) → ((acc : ℕ) → number_at base width acc bytes ≡ None) → (o >>= λ v. number_at base width (acc * base + v) bytes) ≡ None
    through None later = refl
    through (Some v) later = later _

-- ---- numbers of bytes

pub two_bytes : (bytes : List ℕ) → length bytes ≡ 2 → number_from 0 bytes ≡ from_be_bytes w16 bytes
two_bytes [] e = absurd (omega (arith, e))
two_bytes (a ∷ []) e = absurd (omega (arith, e))
two_bytes (a ∷ b ∷ []) e = omega arith
two_bytes (a ∷ b ∷ c ∷ more) e = absurd (omega (arith, e))

pub four_bytes : (bytes : List ℕ) → length bytes ≡ 4 → number_from 0 bytes ≡ from_be_bytes w32 bytes
four_bytes [] e = absurd (omega (arith, e))
four_bytes (a ∷ []) e = absurd (omega (arith, e))
four_bytes (a ∷ b ∷ []) e = absurd (omega (arith, e))
four_bytes (a ∷ b ∷ c ∷ []) e = absurd (omega (arith, e))
four_bytes (a ∷ b ∷ c ∷ d ∷ []) e = omega arith
four_bytes (a ∷ b ∷ c ∷ d ∷ x ∷ more) e = absurd (omega (arith, e))

-- ---- digits that are written

no_capital_at : (xs : List ℕ) → has_capital xs ≡ false → (i : ℕ) → is_ascii_uppercase (slice_index xs i) ≡ false
no_capital_at [] h i = refl
no_capital_at (x ∷ xs) h zero = first (is_ascii_uppercase x) _ h
  where
    first : (a b : Bool) → (a || b) ≡ false → a ≡ false
    first true b e = cc
    first false b e = refl
no_capital_at (x ∷ xs) h (suc i) = no_capital_at xs (second (is_ascii_uppercase x) _ h) i
  where
    second : (a b : Bool) → (a || b) ≡ false → b ≡ false
    second true b e = cc
    second false b e = e

encoded_small : (bytes : List ℕ) → has_capital (encode_lower bytes) ≡ false
unfolding encode_with
encoded_small [] = refl
encoded_small (b ∷ bytes) = rw (no_capital_at lower_digits refl (b / 16), no_capital_at lower_digits refl (b % 16)) (encoded_small bytes)

-- the digits that `hex` writes of a number's bytes are the number's
pub encoded_digits : (bytes : List ℕ) → IsBytes bytes → encode_lower bytes ≡ digits 16 (2 * length bytes) (number_from 0 bytes)
encoded_digits bytes are =
    let long : length (encode_lower bytes) ≡ 2 * length bytes = length-encode_with lower_digits bytes in
    let even : length (encode_lower bytes) % 2 ≡ 0 = rw long (omega arith) in
    let pairs : decode_pairs 0 (encode_lower bytes) ≡ Ok bytes = sym (decode_of-even (encode_lower bytes) even) ∙ decode_of-encode_lower bytes are in
    let reads : number_at 16 (length (encode_lower bytes)) 0 (encode_lower bytes ++ []) ≡ Some (number_from 0 bytes, []) =
    decoded_alike 0 0 (encode_lower bytes) [] even (encoded_small bytes) ∙ ap (decoded 0 []) pairs in
    let r : Reads 16 (length (encode_lower bytes)) 0 (encode_lower bytes ++ []) (number_from 0 bytes, []) = number_at-is 16 (length (encode_lower bytes)) 0 (encode_lower bytes ++ []) (number_from 0 bytes, []) reads in
    let value : number_from 0 bytes ≡ r.n = r.is ∙ omega arith in
    sym (append-nil (encode_lower bytes)) ∙ r.bytes_are ∙ append-nil _ ∙ ap (digits 16 (length (encode_lower bytes))) (sym value) ∙ ap (λ k. digits 16 k (number_from 0 bytes)) long

word_bytes : (n : ℕ) → IsBytes (to_be_bytes w16 n)
word_bytes n zero = omega arith
word_bytes n (suc zero) = omega arith
word_bytes n (suc (suc i)) = lit< tt

pub word_digits : (n : ℕ) → n < 2 ^ 16 → encode_lower (to_be_bytes w16 n) ≡ digits 16 4 n
word_digits n small = encoded_digits (to_be_bytes w16 n) (word_bytes n) ∙ ap (digits 16 4) (two_bytes (to_be_bytes w16 n) refl ∙ from_be_bytes-to_be_bytes_2 n small)

mask_bytes : (n : ℕ) → IsBytes (to_be_bytes w32 n)
mask_bytes n zero = omega arith
mask_bytes n (suc zero) = omega arith
mask_bytes n (suc (suc zero)) = omega arith
mask_bytes n (suc (suc (suc zero))) = omega arith
mask_bytes n (suc (suc (suc (suc i)))) = lit< tt

pub mask_digits : (n : ℕ) → n < 2 ^ 32 → encode_lower (to_be_bytes w32 n) ≡ digits 16 8 n
mask_digits n small = encoded_digits (to_be_bytes w32 n) (mask_bytes n) ∙ ap (digits 16 8) (four_bytes (to_be_bytes w32 n) refl ∙ from_be_bytes-to_be_bytes_4 n small)

-- ---- at the front of a text

parts : (width : ℕ) (bytes front rest : List ℕ) → front ≡ take width bytes → rest ≡ drop width bytes → bytes ≡ front ++ rest
parts width bytes front rest is_front is_rest = sym (rw (is_front, is_rest) (take-append-drop width bytes))

pub capital_here : (width : ℕ) (bytes front rest : List ℕ) → front ≡ take width bytes → rest ≡ drop width bytes → length front ≡ width → has_capital front ≡ true → number_at 16 width 0 bytes ≡ None
capital_here width bytes front rest is_front is_rest long capital =
    ap (number_at 16 width 0) (parts width bytes front rest is_front is_rest) ∙ ap (λ w. number_at 16 w 0 (front ++ rest)) (sym long) ∙ capital_read 0 front rest capital

-- what `hex` answers to the digits at the front
pub front_read : (room : ℕ) (bytes front rest : List ℕ) → front ≡ take (2 * room) bytes → rest ≡ drop (2 * room) bytes → length front ≡ 2 * room → has_capital front ≡ false
    → number_at 16 (2 * room) 0 bytes ≡ decoded 0 rest (decode_sized front room)
front_read room bytes front rest is_front is_rest long small =
    let even : length front % 2 ≡ 0 = rw long (omega arith) in
    ap (number_at 16 (2 * room) 0) (parts (2 * room) bytes front rest is_front is_rest) ∙ ap (λ w. number_at 16 w 0 (front ++ rest)) (sym long)
    ∙ decoded_alike 0 0 front rest even small ∙ sym (ap (decoded 0 rest) (decode_sized-twice front room long ∙ decode_of-even front even))

-- which bytes were decoded, or that none were
abbrev pub HexAnswers : Result (List ℕ) FromHexError → Result Unit FromHexError → List ℕ → Type 0
HexAnswers answer result out = MatchResult answer (λ bytes. (result ≡ Ok tt) × (out ≡ bytes)) (λ e. result ≡ Err e)

pub hex_ok : (answer : Result (List ℕ) FromHexError) (result : Result Unit FromHexError) (out : List ℕ) (u : Unit) → HexAnswers answer result out → result ≡ Ok u → answer ≡ Ok out
hex_ok (Ok bytes) result out u h e = ap Ok (sym h.1)
hex_ok (Err e) result out u h is = cc (h, is)

pub hex_err : (acc : ℕ) (rest : List ℕ) (answer : Result (List ℕ) FromHexError) (result : Result Unit FromHexError) (out : List ℕ) (e : FromHexError) → HexAnswers answer result out → result ≡ Err e → decoded acc rest answer ≡ None
hex_err acc rest (Ok bytes) result out e h is = cc (h.0, is)
hex_err acc rest (Err e') result out e h is = refl

-- an encoding into just enough room is written
pub written : (result : Result Unit FromHexError) (out text : List ℕ) → IsOk result → OnOk result (out ≡ text) → out ≡ text
written (Ok u) out text ok h = h
written (Err e) out text ok h = cc ok
