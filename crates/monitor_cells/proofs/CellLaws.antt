-- Laws of the cells of a table: names, and times.
use Rattle.std.proofs.Common.{ℕ, ◌≡◌, ◌<◌, ◌+◌, Bool, true, false, ◌&&◌, Option, Some, None, option_map, Bor, ◌==◌, if◌then◌else◌, append_assoc, List, [], ◌∷◌, ◌++◌, length, drop, get_or, map, refl, sym, ap, ◌∙◌, arith, ◌↔◌, IsTrue}
use Rattle.std.specs.Char.{to_ascii_lowercase}
use Rattle.std.specs.List.{list_all}
use Rattle.std.specs.Str.{IsUtf8, IsAscii}
use Rattle.std.specs.Str.Parse.{IsNumeral}
use Rattle.std.proofs.lemmas.Bool.Decides.{nat_tests, same_from_decides}
use Rattle.std.proofs.lemmas.Slice.Eq.{bytes_eq-Decides}
use Rattle.std.proofs.lemmas.Fmt.{IsAscii-from_digits}
use Rattle.std.proofs.lemmas.Str.{IsUtf8-from_ascii}
use Rattle.std.proofs.lemmas.Str.Ascii.{IsAscii-nil, IsAscii-cons}
use Rattle.std.proofs.lemmas.List.{at_drop_more}
use Rattle.monitor_cells.specs.Cells.{is_time_byte, is_time_text, is_headed, word_said, word_ahead, words_of, is_some_text}

pub numeral_is_text : (bs : List ℕ) → IsNumeral 10 bs → IsUtf8 bs
numeral_is_text bs is = IsUtf8-from_ascii bs (IsAscii-from_digits bs is.1)

pub headed : (text name : List ℕ) (r : Bool) → (IsTrue r ↔ (map to_ascii_lowercase text ≡ map to_ascii_lowercase name)) → r ≡ is_headed name text
headed text name r h = same_from_decides r (is_headed name text) h (bytes_eq-Decides (map to_ascii_lowercase text) (map to_ascii_lowercase name))

-- a byte of a time is ASCII
time_byte : (b : ℕ) (more : Bool) → (is_time_byte b && more) ≡ true → b < 128
time_byte b more e = grind (arith, nat_tests)

time_rest : (b : ℕ) (more : Bool) → (is_time_byte b && more) ≡ true → more ≡ true
time_rest b more e = grind (arith, nat_tests)

time_ascii : (text : List ℕ) → list_all is_time_byte text ≡ true → IsAscii text
time_ascii [] e = IsAscii-nil
time_ascii (b ∷ bs) e = IsAscii-cons b bs (time_byte b _ e) (time_ascii bs (time_rest b _ e))

pub time_is_text : (text : List ℕ) → is_time_text text ≡ true → IsUtf8 text
time_is_text text e = let all : list_all is_time_byte text ≡ true = grind (arith, nat_tests) in IsUtf8-from_ascii text (time_ascii text all)

-- words that were read, before those that are left
abbrev pub behind : List ℕ → Option (List ℕ) → Option (List ℕ)
behind words o = option_map (λ more. words ++ more) o

abbrev pub left : List (Bor (List ℕ)) → Option (List ℕ)
left parts = words_of (map (λ part. part.now) parts)

some_text : (text : List ℕ) → (length text == 0) ≡ false → is_some_text text ≡ true
some_text [] e = cc e
some_text (b ∷ bs) e = refl

-- a word more was read
pub word_more : (words : List ℕ) (parts : List (Bor (List ℕ))) (i : ℕ) (d : Bor (List ℕ)) (word : ℕ) (all : Option (List ℕ)) → i < length parts
    → (length (get_or parts i d).now == 0) ≡ false → Some word ≡ word_said (get_or parts i d).now → behind words (left (drop i parts)) ≡ all → behind (words ++ word ∷ []) (left (drop (i + 1) parts)) ≡ all
word_more words parts i d word all within some is so_far =
    let text : List ℕ = (get_or parts i d).now in
    let more : Option (List ℕ) = left (drop (i + 1) parts) in
    let first : left (drop i parts) ≡ word_ahead (Some word) more =
    at_drop_more left parts i d within
    ∙ ap (λ b. if b then word_ahead (word_said text) more else more) (some_text text some)
    ∙ ap (λ w. word_ahead w more) (sym is) in
    by more ∙ ap (behind words) (sym first) ∙ so_far
  where
    by : (more : Option (List ℕ)) → behind (words ++ word ∷ []) more ≡ behind words (word_ahead (Some word) more)
    by None = refl
    by (Some more) = ap Some (append_assoc words (word ∷ []) more)
