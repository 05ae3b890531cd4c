-- What a terminal answers can be stated of it.
use Rattle.std.proofs.Common.{ℕ, zero, suc, ◌≡◌, ◌+◌, ◌*◌, ◌/◌, ◌%◌, ◌≤◌, ◌<◌, ◌^◌, Bool, true, false, not, ◌&&◌, ◌||◌, ◌==◌, if◌then◌else◌, nat_le, List, [], ◌∷◌, ◌++◌, Some, None, slice_index, length, flat_map, refl, sym, ap, arith, codes, All}
use Rattle.std.specs.List.{list_all}
use Rattle.std.proofs.lemmas.Bool.{and_parts}
use Rattle.std.proofs.lemmas.Bool.Decides.{nat_tests}
use Rattle.hex.specs.Hex.{lower_digits, encode_with}
use Rattle.bus_word.specs.declared.word.Bus.{Bus}
use Rattle.bus_word.specs.declared.word.Bus.TheVariants.{A, B}
use Rattle.bus_word.specs.declared.word.Kind.{Kind}
use Rattle.bus_word.specs.declared.word.Kind.TheVariants.{Com, Dat}
use Rattle.terminal_rules.specs.Out.{HandsReceived, HandsSynchronize, HandsSynchronizeWith, HandsSelfTest, HandsBusControl, Out, Silence, SendsWord, HandsOver}
use Rattle.script_lines.specs.Digits.{digits_of, decimal_digits}
use Rattle.script_lines.specs.Transcript.{bus_letter, sent_kind, sent_text, word_field, received_by, answer_text}
use Rattle.script_lines.proofs.TranscriptLaws.{fields_length}
use Rattle.rt1553_verify.specs.declared.matching.Matching.TheVariants.{Exact}
use Rattle.rt1553_verify.specs.Stated.{is_digit, is_empty, may_be_word, may_be_subaddress, behind_field, may_be_fields, may_be_received, can_be_given, with_line_feed}
use Rattle.rt1553_verify.specs.Possible.{IsProperAnswer, AnswersCanBeStated}

-- ---- the line of an answer, without its line feed

abbrev pub answer_line : Out → List ℕ
answer_line Silence = []
answer_line (SendsWord s) = bus_letter s.bus ++ (sent_kind s.kind ++ digits_of s.bits)
answer_line (HandsOver (HandsReceived broadcast subaddress words)) = (received_by broadcast ++ decimal_digits subaddress) ++ flat_map word_field words
answer_line (HandsOver HandsSynchronize) = codes "hand sync"
answer_line (HandsOver (HandsSynchronizeWith word)) = codes "hand sync " ++ digits_of word
answer_line (HandsOver HandsSelfTest) = codes "hand self-test"
answer_line (HandsOver HandsBusControl) = codes "hand bus-control"

pub line-text : (o : Out) → with_line_feed (answer_line o) ≡ answer_text o
line-text Silence = refl
line-text (SendsWord s) = on_bus s.bus s.kind
  where
    on_bus : (bus : Bus) (kind : Kind) → with_line_feed (bus_letter bus ++ (sent_kind kind ++ digits_of s.bits)) ≡ sent_text (record s { bus = bus; kind = kind })
    on_bus A Com = refl
    on_bus A Dat = refl
    on_bus B Com = refl
    on_bus B Dat = refl
line-text (HandsOver (HandsReceived true subaddress words)) = refl
line-text (HandsOver (HandsReceived false subaddress words)) = refl
line-text (HandsOver HandsSynchronize) = refl
line-text (HandsOver (HandsSynchronizeWith word)) = refl
line-text (HandsOver HandsSelfTest) = refl
line-text (HandsOver HandsBusControl) = refl

-- ---- digits

digit_at : (xs : List ℕ) → list_all is_digit xs ≡ true → (i : ℕ) → i < length xs → is_digit (slice_index xs i) ≡ true
digit_at [] all i low = absurd (omega (arith, low))
digit_at (x ∷ xs) all zero low = (and_parts (is_digit x) (list_all is_digit xs) all).0
digit_at (x ∷ xs) all (suc i) low = digit_at xs (and_parts (is_digit x) (list_all is_digit xs) all).1 i (omega (arith, low))

digit : (i : ℕ) → i < 16 → is_digit (slice_index lower_digits i) ≡ true
digit i low = digit_at lower_digits refl i low

pub word-possible : (word : ℕ) → word < 2 ^ 16 → may_be_word false (digits_of word) ≡ true
unfolding encode_with
word-possible word small =
    let first = digit (word / 256 / 16) (omega (arith, small)) in
    let second = digit (word / 256 % 16) (omega arith) in
    let third = digit (word % 256 / 16) (omega arith) in
    let fourth = digit (word % 256 % 16) (omega arith) in (λ j. first j && (second j && (third j && fourth j)))

fields-possible : (words : List ℕ) → All (λ w. w < 2 ^ 16) words → may_be_fields false (flat_map word_field words) ≡ true
unfolding encode_with
fields-possible [] small = refl
fields-possible (w ∷ words) small = let first = word-possible w (small 0 0 (omega arith)) in let rest = fields-possible words (λ k d low. small (suc k) d (omega (arith, low))) in (λ j. first j && rest j)

-- a field stands first
pub fields-next : (masked : Bool) (fields rest : List ℕ) → behind_field masked fields ≡ Some rest → may_be_fields masked fields ≡ may_be_fields masked rest
fields-next masked [] rest is = absurd (cc)
fields-next masked (s ∷ []) rest is = absurd (cc)
fields-next masked (s ∷ a ∷ []) rest is = absurd (cc)
fields-next masked (s ∷ a ∷ b ∷ []) rest is = absurd (cc)
fields-next masked (s ∷ a ∷ b ∷ c ∷ []) rest is = absurd (cc)
fields-next masked (s ∷ a ∷ b ∷ c ∷ d ∷ more) rest is = by_tests (s == 32) (may_be_word masked (a ∷ b ∷ c ∷ d ∷ [])) is
  where
    by_tests : (p q : Bool) → (if p && q then Some more else None) ≡ Some rest → (p && (q && may_be_fields masked more)) ≡ may_be_fields masked rest
    by_tests true true is = let same : more ≡ rest = cc in ap (may_be_fields masked) same
    by_tests true false is = absurd (cc)
    by_tests false q is = absurd (cc)

-- or none does
pub fields-end : (masked : Bool) (fields : List ℕ) → is_empty fields ≡ false → behind_field masked fields ≡ None → may_be_fields masked fields ≡ false
fields-end masked [] some is = absurd (cc)
fields-end masked (s ∷ []) some is = refl
fields-end masked (s ∷ a ∷ []) some is = refl
fields-end masked (s ∷ a ∷ b ∷ []) some is = refl
fields-end masked (s ∷ a ∷ b ∷ c ∷ []) some is = refl
fields-end masked (s ∷ a ∷ b ∷ c ∷ d ∷ more) some is = by_tests (s == 32) (may_be_word masked (a ∷ b ∷ c ∷ d ∷ [])) is
  where
    by_tests : (p q : Bool) → (if p && q then Some more else None) ≡ None → (p && (q && may_be_fields masked more)) ≡ false
    by_tests true true is = absurd (cc)
    by_tests true false is = refl
    by_tests false q is = refl

by_digits : (tens ones : ℕ) → tens ≤ 3 → ones ≤ 9 → 1 ≤ 10 * tens + ones → 10 * tens + ones ≤ 30 → may_be_subaddress false (48 + tens) (48 + ones) ≡ true
by_digits tens ones few low some high = grind (arith, nat_tests)

subaddress-possible : (s : ℕ) → 1 ≤ s → s ≤ 30 → may_be_subaddress false (48 + s / 10) (48 + s % 10) ≡ true
subaddress-possible s some high = by_digits (s / 10) (s % 10) (omega (arith, high)) (omega arith) (omega (arith, some)) (omega (arith, high))

some-fields : (words : List ℕ) → 1 ≤ length words → not (is_empty (flat_map word_field words)) ≡ true
some-fields [] some = absurd (omega (arith, some))
some-fields (w ∷ words) some = refl

received-possible : (s : ℕ) (words : List ℕ) → 1 ≤ s → s ≤ 30 → 1 ≤ length words → length words ≤ 32 → All (λ w. w < 2 ^ 16) words
    → may_be_received false (decimal_digits s ++ flat_map word_field words) ≡ true
received-possible s words low high some few small =
    let place = subaddress-possible s low high in
    let any = some-fields words some in
    let short : nat_le (length (flat_map word_field words)) 160 ≡ true = grind (arith, nat_tests, fields_length words) in
    let fields = fields-possible words small in (λ j. place j && (any j && (short j && fields j)))

-- ---- answers

pub answer-possible : (o : Out) → IsProperAnswer o → can_be_given Exact (answer_line o) ≡ true
answer-possible Silence proper = refl
answer-possible (SendsWord s) proper = on_bus s.bus s.kind
  where
    word : may_be_word false (digits_of s.bits) ≡ true
    word = word-possible s.bits proper

    on_bus : (bus : Bus) (kind : Kind) → can_be_given Exact (bus_letter bus ++ (sent_kind kind ++ digits_of s.bits)) ≡ true
    on_bus A Com = ap (λ b. (b || false) || false) word
    on_bus A Dat = ap (λ b. (b || false) || false) word
    on_bus B Com = ap (λ b. (b || false) || false) word
    on_bus B Dat = ap (λ b. b || false) word
answer-possible (HandsOver (HandsReceived true s words)) (low, high, some, few, small) = ap (λ b. b || false) (received-possible s words low high some few small)
answer-possible (HandsOver (HandsReceived false s words)) (low, high, some, few, small) = ap (λ b. b || false) (received-possible s words low high some few small)
answer-possible (HandsOver HandsSynchronize) proper = refl
answer-possible (HandsOver (HandsSynchronizeWith word)) proper = ap (λ b. b || false) (word-possible word proper)
answer-possible (HandsOver HandsSelfTest) proper = refl
answer-possible (HandsOver HandsBusControl) proper = refl

pub answers_can_be_stated : AnswersCanBeStated
answers_can_be_stated o proper = (answer_line o, sym (line-text o), answer-possible o proper)
