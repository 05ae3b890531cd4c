-- The lines of events have no line feed in them, and are short.
use Rattle.std.proofs.Common.{ℕ, zero, suc, ◌≡◌, ◌≢◌, ◌∙◌, ◌+◌, ◌/◌, ◌%◌, ◌<◌, ◌≤◌, Bool, true, false, not, ◌&&◌, ◌==◌, nat_lt, if◌then◌else◌, Option, Some, None, List, [], ◌∷◌, ◌++◌, flat_map, slice_index, get_or, length, codes, length-append, refl, sym, ap, arith, ⊎_elim}
use Rattle.std.proofs.lemmas.Bool.{cases_lt}
use Rattle.std.proofs.lemmas.Bool.Decides.{nat_tests}
use Rattle.hex.specs.Hex.{lower_digits, encode_with, hex_digit_value}
use Rattle.hex.proofs.HexLemmas.{IsDigits-lower_digits}
use Rattle.bus_word.specs.declared.word.Bus.{Bus}
use Rattle.bus_word.specs.declared.word.Bus.TheVariants.{A, B}
use Rattle.bus_word.specs.declared.word.Kind.{Kind}
use Rattle.bus_word.specs.declared.word.Kind.TheVariants.{Com, Dat}
use Rattle.bus_word.specs.Word.{is_valid}
use Rattle.bus_word.specs.Command.{count_in}
use Rattle.terminal_rules.specs.declared.event.Event.{Event}
use Rattle.terminal_rules.specs.declared.event.Event.TheVariants as event
use Rattle.terminal_rules.specs.declared.event.Flag.{Flag}
use Rattle.terminal_rules.specs.declared.event.Flag.TheVariants.{Service, Busy, Subsystem, Terminal}
use Rattle.script_lines.specs.Digits.{digits_of, decimal_digits}
use Rattle.script_lines.specs.Text.{NoLineFeed}
use Rattle.script_lines.specs.Transcript.{bus_letter}
use Rattle.script_lines.specs.EventLine.{kind_text, truth_field, place_text, flag_name, event_text}
use Rattle.script_lines.proofs.TranscriptLaws.{four_digits}
use Rattle.rt1553_tool.specs.declared.fields.CommandFields.{CommandFields}
use Rattle.rt1553_tool.specs.WordTexts.{short_decimal, address_text, tr_text, mode_text, transfer_text, asks_mode, command_text}
use Rattle.rt1553_expand.specs.Gathered.{CommandMessage, from_text, spaced_word, data_words_text, listed_line}

feeds-append : (xs ys : List ℕ) → NoLineFeed xs → NoLineFeed ys → NoLineFeed (xs ++ ys)
feeds-append [] ys p q = q
feeds-append (b ∷ xs) ys p q = (p.0, feeds-append xs ys p.1 q)

-- beyond the table there is no digit
beyond : (xs : List ℕ) (i : ℕ) → length xs ≤ i → get_or xs i 0 ≡ 0
beyond [] i high = refl
beyond (x ∷ xs) zero high = absurd (omega (arith, high))
beyond (x ∷ xs) (suc i) high = beyond xs i (omega (arith, high))

-- no place of the table has a byte that is no digit
pub no_byte : (c : ℕ) → hex_digit_value c ≡ None → 0 ≢ c → (i : ℕ) → slice_index lower_digits i ≢ c
no_byte c none other i same = ⊎_elim within beyond_table (cases_lt i 16)
  where
    within : i < 16 → ⊥
    within small = let e = sym (IsDigits-lower_digits i small) ∙ ap hex_digit_value same ∙ none in cc

    beyond_table : 16 ≤ i → ⊥
    beyond_table high = other (sym (beyond lower_digits i high) ∙ same)

no_feed : (i : ℕ) → slice_index lower_digits i ≢ 10
no_feed i = no_byte 10 refl (λ e. absurd (omega (arith, e))) i

feeds-digits : (word : ℕ) → NoLineFeed (digits_of word)
unfolding encode_with
feeds-digits word = (no_feed (word / 256 / 16), (no_feed (word / 256 % 16), (no_feed (word % 256 / 16), (no_feed (word % 256 % 16), tt))))

feeds-decimal : (n : ℕ) → NoLineFeed (decimal_digits n)
feeds-decimal n = (λ e. absurd (omega (arith, e)), (λ e. absurd (omega (arith, e)), tt))

abbrev has_no_feed : List ℕ → Bool
has_no_feed [] = true
has_no_feed (b ∷ bytes) = not (b == 10) && has_no_feed bytes

-- a text that is written out
feeds : (bytes : List ℕ) → has_no_feed bytes ≡ true → NoLineFeed bytes
feeds [] none = tt
feeds (b ∷ bytes) none = one (b == 10) (has_no_feed bytes) (λ e. grind (arith, nat_tests)) none (feeds bytes)
  where
    one : (feed rest : Bool) → (b ≡ 10 → feed ≡ true) → (not feed && rest) ≡ true → (rest ≡ true → NoLineFeed bytes) → (b ≢ 10) × NoLineFeed bytes
    one true rest same e later = absurd (cc)
    one false true same e later = (λ is. let no = same is in cc, later refl)
    one false false same e later = absurd (cc)

-- a line of its own: no line feed, and not over so many bytes
pub record IsLine (most : ℕ) (line : List ℕ) : Type 0 where
  pub feeds : NoLineFeed line
  pub short : length line ≤ most

literal : (line : List ℕ) → has_no_feed line ≡ true → IsLine (length line) line
literal line none = record { feeds = feeds line none; short = omega arith }

within : {few most : ℕ} {line : List ℕ} → few ≤ most → IsLine few line → IsLine most line
within low l = record { feeds = l.feeds; short = omega (arith, low, l.short) }

joined : {m n : ℕ} (xs ys : List ℕ) → IsLine m xs → IsLine n ys → IsLine (m + n) (xs ++ ys)
joined xs ys a b = record { feeds = feeds-append xs ys a.feeds b.feeds; short = omega (arith, length-append xs ys, a.short, b.short) }

either : {most : ℕ} (b : Bool) (x y : List ℕ) → IsLine most x → IsLine most y → IsLine most (if b then x else y)
either true x y p q = p
either false x y p q = q

digits-line : (word : ℕ) → IsLine 4 (digits_of word)
digits-line word = record { feeds = feeds-digits word; short = omega (arith, four_digits word) }

decimal_digits-line : (n : ℕ) → IsLine 2 (decimal_digits n)
decimal_digits-line n = record { feeds = feeds-decimal n; short = omega arith }

letter-line : (bus : Bus) → IsLine 1 (bus_letter bus)
letter-line A = literal _ refl
letter-line B = literal _ refl

kind-line : (kind : Kind) → IsLine 3 (kind_text kind)
kind-line Com = literal _ refl
kind-line Dat = literal _ refl

truth-line : (value : Bool) → IsLine 2 (truth_field value)
truth-line true = literal _ refl
truth-line false = literal _ refl

flag-line : (f : Flag) → IsLine 9 (flag_name f)
flag-line Service = within (omega arith) (literal _ refl)
flag-line Busy = within (omega arith) (literal _ refl)
flag-line Subsystem = within (omega arith) (literal _ refl)
flag-line Terminal = within (omega arith) (literal _ refl)

-- the line of an event has no line feed, and at most 64 bytes
pub event-line : (e : Event) → IsLine 64 (event_text e)
event-line (event.Word bus w) = within (omega arith)
    (joined (bus_letter bus) _ (letter-line bus) (joined (kind_text w.kind) _ (kind-line w.kind)
    (joined (digits_of w.bits) _ (digits-line w.bits) (either (is_valid w) _ _ (within (omega arith) (literal _ refl)) (truth-line w.parity)))))
event-line (event.Noise bus) = within (omega arith) (joined (bus_letter bus) _ (letter-line bus) (literal _ refl))
event-line (event.Gap bus) = within (omega arith) (joined (bus_letter bus) _ (letter-line bus) (literal _ refl))
event-line (event.Write place word) = within (omega arith)
    (joined (codes "write ") _ (literal _ refl) (joined (place_text place) _
    (joined (decimal_digits place.subaddress) _ (decimal_digits-line place.subaddress) (joined (codes " ") _ (literal _ refl) (decimal_digits-line place.number)))
    (joined (codes " ") _ (literal _ refl) (digits-line word))))
event-line (event.Vector word) = within (omega arith) (joined (codes "vector ") _ (literal _ refl) (digits-line word))
event-line (event.Bit word) = within (omega arith) (joined (codes "bit ") _ (literal _ refl) (digits-line word))
event-line (event.Flag f value) = within (omega arith) (joined (codes "flag ") _ (literal _ refl) (joined (flag_name f) _ (flag-line f) (truth-line value)))
event-line event.Slot = within (omega arith) (literal _ refl)

-- ---- messages

feeds-if : (b : Bool) (x y : List ℕ) → NoLineFeed x → NoLineFeed y → NoLineFeed (if b then x else y)
feeds-if true x y p q = p
feeds-if false x y p q = q

feeds-short : (n : ℕ) → NoLineFeed (short_decimal n)
feeds-short n = feeds-if (nat_lt n 10) ((48 + n) ∷ []) ((48 + n / 10) ∷ (48 + n % 10) ∷ [])
    (λ e. absurd (omega (arith, e)), tt) (λ e. absurd (omega (arith, e)), (λ e. absurd (omega (arith, e)), tt))

feeds-address : (n : ℕ) → NoLineFeed (address_text n)
feeds-address n = feeds-if (n == 31) (codes "all") (short_decimal n) (feeds (codes "all") refl) (feeds-short n)

feeds-direction : (transmit : Bool) → NoLineFeed (tr_text transmit)
feeds-direction true = feeds (codes "tx") refl
feeds-direction false = feeds (codes "rx") refl

space-then : (xs : List ℕ) → NoLineFeed xs → NoLineFeed (codes " " ++ xs)
space-then xs p = feeds-append (codes " ") xs (feeds (codes " ") refl) p

feeds-mode : (f : CommandFields) → NoLineFeed (mode_text f)
feeds-mode f =
    feeds-append (codes "mode ") _ (feeds (codes "mode ") refl) (feeds-append (address_text f.address) _ (feeds-address f.address)
    (space-then _ (feeds-append (short_decimal f.low) _ (feeds-short f.low) (space-then _ (feeds-append (tr_text f.transmit) _ (feeds-direction f.transmit)
    (feeds-if (f.subaddress == 31) (codes " 31") [] (feeds (codes " 31") refl) tt))))))

feeds-transfer : (f : CommandFields) → NoLineFeed (transfer_text f)
feeds-transfer f =
    feeds-append (tr_text f.transmit) _ (feeds-direction f.transmit) (space-then _ (feeds-append (address_text f.address) _ (feeds-address f.address)
    (space-then _ (feeds-append (short_decimal f.subaddress) _ (feeds-short f.subaddress) (space-then _ (feeds-short (count_in f.low)))))))

feeds-from : (sender : Option CommandFields) → NoLineFeed (from_text sender)
feeds-from None = tt
feeds-from (Some f) =
    feeds-append (codes " from ") _ (feeds (codes " from ") refl) (feeds-append (address_text f.address) _ (feeds-address f.address) (space-then _ (feeds-short f.subaddress)))

feeds-each : (words : List ℕ) → NoLineFeed (flat_map spaced_word words)
feeds-each [] = tt
feeds-each (word ∷ words) = feeds-append (spaced_word word) (flat_map spaced_word words) (space-then _ (feeds-digits word)) (feeds-each words)

feeds-words : (words : List ℕ) → NoLineFeed (data_words_text words)
feeds-words [] = tt
feeds-words (word ∷ words) = feeds-append (codes ":") (flat_map spaced_word (word ∷ words)) (feeds (codes ":") refl) (feeds-each (word ∷ words))

-- the line of a message has no line feed
pub message-feeds : (bus : Bus) (m : CommandMessage) → NoLineFeed (listed_line bus m)
message-feeds bus m =
    let letter : NoLineFeed (bus_letter bus) = (letter-line bus).feeds in
    feeds-append (bus_letter bus) _ letter (space-then _ (feeds-append (command_text m.command) _ (feeds-if (asks_mode m.command) _ _ (feeds-mode m.command) (feeds-transfer m.command))
    (feeds-append (from_text m.sender) _ (feeds-from m.sender) (feeds-words m.words))))
