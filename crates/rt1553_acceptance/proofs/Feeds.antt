-- Lines have no line feed in them, and are short.
use Rattle.std.proofs.Common.{ℕ, ◌≡◌, ◌≢◌, ◌+◌, ◌≤◌, Bool, true, false, not, ◌&&◌, ◌==◌, nat_lt, nat_le, if◌then◌else◌, List, [], ◌∷◌, ◌++◌, Option, Some, None, length, codes, length-append, refl, arith}
use Rattle.std.specs.List.{list_all}
use Rattle.std.proofs.lemmas.Bool.Decides.{nat_tests}
use Rattle.bus_word.specs.declared.word.Bus.{Bus}
use Rattle.bus_word.specs.declared.word.Bus.TheVariants.{A, B}
use Rattle.bus_word.specs.declared.word.Kind.{Kind}
use Rattle.bus_word.specs.declared.word.Kind.TheVariants.{Com, Dat}
use Rattle.bus_word.specs.Word.{is_valid}
use Rattle.bus_word.specs.Cell.{cell_of}
use Rattle.bus_word.specs.Command.{transmits, subaddress_of, code_of, count_of, is_mode, is_broadcast}
use Rattle.bus_word.specs.Mode.{mode_name}
use Rattle.bus_legal.specs.Description.{Description}
use Rattle.terminal_rules.specs.declared.event.Event.{Event}
use Rattle.terminal_rules.specs.declared.event.Event.TheVariants as event
use Rattle.terminal_rules.specs.declared.event.Flag.{Flag}
use Rattle.terminal_rules.specs.declared.event.Flag.TheVariants.{Service, Busy, Subsystem, Terminal}
use Rattle.script_lines.specs.Digits.{digits_of, decimal_digits}
use Rattle.script_lines.specs.Text.{NoLineFeed}
use Rattle.script_lines.specs.Transcript.{bus_letter, sent_kind}
use Rattle.script_lines.specs.EventLine.{kind_text, truth_field, place_text, flag_name, event_text}
use Rattle.script_lines.proofs.TranscriptLaws.{four_digits}
use Rattle.message_names.specs.NameRow.{NameRow}
use Rattle.rt1553_acceptance.specs.Remark.{has_no_control, remark_with, name_asked, remark_of}
use Rattle.rt1553_acceptance.specs.Label.{small_decimal, data_asked, asked, is_legal_by, label_of}
use Rattle.rt1553_acceptance.proofs.Pieces.{feeds-append}
use Rattle.rt1553_acceptance.proofs.Digits.{feeds-digits, feeds-decimal}

abbrev pub has_no_feed : List ℕ → Bool
has_no_feed [] = true
has_no_feed (b ∷ bytes) = not (b == 10) && has_no_feed bytes

-- a text that is written out
pub feeds : (bytes : List ℕ) → has_no_feed bytes ≡ true → NoLineFeed bytes
feeds [] none = tt
feeds (b ∷ bytes) none = one (b == 10) (has_no_feed bytes) (λ e. grind (arith, nat_tests)) none (feeds bytes)
  where
    one : (feed rest : Bool) → (b ≡ 10 → feed ≡ true) → (not feed && rest) ≡ true → (rest ≡ true → NoLineFeed bytes) → (b ≢ 10) × NoLineFeed bytes
    one true rest same e later = absurd (cc)
    one false true same e later = (λ is. let no = same is in cc, later refl)
    one false false same e later = absurd (cc)

-- a line of its own: no line feed, and not over so many bytes
pub record IsLine (most : ℕ) (line : List ℕ) : Type 0 where
  pub feeds : NoLineFeed line
  pub short : length line ≤ most

pub literal : (line : List ℕ) → has_no_feed line ≡ true → IsLine (length line) line
literal line none = record { feeds = feeds line none; short = omega arith }

pub within : {few most : ℕ} {line : List ℕ} → few ≤ most → IsLine few line → IsLine most line
within low l = record { feeds = l.feeds; short = omega (arith, low, l.short) }

pub joined : {m n : ℕ} (xs ys : List ℕ) → IsLine m xs → IsLine n ys → IsLine (m + n) (xs ++ ys)
joined xs ys a b = record { feeds = feeds-append xs ys a.feeds b.feeds; short = omega (arith, length-append xs ys, a.short, b.short) }

pub either : {most : ℕ} (b : Bool) (x y : List ℕ) → IsLine most x → IsLine most y → IsLine most (if b then x else y)
either true x y p q = p
either false x y p q = q

pub digits-line : (word : ℕ) → IsLine 4 (digits_of word)
digits-line word = record { feeds = feeds-digits word; short = omega (arith, four_digits word) }

pub decimal_digits-line : (n : ℕ) → IsLine 2 (decimal_digits n)
decimal_digits-line n = record { feeds = feeds-decimal n; short = omega arith }

-- ---- labels

decimal-line : (n : ℕ) → IsLine 2 (small_decimal n)
decimal-line n = either (nat_lt n 10) _ _
    (record { feeds = (λ e. absurd (omega (arith, e)), tt); short = omega arith })
    (record { feeds = (λ e. absurd (omega (arith, e)), (λ e. absurd (omega (arith, e)), tt)); short = omega arith })

name-line : (code : ℕ) → IsLine 34 (mode_name code)
name-line code =
    either (code == 0) _ _ (within (omega arith) (literal _ refl)) (either (code == 1) _ _ (within (omega arith) (literal _ refl)) (either (code == 2) _ _ (within (omega arith) (literal _ refl))
    (either (code == 3) _ _ (within (omega arith) (literal _ refl)) (either (code == 4) _ _ (within (omega arith) (literal _ refl)) (either (code == 5) _ _ (within (omega arith) (literal _ refl))
    (either (code == 6) _ _ (within (omega arith) (literal _ refl)) (either (code == 7) _ _ (within (omega arith) (literal _ refl)) (either (code == 8) _ _ (within (omega arith) (literal _ refl))
    (either (code == 16) _ _ (within (omega arith) (literal _ refl)) (either (code == 17) _ _ (within (omega arith) (literal _ refl)) (either (code == 18) _ _ (within (omega arith) (literal _ refl))
    (either (code == 19) _ _ (within (omega arith) (literal _ refl)) (either (code == 20) _ _ (within (omega arith) (literal _ refl)) (either (code == 21) _ _ (within (omega arith) (literal _ refl)) (within (omega arith) (literal _ refl))))))))))))))))

data-line : (c : ℕ) → IsLine 34 (data_asked c)
data-line c = within (omega arith)
    (joined (if transmits c then codes "transmit " else codes "receive ") _ (either (transmits c) _ _ (within {most = 9} (omega arith) (literal _ refl)) (within (omega arith) (literal _ refl)))
    (joined (small_decimal (subaddress_of c)) _ (decimal-line (subaddress_of c))
    (joined (codes ", ") _ (literal _ refl)
    (joined (small_decimal (count_of c)) _ (decimal-line (count_of c)) (either (count_of c == 1) _ _ (within {most = 6} (omega arith) (literal _ refl)) (within (omega arith) (literal _ refl)))))))

-- a label has no line feed, and at most 53 bytes
label-line : (P : Description) (c : ℕ) → IsLine 53 (label_of P c)
label-line P c = within (omega arith)
    (joined (if is_broadcast c then codes "broadcast " else []) _ (either (is_broadcast c) _ _ (within {most = 10} (omega arith) (literal _ refl)) (within (omega arith) (literal _ refl)))
    (joined (asked c) _ (either (is_mode c) _ _ (name-line (code_of c)) (data-line c))
    (either (is_legal_by P (cell_of c)) _ _ (within {most = 9} (omega arith) (literal _ refl)) (within (omega arith) (literal _ refl)))))

-- ---- names behind labels

-- a text without control characters has no line feed
plain-feeds : (text : List ℕ) → has_no_control text ≡ true → NoLineFeed text
plain-feeds [] plain = tt
plain-feeds (b ∷ bs) plain = (plain-byte b (list_all (λ c. nat_le 32 c && not (c == 127)) bs) plain, plain-feeds bs (plain-rest b _ plain))
  where
    plain-byte : (b : ℕ) (more : Bool) → ((nat_le 32 b && not (b == 127)) && more) ≡ true → b ≢ 10
    plain-byte b more plain e = grind arith

    plain-rest : (b : ℕ) (more : Bool) → ((nat_le 32 b && not (b == 127)) && more) ≡ true → more ≡ true
    plain-rest b more plain = grind arith

-- a label with what stands behind it
remarked : (label : List ℕ) (name : Option (List ℕ)) → IsLine 53 label → IsLine 62 (label ++ remark_with label name)
remarked label None is = within (omega arith) (joined label [] is (literal [] refl))
remarked label (Some name) is = by_room (nat_le (length label + length name) 61) (has_no_control name) refl refl
  where
    by_room : (room plain : Bool) → nat_le (length label + length name) 61 ≡ room → has_no_control name ≡ plain → IsLine 62 (label ++ (if room && plain then 32 ∷ name else []))
    by_room true true room plain = record {
      feeds = feeds-append label (32 ∷ name) is.feeds ((λ e. absurd (omega (arith, e))), plain-feeds name plain);
      short = grind (arith, length-append);
    }
    by_room true false room plain = within (omega arith) (joined label [] is (literal [] refl))
    by_room false plain room e = within (omega arith) (joined label [] is (literal [] refl))

pub labelled-line : (rows : List NameRow) (P : Description) (c : ℕ) → IsLine 62 (label_of P c ++ remark_of rows (label_of P c) c)
labelled-line rows P c = remarked (label_of P c) (name_asked rows (cell_of c)) (label-line P c)

-- ---- events

pub letter-line : (bus : Bus) → IsLine 1 (bus_letter bus)
letter-line A = literal _ refl
letter-line B = literal _ refl

kind-line : (kind : Kind) → IsLine 3 (kind_text kind)
kind-line Com = literal _ refl
kind-line Dat = literal _ refl

pub sent_kind-line : (kind : Kind) → IsLine 3 (sent_kind kind)
sent_kind-line Com = literal _ refl
sent_kind-line Dat = literal _ refl

truth-line : (value : Bool) → IsLine 2 (truth_field value)
truth-line true = literal _ refl
truth-line false = literal _ refl

flag-line : (f : Flag) → IsLine 9 (flag_name f)
flag-line Service = within (omega arith) (literal _ refl)
flag-line Busy = within (omega arith) (literal _ refl)
flag-line Subsystem = within (omega arith) (literal _ refl)
flag-line Terminal = within (omega arith) (literal _ refl)

-- the line of an event has no line feed, and at most 64 bytes
pub event-line : (e : Event) → IsLine 64 (event_text e)
event-line (event.Word bus w) = within (omega arith)
    (joined (bus_letter bus) _ (letter-line bus) (joined (kind_text w.kind) _ (kind-line w.kind)
    (joined (digits_of w.bits) _ (digits-line w.bits) (either (is_valid w) _ _ (within (omega arith) (literal _ refl)) (truth-line w.parity)))))
event-line (event.Noise bus) = within (omega arith) (joined (bus_letter bus) _ (letter-line bus) (literal _ refl))
event-line (event.Gap bus) = within (omega arith) (joined (bus_letter bus) _ (letter-line bus) (literal _ refl))
event-line (event.Write place word) = within (omega arith)
    (joined (codes "write ") _ (literal _ refl) (joined (place_text place) _
    (joined (decimal_digits place.subaddress) _ (decimal_digits-line place.subaddress) (joined (codes " ") _ (literal _ refl) (decimal_digits-line place.number)))
    (joined (codes " ") _ (literal _ refl) (digits-line word))))
event-line (event.Vector word) = within (omega arith) (joined (codes "vector ") _ (literal _ refl) (digits-line word))
event-line (event.Bit word) = within (omega arith) (joined (codes "bit ") _ (literal _ refl) (digits-line word))
event-line (event.Flag f value) = within (omega arith) (joined (codes "flag ") _ (literal _ refl) (joined (flag_name f) _ (flag-line f) (truth-line value)))
event-line event.Slot = within (omega arith) (literal _ refl)
