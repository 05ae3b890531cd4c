-- An event that was written as a line is read from it.
use Rattle.std.proofs.Common.{ℕ, zero, suc, lit<, Result, ◌≡◌, ◌<◌, ◌+◌, ◌/◌, ◌%◌, ◌^◌, ◌∙◌, Bool, true, false, if◌then◌else◌, [], ◌∷◌, ◌++◌, Option, Some, Ok, refl, ap, sym, arith}
use Rattle.std.proofs.lemmas.Bool.Decides.{nat_tests}
use Rattle.hex.specs.Hex.{IsBytes, encode_with}
use Rattle.hex.proofs.HexLemmas.{decode_of-encode_lower}
use Rattle.bus_word.specs.declared.word.Bus.{Bus}
use Rattle.bus_word.specs.declared.word.Bus.TheVariants.{A, B}
use Rattle.bus_word.specs.declared.word.Kind.{Kind}
use Rattle.bus_word.specs.declared.word.Kind.TheVariants.{Com, Dat}
use Rattle.bus_word.specs.declared.word.Raw.{Raw}
use Rattle.bus_word.specs.Word.{is_valid, valid_word}
use Rattle.bus_word.specs.Cell.{is_data_place}
use Rattle.terminal_rules.specs.Place.{Place}
use Rattle.terminal_rules.specs.Same.{IsProper}
use Rattle.bus_word.proofs.Parity.{valid_word_law}
use Rattle.terminal_rules.specs.declared.event.Event.{Event}
use Rattle.terminal_rules.specs.declared.event.Event.TheVariants as event
use Rattle.terminal_rules.specs.declared.event.Flag.{Flag}
use Rattle.terminal_rules.specs.declared.event.Flag.TheVariants.{Service, Busy, Subsystem, Terminal}
use Rattle.script_lines.specs.Digits.{word_of, word_of_bytes, digits_of, number_of}
use Rattle.line_format.specs.Front.{◌>>=◌}
use Rattle.script_lines.specs.Transcript.{bus_letter}
use Rattle.script_lines.specs.Line.{meaning, or_refused, place_at}
use Rattle.script_lines.specs.declared.line.LineFault.{LineFault}
use Rattle.script_lines.specs.EventLine.{event_text, kind_text, truth_field}

two_bytes : (high low : ℕ) → high < 256 → low < 256 → IsBytes (high ∷ low ∷ [])
two_bytes high low h l zero = h
two_bytes high low h l (suc zero) = l
two_bytes high low h l (suc (suc i)) = lit< tt

word_read : (word : ℕ) → word < 2 ^ 16 → word_of (digits_of word) ≡ Some word
word_read word small =
    ap word_of_bytes (decode_of-encode_lower (word / 256 ∷ word % 256 ∷ []) (two_bytes (word / 256) (word % 256) (omega arith) (omega arith)))
    ∙ ap Some (omega arith)

number_read : (n : ℕ) → n < 100 → number_of (48 + n / 10) (48 + n % 10) ≡ Some n
number_read n small = grind (arith, nat_tests)

-- ---- words on a bus

abbrev word_with : Bus → Kind → Option ℕ → Result (Option Event) LineFault
word_with bus kind bits = or_refused (bits >>= λ b. Some (event.Word bus (valid_word kind b)))

right_word_read : (bus : Bus) (kind : Kind) (bits : ℕ) → bits < 2 ^ 16
    → meaning (bus_letter bus ++ (kind_text kind ++ (digits_of bits ++ []))) ≡ Ok (Some (event.Word bus (valid_word kind bits)))
unfolding meaning encode_with
right_word_read A Com bits small = ap (word_with A Com) (word_read bits small)
right_word_read A Dat bits small = ap (word_with A Dat) (word_read bits small)
right_word_read B Com bits small = ap (word_with B Com) (word_read bits small)
right_word_read B Dat bits small = ap (word_with B Dat) (word_read bits small)

abbrev word_with_parity : Bus → Kind → Bool → Option ℕ → Result (Option Event) LineFault
word_with_parity bus kind parity bits = or_refused (bits >>= λ b. Some (event.Word bus (record { kind = kind; bits = b; parity = parity })))

wrong_word_read : (bus : Bus) (kind : Kind) (bits : ℕ) (parity : Bool) → bits < 2 ^ 16
    → meaning (bus_letter bus ++ (kind_text kind ++ (digits_of bits ++ truth_field parity))) ≡ Ok (Some (event.Word bus (record { kind = kind; bits = bits; parity = parity })))
unfolding meaning encode_with
wrong_word_read A Com bits true small = ap (word_with_parity A Com true) (word_read bits small)
wrong_word_read A Com bits false small = ap (word_with_parity A Com false) (word_read bits small)
wrong_word_read A Dat bits true small = ap (word_with_parity A Dat true) (word_read bits small)
wrong_word_read A Dat bits false small = ap (word_with_parity A Dat false) (word_read bits small)
wrong_word_read B Com bits true small = ap (word_with_parity B Com true) (word_read bits small)
wrong_word_read B Com bits false small = ap (word_with_parity B Com false) (word_read bits small)
wrong_word_read B Dat bits true small = ap (word_with_parity B Dat true) (word_read bits small)
wrong_word_read B Dat bits false small = ap (word_with_parity B Dat false) (word_read bits small)

word_on_bus_read : (bus : Bus) (w : Raw) (valid : Bool) → is_valid w ≡ valid → w.bits < 2 ^ 16
    → meaning (bus_letter bus ++ (kind_text w.kind ++ (digits_of w.bits ++ (if valid then [] else truth_field w.parity)))) ≡ Ok (Some (event.Word bus w))
word_on_bus_read bus w true e small = right_word_read bus w.kind w.bits small ∙ ap (λ x. Ok (Some (event.Word bus x))) (sym (valid_word_law w e))
word_on_bus_read bus w false e small = wrong_word_read bus w.kind w.bits w.parity small

noise_read : (bus : Bus) → meaning (event_text (event.Noise bus)) ≡ Ok (Some (event.Noise bus))
unfolding meaning
noise_read A = refl
noise_read B = refl

gap_read : (bus : Bus) → meaning (event_text (event.Gap bus)) ≡ Ok (Some (event.Gap bus))
unfolding meaning
gap_read A = refl
gap_read B = refl

-- ---- what the subsystem does

abbrev write_with : Option ℕ → Option ℕ → Option ℕ → Result (Option Event) LineFault
write_with s i bits = or_refused (s >>= λ subaddress. i >>= λ number. place_at subaddress number >>= λ place. bits >>= λ b. Some (event.Write place b))

abbrev write_there : Option Place → Option ℕ → Result (Option Event) LineFault
write_there place bits = or_refused (place >>= λ p. bits >>= λ b. Some (event.Write p b))

place_there : (place : Place) → is_data_place place.subaddress place.number ≡ true → place_at place.subaddress place.number ≡ Some place
place_there place e = rw e refl

write_read : (place : Place) (word : ℕ) → is_data_place place.subaddress place.number ≡ true → word < 2 ^ 16
    → meaning (event_text (event.Write place word)) ≡ Ok (Some (event.Write place word))
unfolding meaning encode_with
write_read place word there small =
    let subaddress : number_of (48 + place.subaddress / 10) (48 + place.subaddress % 10) ≡ Some place.subaddress = number_read place.subaddress (grind (arith, nat_tests, there)) in
    let number : number_of (48 + place.number / 10) (48 + place.number % 10) ≡ Some place.number = number_read place.number (grind (arith, nat_tests, there)) in
    ap (λ o. write_with o (number_of (48 + place.number / 10) (48 + place.number % 10)) (word_of (digits_of word))) subaddress
    ∙ ap (λ o. write_with (Some place.subaddress) o (word_of (digits_of word))) number
    ∙ ap (λ o. write_there o (word_of (digits_of word))) (place_there place there)
    ∙ ap (write_there (Some place)) (word_read word small)

vector_read : (word : ℕ) → word < 2 ^ 16 → meaning (event_text (event.Vector word)) ≡ Ok (Some (event.Vector word))
unfolding meaning encode_with
vector_read word small = ap (λ o. or_refused (o >>= λ bits. Some (event.Vector bits))) (word_read word small)

bit_read : (word : ℕ) → word < 2 ^ 16 → meaning (event_text (event.Bit word)) ≡ Ok (Some (event.Bit word))
unfolding meaning encode_with
bit_read word small = ap (λ o. or_refused (o >>= λ bits. Some (event.Bit bits))) (word_read word small)

flag_read : (f : Flag) (value : Bool) → meaning (event_text (event.Flag f value)) ≡ Ok (Some (event.Flag f value))
unfolding meaning
flag_read Service true = refl
flag_read Service false = refl
flag_read Busy true = refl
flag_read Busy false = refl
flag_read Subsystem true = refl
flag_read Subsystem false = refl
flag_read Terminal true = refl
flag_read Terminal false = refl

slot_read : meaning (event_text event.Slot) ≡ Ok (Some event.Slot)
unfolding meaning
slot_read = refl

pub event_read : (e : Event) → IsProper e → meaning (event_text e) ≡ Ok (Some e)
event_read (event.Word bus w) proper = word_on_bus_read bus w (is_valid w) refl proper
event_read (event.Noise bus) proper = noise_read bus
event_read (event.Gap bus) proper = gap_read bus
event_read (event.Write place word) proper = write_read place word proper.0 proper.1
event_read (event.Vector word) proper = vector_read word proper
event_read (event.Bit word) proper = bit_read word proper
event_read (event.Flag f value) proper = flag_read f value
event_read event.Slot proper = slot_read
