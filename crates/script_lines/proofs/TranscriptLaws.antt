-- Laws of the lines of a transcript: how long they are.
use Rattle.std.proofs.Common.{ℕ, ◌≡◌, ◌≤◌, ◌+◌, ◌*◌, ◌∙◌, List, [], ◌∷◌, length, length-append, refl, arith, flat_map, Bool, true, false}
use Rattle.hex.specs.Hex.{encode_with}
use Rattle.bus_word.specs.declared.word.Bus.{Bus}
use Rattle.bus_word.specs.declared.word.Bus.TheVariants.{A, B}
use Rattle.bus_word.specs.declared.word.Kind.{Kind}
use Rattle.bus_word.specs.declared.word.Kind.TheVariants.{Com, Dat}
use Rattle.bus_legal.specs.Description.{Description}
use Rattle.terminal_rules.specs.declared.event.Event.{Event}
use Rattle.terminal_rules.specs.declared.event.Event.TheVariants as event
use Rattle.terminal_rules.specs.Out.{Sending, Handing, HandsReceived, HandsSynchronize, HandsSynchronizeWith, HandsSelfTest, HandsBusControl, Out, Silence, SendsWord, HandsOver}
use Rattle.bus_terminal.specs.Answer.{words_handed, IsSmall}
use Rattle.script_lines.specs.Digits.{digits_of}
use Rattle.script_lines.specs.Transcript.{sent_text, word_field, received_by, received_text, hand_text, answer_text, text_at, may_be_answered}

pub four_digits : (word : ℕ) → length (digits_of word) ≡ 4
unfolding encode_with
four_digits word = refl

pub fields_length : (words : List ℕ) → length (flat_map word_field words) ≡ 5 * length words
fields_length [] = refl
fields_length (w ∷ words) = length-append (word_field w) (flat_map word_field words) ∙ omega (arith, four_digits w, fields_length words)

pub sent_length : (s : Sending) → length (sent_text s) ≡ 9
unfolding encode_with
sent_length s = on_bus s.bus s.kind
  where
    on_bus : (bus : Bus) (kind : Kind) → length (sent_text (record s { bus = bus; kind = kind })) ≡ 9
    on_bus A Com = refl
    on_bus A Dat = refl
    on_bus B Com = refl
    on_bus B Dat = refl

pub received_length : (broadcast : Bool) (subaddress : ℕ) (words : List ℕ) → length (received_text broadcast subaddress words) ≡ length (received_by broadcast) + (3 + 5 * length words)
received_length true subaddress words = omega (arith, length-append (flat_map word_field words) (10 ∷ []), fields_length words)
received_length false subaddress words = omega (arith, length-append (flat_map word_field words) (10 ∷ []), fields_length words)

received_most : (broadcast : Bool) (subaddress : ℕ) (words : List ℕ) → length (received_text broadcast subaddress words) ≤ 26 + 5 * length words
received_most true subaddress words = omega (arith, received_length true subaddress words)
received_most false subaddress words = omega (arith, received_length false subaddress words)

pub synchronize_length : (word : ℕ) → length (hand_text (HandsSynchronizeWith word)) ≡ 15
unfolding encode_with
synchronize_length word = refl

hand_most : (h : Handing) → length (hand_text h) ≤ 26 + 5 * length (words_handed h)
unfolding encode_with
hand_most (HandsReceived broadcast subaddress words) = received_most broadcast subaddress words
hand_most HandsSynchronize = omega arith
hand_most (HandsSynchronizeWith word) = omega arith
hand_most HandsSelfTest = omega arith
hand_most HandsBusControl = omega arith

-- a terminal's answer has room in a text of 186 bytes
pub small_text : (o : Out) → IsSmall o → length (answer_text o) ≤ 186
small_text Silence few = omega arith
small_text (SendsWord sending) few = omega (arith, sent_length sending)
small_text (HandsOver handing) few = omega (arith, hand_most handing)

-- what is neither gap nor slot is not answered
pub unanswered : (P : Description) (h : List Event) (e : Event) → may_be_answered e ≡ false → [] ≡ text_at P h e
unanswered P h (event.Word bus w) none = refl
unanswered P h (event.Noise bus) none = refl
unanswered P h (event.Gap bus) none = cc none
unanswered P h (event.Write place word) none = refl
unanswered P h (event.Vector word) none = refl
unanswered P h (event.Bit word) none = refl
unanswered P h (event.Flag f value) none = refl
unanswered P h event.Slot none = cc none
