-- What is written for the events of a script.
use Rattle.std.specs.Prelude.{ℕ, Bool, true, false, if◌then◌else◌, List, [], ◌∷◌, ◌++◌, codes}
use Rattle.std.specs.List.{flat_map}
use Rattle.bus_word.specs.declared.word.Bus.{Bus}
use Rattle.bus_word.specs.declared.word.Bus.TheVariants.{A, B}
use Rattle.bus_word.specs.declared.word.Kind.{Kind}
use Rattle.bus_word.specs.declared.word.Kind.TheVariants.{Com, Dat}
use Rattle.bus_legal.specs.Description.{Description}
use Rattle.terminal_rules.specs.declared.event.Event.{Event}
use Rattle.terminal_rules.specs.declared.event.Event.TheVariants.{Gap, Slot}
use Rattle.terminal_rules.specs.Out.{Sending, sending, Handing, HandsReceived, HandsSynchronize, HandsSynchronizeWith, HandsSelfTest, HandsBusControl, Out, Silence, SendsWord, HandsOver, out}
use Rattle.script_lines.specs.Digits.{digits_of, decimal_digits}

-- the letter by which scripts and transcripts name a bus
abbrev pub bus_letter : Bus → List ℕ
bus_letter A = codes "A"
bus_letter B = codes "B"

-- a status word has command sync
abbrev pub sent_kind : Kind → List ℕ
sent_kind Com = codes " s "
sent_kind Dat = codes " d "

-- the line of a word that was sent
abbrev pub sent_text : Sending → List ℕ
sent_text s = bus_letter s.bus ++ (sent_kind s.kind ++ (digits_of s.bits ++ codes "\n"))

-- the line of a data word that was sent on this bus
abbrev pub data_text : Bus → ℕ → List ℕ
data_text b word = sent_text (sending b Dat word)

-- a word as a field of a line
abbrev pub word_field : ℕ → List ℕ
word_field word = 32 ∷ digits_of word

-- the beginning of the line: whether the words came by broadcast or to the own address
abbrev pub received_by : Bool → List ℕ
received_by broadcast = if broadcast then codes "hand receive broadcast " else codes "hand receive own "

-- the line of data words that were received
abbrev pub received_text : Bool → ℕ → List ℕ → List ℕ
received_text broadcast subaddress words = received_by broadcast ++ (decimal_digits subaddress ++ (flat_map word_field words ++ codes "\n"))

-- the line of what was handed over
abbrev pub hand_text : Handing → List ℕ
hand_text (HandsReceived broadcast subaddress words) = received_text broadcast subaddress words
hand_text HandsSynchronize = codes "hand sync\n"
hand_text (HandsSynchronizeWith word) = codes "hand sync " ++ (digits_of word ++ codes "\n")
hand_text HandsSelfTest = codes "hand self-test\n"
hand_text HandsBusControl = codes "hand bus-control\n"

-- the line of an answer, or none
abbrev pub answer_text : Out → List ℕ
answer_text Silence = []
answer_text (SendsWord sending) = sent_text sending
answer_text (HandsOver handing) = hand_text handing

-- what is written at an event that follows a history
abbrev pub text_at : Description → List Event → Event → List ℕ
text_at P h e = answer_text (out P h e)

-- only a gap and a slot are answered
abbrev pub may_be_answered : Event → Bool
may_be_answered (Gap bus) = true
may_be_answered Slot = true
may_be_answered _ = false

-- what is written for these events, from a history on, where `text` is what is written at each
unfoldable pub transcript : (List Event → Event → List ℕ) → List Event → List Event → List ℕ
transcript text h [] = []
transcript text h (e ∷ es) = text h e ++ transcript text (e ∷ h) es
