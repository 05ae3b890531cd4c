-- Words in which the worked examples are written.
use Rattle.std.specs.Prelude.{◌≡◌, ℕ, Bool, true, false, not, ◌&&◌, ◌||◌, ◌==◌, List, [], ◌∷◌, ◌++◌}
use Rattle.bus_word.specs.declared.word.Kind.{Kind}
use Rattle.bus_word.specs.declared.word.Kind.TheVariants.{Com, Dat}
use Rattle.bus_word.specs.declared.word.Bus.{Bus}
use Rattle.bus_word.specs.declared.cell.Cell.{Cell}
use Rattle.bus_word.specs.declared.cell.Cell.TheVariants.{OwnReceive, OwnTransmit, BroadReceive, OwnMode, BroadMode}
use Rattle.bus_word.specs.Word.{valid_word}
use Rattle.bus_word.specs.Mode.{is_required_code}
use Rattle.bus_legal.specs.Description.{Description}
use Rattle.terminal_rules.specs.declared.event.Event.{Event}
use Rattle.terminal_rules.specs.declared.event.Event.TheVariants.{Word, Gap, Write, Slot}
use Rattle.terminal_rules.specs.Out.{Handing, Out, Silence, SendsWord, HandsOver, sending, outs}

-- both are the same cell
abbrev pub same_cell : Cell → Cell → Bool
same_cell (OwnReceive s n) (OwnReceive t m) = (s == t) && (n == m)
same_cell (OwnTransmit s n) (OwnTransmit t m) = (s == t) && (n == m)
same_cell (BroadReceive s n) (BroadReceive t m) = (s == t) && (n == m)
same_cell (OwnMode c) (OwnMode d) = c == d
same_cell (BroadMode c) (BroadMode d) = c == d
same_cell _ _ = false

-- the mode codes that are always legal, and these cells
abbrev pub legal_also : List Cell → Cell → Bool
legal_also [] (OwnMode code) = is_required_code code
legal_also [] _ = false
legal_also (c ∷ cs) cell = same_cell c cell || legal_also cs cell

-- address 5 with wraparound, nothing else set up, and these cells legal
abbrev pub five : List Cell → Description
five cells = record {
  address = 5;
  broadcast = false;
  wrap = 30;
  accept = false;
  vector = 0;
  bit = 0;
  initial = λ s i. 0;
  legal = legal_also cells;
}

-- the same with the broadcast option
abbrev pub five_hearing_all : List Cell → Description
five_hearing_all cells = record (five cells) { broadcast = true }

-- a valid word of command sync
abbrev pub command : Bus → ℕ → Event
command b bits = Word b (valid_word Com bits)

-- a valid word of data sync
abbrev pub data_word : Bus → ℕ → Event
data_word b bits = Word b (valid_word Dat bits)

-- a word of command sync whose parity is wrong
abbrev pub invalid : Bus → ℕ → Event
invalid b bits = Word b (record (valid_word Com bits) { parity = not (valid_word Com bits).parity })

-- a word of data sync whose parity is wrong
abbrev pub invalid_data : Bus → ℕ → Event
invalid_data b bits = Word b (record (valid_word Dat bits) { parity = not (valid_word Dat bits).parity })

-- the subsystem writes word i of subaddress s
abbrev pub write : ℕ → ℕ → ℕ → Event
write s i v = Write (record { subaddress = s; number = i }) v

-- an event, and what answers it
pub record Step : Type 0 where
  pub event : Event
  pub answer : Out

-- an event that isn't answered
abbrev pub unanswered : Event → Step
unanswered e = record { event = e; answer = Silence }

-- a slot, in which a word is sent
abbrev pub slot_sends : Bus → Kind → ℕ → Step
slot_sends b kind bits = record { event = Slot; answer = SendsWord (sending b kind bits) }

-- slots in which data words are sent
abbrev pub slots_send : Bus → List ℕ → List Step
slots_send b [] = []
slots_send b (d ∷ ds) = slot_sends b Dat d ∷ slots_send b ds

-- the slots of a whole reply: the status, and words after it
abbrev pub reply : Bus → ℕ → List ℕ → List Step
reply b status words = slot_sends b Com status ∷ slots_send b words

-- a gap, at which something is handed over, as one step
abbrev pub hands_at_gap : Bus → Handing → Step
hands_at_gap b handing = record { event = Gap b; answer = HandsOver handing }

-- data words, one behind another
abbrev pub data_run : Bus → List ℕ → List Step
data_run b [] = []
data_run b (d ∷ ds) = unanswered (data_word b d) ∷ data_run b ds

-- one line of an example: some events, with what answers each
abbrev pub quiet : Event → List Step
quiet e = unanswered e ∷ []

-- a gap that isn't answered
abbrev pub gap : Bus → List Step
gap b = quiet (Gap b)

-- a slot without a reply
abbrev pub idle_slot : List Step
idle_slot = quiet Slot

-- a slot in which a status word is sent
abbrev pub slot_status : Bus → ℕ → List Step
slot_status b status = slot_sends b Com status ∷ []

-- a slot in which a data word is sent
abbrev pub slot_word : Bus → ℕ → List Step
slot_word b word = slot_sends b Dat word ∷ []

-- a gap, and the slots in which a status and words are sent
abbrev pub gap_sends : Bus → ℕ → List ℕ → List Step
gap_sends b status words = unanswered (Gap b) ∷ reply b status words

-- a gap, at which something is handed over
abbrev pub gap_hands : Bus → Handing → List Step
gap_hands b handing = hands_at_gap b handing ∷ []

-- a gap, at which something is handed over, and the slot in which a status is sent
abbrev pub gap_sends_and_hands : Bus → ℕ → Handing → List Step
gap_sends_and_hands b status handing = hands_at_gap b handing ∷ reply b status []

-- the steps of all lines, in order
abbrev pub steps_of : List (List Step) → List Step
steps_of [] = []
steps_of (line ∷ lines) = line ++ steps_of lines

-- what the terminal is given
abbrev pub events_of : List Step → List Event
events_of [] = []
events_of (s ∷ steps) = s.event ∷ events_of steps

-- what it answers
abbrev pub answers_of : List Step → List Out
answers_of [] = []
answers_of (s ∷ steps) = s.answer ∷ answers_of steps

-- a terminal of this description answers these events, from power-up, just so
abbrev pub Answers : Description → List (List Step) → Type 0
Answers P lines = outs P (events_of (steps_of lines)) ≡ answers_of (steps_of lines)
