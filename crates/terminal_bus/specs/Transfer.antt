-- A transfer between two terminals of a bus (MIL-STD-1553B, 4.3.3.6.3).
use Rattle.std.specs.Prelude.{◌≡◌, ◌≢◌, ℕ, zero, suc, Bool, true, false, ◌⊎◌, Option, Some, None, List, [], ◌∷◌, map}
use Rattle.bus_word.specs.declared.word.Bus.{Bus}
use Rattle.bus_word.specs.declared.word.Kind.TheVariants.{Com, Dat}
use Rattle.bus_word.specs.declared.cell.Cell.{Cell}
use Rattle.bus_word.specs.declared.cell.Cell.TheVariants.{OwnReceive, OwnTransmit}
use Rattle.bus_word.specs.Word.{valid_word}
use Rattle.bus_word.specs.Command.{address_of}
use Rattle.bus_word.specs.Status.{status_word}
use Rattle.bus_word.specs.Cell.{cell_of}
use Rattle.terminal_rules.specs.declared.event.Event.TheVariants.{Word, Gap}
use Rattle.terminal_rules.specs.declared.event.Flag.TheVariants.{Busy}
use Rattle.terminal_rules.specs.LookBack.{keep}
use Rattle.terminal_rules.specs.History.{Noted, Entry, run}
use Rattle.terminal_rules.specs.Open.{Open, Waits}
use Rattle.terminal_rules.specs.Flags.{flag_now}
use Rattle.terminal_rules.specs.SinceReset.{off_now, held_now}
use Rattle.terminal_rules.specs.Status.{formed_done}
use Rattle.terminal_rules.specs.Past.{past, open_at}
use Rattle.terminal_rules.specs.Out.{Out, Silence, SendsWord, HandsOver, HandsReceived, sending}
use Rattle.terminal_bus.specs.declared.event.BusEvent.{BusEvent}
use Rattle.terminal_bus.specs.declared.event.BusEvent.TheVariants.{OnBus, SlotPasses}
use Rattle.terminal_bus.specs.Members.{Member, events_for, after_events, bus_after}
use Rattle.terminal_bus.specs.Alone.{answers_in}
use Rattle.terminal_bus.specs.Discipline.{replies, is_disciplined}
use Rattle.terminal_bus.specs.Lists.{Each, EachTwo}

-- a terminal is one of the members
abbrev pub Has : List Member → Member → Type 0
Has [] m = ⊥
Has (n ∷ members) m = (n ≡ m) ⊎ Has members m

abbrev pub noted_of : Member → List Noted
noted_of m = past m.description m.history

abbrev pub is_waiting : Open → Bool
is_waiting (Waits c a) = true
is_waiting _ = false

-- this number of slots, and then the rest
abbrev pub passing : ℕ → List BusEvent → List BusEvent
passing zero xs = xs
passing (suc n) xs = SlotPasses ∷ passing n xs

-- The controller puts a receive command and a transmit command, and a gap; there are slots for a status word and n words;
-- and a gap, and a slot for a status word.
abbrev pub transfer_between : Bus → ℕ → ℕ → ℕ → List BusEvent
transfer_between b receive transmit n =
    OnBus (Word b (valid_word Com receive))
    ∷ OnBus (Word b (valid_word Com transmit))
    ∷ OnBus (Gap b)
    ∷ passing (suc n) (OnBus (Gap b) ∷ SlotPasses ∷ [])

-- an answer that sends or hands over something
abbrev pub action_of : Out → Option Out
action_of Silence = None
action_of o = Some o

abbrev pub actions : List Out → List Out
actions os = keep action_of os

-- what one terminal sends or hands over, for each thing that happens
abbrev pub actions_at_each : List Member → List BusEvent → Member → List (List Out)
actions_at_each members [] m = []
actions_at_each members (x ∷ xs) m = actions (answers_in members x m) ∷ actions_at_each (bus_after members x) xs (after_events (events_for members x m) m)

-- nothing, this number of times, and then the rest
abbrev pub nothing_then : ℕ → List (List Out) → List (List Out)
nothing_then zero acts = acts
nothing_then (suc n) acts = [] ∷ nothing_then n acts

-- these, one at a time, and then the rest
abbrev pub each_then : List Out → List (List Out) → List (List Out)
each_then [] acts = acts
each_then (o ∷ os) acts = (o ∷ []) ∷ each_then os acts

-- the words of subaddress t that a terminal holds, n of them from number i
abbrev pub held_words : Member → ℕ → ℕ → ℕ → List ℕ
held_words m t i zero = []
held_words m t i (suc n) = held_now m.description (noted_of m) t i ∷ held_words m t (suc i) n

-- the status word for a message that is done, with the flags as they are
abbrev pub status_out : Bus → Member → ℕ → Cell → Out
status_out b m c cell = SendsWord (sending b Com (status_word m.description.address (formed_done m.description (noted_of m) c cell)))

abbrev pub word_out : Bus → ℕ → Out
word_out b v = SendsWord (sending b Dat v)

-- One terminal, x, can receive n words at subaddress s by a command, and another, y, can transmit n words of subaddress t by
-- another, on a bus.
pub record CanTransfer (members : List Member) (x y : Member) (b : Bus) (receive transmit s t n : ℕ) : Type 0 where
  -- the terminals of the bus have different addresses; none replies, and none waits on the bus
  pub apart : EachTwo (λ m n. m.description.address ≢ n.description.address) members
  pub quiet : Each (λ m. replies m ≡ false) members
  pub waiting : Each (λ m. is_waiting (open_at m.description m.history b) ≡ false) members
  pub has_x : Has members x
  pub has_y : Has members y
  pub two : x.description.address ≢ y.description.address
  -- the commands are to them, and have these cells, which are legal
  pub to_x : address_of receive ≡ x.description.address
  pub to_y : address_of transmit ≡ y.description.address
  pub receives : cell_of receive ≡ Some (OwnReceive s n)
  pub transmits : cell_of transmit ≡ Some (OwnTransmit t n)
  pub legal_x : x.description.legal (OwnReceive s n) ≡ true
  pub legal_y : y.description.legal (OwnTransmit t n) ≡ true
  -- nothing came to them on the bus since the last gap there; neither is busy, and neither's transmitter is shut down
  pub run_x : (let none : List Entry = [] in run (noted_of x) b ≡ none)
  pub run_y : (let none : List Entry = [] in run (noted_of y) b ≡ none)
  pub free_x : flag_now (noted_of x) Busy ≡ false
  pub free_y : flag_now (noted_of y) Busy ≡ false
  pub on_x : off_now (noted_of x) b ≡ false
  pub on_y : off_now (noted_of y) b ≡ false

-- Then, in the slots before the second gap, y sends its status word, without error, and the words that it holds. At that
-- gap x hands just these over, and in the slot after it x sends its status word, without error. At all other times
-- these two are silent, and the other terminals are silent throughout.
pub record IsDelivered (members : List Member) (x y : Member) (b : Bus) (receive transmit s t n : ℕ) : Type 0 where
  pub sender : actions_at_each members (transfer_between b receive transmit n) y
      ≡ nothing_then 3 (each_then (status_out b y transmit (OwnTransmit t n) ∷ map (word_out b) (held_words y t 1 n)) (nothing_then 2 []))
  pub receiver : actions_at_each members (transfer_between b receive transmit n) x
      ≡ nothing_then 3 (nothing_then (suc n) (each_then (HandsOver (HandsReceived false s (held_words y t 1 n)) ∷ status_out b x receive (OwnReceive s n) ∷ []) []))
  pub others : (z : Member) → Has members z → z.description.address ≢ x.description.address → z.description.address ≢ y.description.address →
      actions_at_each members (transfer_between b receive transmit n) z ≡ nothing_then 3 (nothing_then (suc n) (nothing_then 2 []))
  -- and the controller has kept to the discipline
  pub fair : is_disciplined members (transfer_between b receive transmit n) ≡ true
  pub no_error_x : (formed_done x.description (noted_of x) receive (OwnReceive s n)).error ≡ false
  pub no_error_y : (formed_done y.description (noted_of y) transmit (OwnTransmit t n)).error ≡ false

abbrev pub TransferLaw : Type 0
TransferLaw =
    (members : List Member) (x y : Member) (b : Bus) (receive transmit s t n : ℕ) →
    CanTransfer members x y b receive transmit s t n → IsDelivered members x y b receive transmit s t n
