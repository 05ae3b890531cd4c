-- What happens for a message, and what it leaves behind.
use Rattle.std.specs.Prelude.{◌≡◌, ◌≤◌, ℕ, ◌/◌, Bool, true, false, ◌==◌, Option, Some, None, List, [], ◌∷◌, map}
use Rattle.bus_word.specs.declared.word.Bus.{Bus}
use Rattle.bus_word.specs.declared.word.Kind.{Kind}
use Rattle.bus_word.specs.declared.word.Kind.TheVariants.{Com, Dat}
use Rattle.bus_word.specs.declared.cell.Cell.{Cell}
use Rattle.bus_word.specs.Cell.{cell_of}
use Rattle.bus_legal.specs.Description.{Description}
use Rattle.terminal_rules.specs.declared.event.Event.{Event}
use Rattle.terminal_rules.specs.declared.event.Event.TheVariants.{Word}
use Rattle.terminal_rules.specs.declared.event.Flag.TheVariants.{Busy}
use Rattle.terminal_rules.specs.History.{Replying}
use Rattle.terminal_rules.specs.Open.{Idle}
use Rattle.terminal_rules.specs.Reply.{reply_now}
use Rattle.terminal_rules.specs.Flags.{flag_now}
use Rattle.terminal_rules.specs.Starts.{heard_now}
use Rattle.terminal_rules.specs.SinceReset.{off_now}
use Rattle.terminal_rules.specs.Status.{reports_kept, kept_now}
use Rattle.terminal_rules.specs.Past.{open_at}
use Rattle.terminal_rules.specs.Out.{Out, Silence, SendsWord, HandsOver, Handing, HandsReceived, HandsSynchronizeWith, sending}
use Rattle.terminal_bus.specs.declared.event.BusEvent.{BusEvent}
use Rattle.terminal_bus.specs.declared.event.BusEvent.TheVariants.{OnBus, SlotPasses, Subsystem}
use Rattle.terminal_bus.specs.Members.{Member, bus_after, play, member_of, powered_up}
use Rattle.terminal_bus.specs.Alone.{own_answers}
use Rattle.terminal_bus.specs.Discipline.{member_reply}
use Rattle.terminal_bus.specs.Lists.{Each}
use Rattle.terminal_bus.specs.OneSpeaker.{AddressesDiffer}
use Rattle.terminal_bus.specs.Transfer.{Has, noted_of}

-- A terminal is clear: on no bus is a message in progress, or a word for it in the run, and no reply is; no transmitter is shut
-- down, it is not busy, and no message error is kept, if that is asked for. So it is at power-up; what it holds, its flags but
-- busy, its last command and the rest of its kept status may be any.
pub record IsClearIf (asked : Bool) (m : Member) : Type 0 where
  pub message : (b : Bus) → open_at m.description m.history b ≡ Idle
  pub run : (b : Bus) → heard_now m.description (noted_of m) b ≡ false
  pub reply : (let none : Option Replying = None in reply_now (noted_of m) ≡ none)
  pub on : (b : Bus) → off_now (noted_of m) b ≡ false
  pub free : flag_now (noted_of m) Busy ≡ false
  pub error : asked ≡ true → (kept_now m.description (noted_of m)).error ≡ false

abbrev pub IsClear : Member → Type 0
IsClear m = IsClearIf true m

-- what happens on the bus for one message, alone from power-up, leaves each terminal clear
abbrev pub LeavesClear : Bool → List Description → List BusEvent → Type 0
LeavesClear asked Ps xs = Each (IsClearIf asked) (play (powered_up Ps) xs)

-- a word whose command asks for the kept status, by mode code 2 or 18
abbrev pub asks_by : Option Cell → Bool
asks_by None = false
asks_by (Some cell) = reports_kept cell

abbrev pub asks_event : Event → Bool
asks_event (Word b w) = asks_by (cell_of w.bits)
asks_event _ = false

abbrev pub asks_kept : BusEvent → Bool
asks_kept (OnBus e) = asks_event e
asks_kept SlotPasses = false
asks_kept (Subsystem a e) = asks_event e

-- What is compared of a data word: all, or nothing.
abbrev pub said_datum : Bool → ℕ → ℕ
said_datum true v = v
said_datum false v = 0

-- of a word that is sent: of a status word the address and the message error bit, without the flags
abbrev pub said_word : Bool → Kind → ℕ → ℕ
said_word exact Com v = v / 1024
said_word exact Dat v = said_datum exact v

-- of what is handed over: that it is, and its words
abbrev pub said_handing : Bool → Handing → Handing
said_handing exact (HandsReceived broadcast s ds) = HandsReceived broadcast s (map (said_datum exact) ds)
said_handing exact (HandsSynchronizeWith d) = HandsSynchronizeWith (said_datum exact d)
said_handing exact x = x

abbrev pub said_out : Bool → Out → Out
said_out exact Silence = Silence
said_out exact (SendsWord x) = SendsWord (sending x.bus x.kind (said_word exact x.kind x.bits))
said_out exact (HandsOver x) = HandsOver (said_handing exact x)

-- no reply is in progress, or one whose status word is still to be sent
abbrev pub is_before_data : Option Replying → Bool
is_before_data None = true
is_before_data (Some r) = r.number == 0

-- while these happen no terminal sends a data word
abbrev pub SendsNoData : List Member → List BusEvent → Type 0
SendsNoData members [] = Unit {0}
SendsNoData members (x ∷ xs) = Each (λ m. is_before_data (member_reply m) ≡ true) members × SendsNoData (bus_after members x) xs

-- data words are compared, or they are not
abbrev pub CanCompare : List Description → Bool → List BusEvent → Type 0
CanCompare Ps true xs = SendsNoData (powered_up Ps) xs
CanCompare Ps false xs = Unit {0}

-- A message ends as it does alone from power-up: event by event each terminal sends a word on the same bus, a status word with
-- the same message error bit, or a data word; or hands the same over; or is silent. What terminals hold may be other
-- data: so the words that are handed over are only compared where no terminal sends data words. Then each terminal is clear.
pub record EndsAsAlone (asked : Bool) (Ps : List Description) (members : List Member) (xs : List BusEvent) : Type 0 where
  pub answers : (exact : Bool) → CanCompare Ps exact xs → (m : Member) → Has members m →
      map (said_out exact) (own_answers members xs m) ≡ map (said_out exact) (own_answers (powered_up Ps) xs (member_of m.description))
  pub clear : Each (IsClearIf asked) (play members xs)

abbrev pub EachEndsAsAlone : Bool → List Description → List Member → List (List BusEvent) → Type 0
EachEndsAsAlone asked Ps members [] = Unit {0}
EachEndsAsAlone asked Ps members (xs ∷ messages) = EndsAsAlone asked Ps members xs × EachEndsAsAlone asked Ps (play members xs) messages

-- what can stand in a schedule by what it leaves behind; if kept message errors are left out, it does not ask for them
pub record CanFollow (asked : Bool) (Ps : List Description) (xs : List BusEvent) : Type 0 where
  pub leaves : LeavesClear asked Ps xs
  pub asks : asked ≡ false → Each (λ x. asks_kept x ≡ false) xs

-- Messages that leave each terminal clear, each alone from power-up, end from power-up in any order as they do alone.
abbrev pub AloneDecides : Type 0
AloneDecides =
    (asked : Bool) (Ps : List Description) (messages : List (List BusEvent)) → AddressesDiffer Ps → Each (λ P. P.address ≤ 30) Ps → Each (CanFollow asked Ps) messages →
    EachEndsAsAlone asked Ps (powered_up Ps) messages
