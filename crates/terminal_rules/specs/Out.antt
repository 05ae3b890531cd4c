-- What a terminal sends and hands over.
use Rattle.std.specs.Prelude.{ℕ, Bool, true, false, ◌==◌, if◌then◌else◌, Option, Some, None, List, [], ◌∷◌}
use Rattle.bus_word.specs.declared.word.Bus.{Bus}
use Rattle.bus_word.specs.declared.word.Kind.{Kind}
use Rattle.bus_word.specs.declared.word.Kind.TheVariants.{Com, Dat}
use Rattle.bus_word.specs.declared.cell.Cell.{Cell}
use Rattle.bus_word.specs.declared.cell.Cell.TheVariants.{OwnReceive, OwnTransmit, BroadReceive, OwnMode, BroadMode}
use Rattle.bus_word.specs.Status.{status_word}
use Rattle.bus_word.specs.Mode as mode
use Rattle.bus_legal.specs.Description.{Description}
use Rattle.terminal_rules.specs.declared.event.Event.{Event}
use Rattle.terminal_rules.specs.declared.event.Event.TheVariants.{Gap, Slot}
use Rattle.terminal_rules.specs.History.{Noted, Replying, Ending, Done}
use Rattle.terminal_rules.specs.Reply.{reply_now}
use Rattle.terminal_rules.specs.Ends.{ends_now}
use Rattle.terminal_rules.specs.SinceReset.{vector_now, bit_now, last_now, held_now}
use Rattle.terminal_rules.specs.Status.{kept_now}
use Rattle.terminal_rules.specs.Past.{past}

-- what is sent on a bus: a status word, which has command sync, or a data word
pub record Sending : Type 0 where
  pub bus : Bus
  pub kind : Kind
  pub bits : ℕ

-- what is handed over to the subsystem
pub data Handing : Type 0 where
  HandsReceived : (broadcast : Bool) → (subaddress : ℕ) → (words : List ℕ) → Handing
  HandsSynchronize : Handing
  HandsSynchronizeWith : (word : ℕ) → Handing
  HandsSelfTest : Handing
  HandsBusControl : Handing

-- the answer to an event: mostly nothing; a word that is sent; or something that is handed over
pub data Out : Type 0 where
  Silence : Out
  SendsWord : (sending : Sending) → Out
  HandsOver : (handing : Handing) → Out

-- the word that an answer sends, if it sends one
abbrev pub sent_in : Out → Option Sending
sent_in (SendsWord sending) = Some sending
sent_in _ = None

-- the data word that goes with an own mode code: vector word, last command or BIT word
abbrev pub code_word : Description → List Noted → ℕ → ℕ
code_word P h code =
    if code == mode.vector_word then vector_now P h
    else if code == mode.last_command then last_now h
    else if code == mode.bit_word then bit_now P h
    else 0

-- data word number m of a reply, by the cell of what was done: as it is when it is sent
abbrev pub reply_word : Description → List Noted → Option Cell → ℕ → ℕ
reply_word P h (Some (OwnTransmit s n)) m = held_now P h s m
reply_word P h (Some (OwnMode code)) m = code_word P h code
reply_word P h _ m = 0

-- a word of this sync and these bits, on this bus
abbrev pub sending : Bus → Kind → ℕ → Sending
sending b kind bits = record { bus = b; kind = kind; bits = bits }

-- The word that is sent next. The status is the kept one: the gap with which the reply began set it, or its command was
-- transmit status word or transmit last command, which report it.
abbrev pub next_sent : Description → List Noted → Replying → Sending
next_sent P h r =
    if r.number == 0
    then sending r.bus Com (status_word P.address (kept_now P h))
    else sending r.bus Dat (reply_word P h r.cell r.number)

-- what a slot sends: the next word of the reply in progress, where there is one
abbrev pub sends : Description → List Noted → Option Replying → Option Sending
sends P h None = None
sends P h (Some r) = Some (next_sent P h r)

-- the data word that is handed over with mode code 17; a message of it that is done has just one
abbrev pub first_word : List ℕ → ℕ
first_word [] = 0
first_word (d ∷ ds) = d

-- what a mode code that is done hands over: codes 0 (only where it is accepted), 1, 3 and 17, and no other
abbrev pub code_hands : ℕ → Bool → List ℕ → Option Handing
code_hands code accepts ds =
    if code == mode.dynamic_bus_control then (if accepts then Some HandsBusControl else None)
    else if code == mode.synchronize then Some HandsSynchronize
    else if code == mode.self_test then Some HandsSelfTest
    else if code == mode.synchronize_with_word then Some (HandsSynchronizeWith (first_word ds))
    else None

-- only what is done is handed over; words tell whether they came by broadcast (Notice 2, 30.6)
abbrev pub hands : Description → Ending → Option Handing
hands P (Done c (OwnReceive s n) ds) = Some (HandsReceived false s ds)
hands P (Done c (BroadReceive s n) ds) = Some (HandsReceived true s ds)
hands P (Done c (OwnMode code) ds) = code_hands code P.accept ds
hands P (Done c (BroadMode code) ds) = code_hands code false ds
hands P _ = None

-- the answer to a gap
abbrev pub handing_over : Option Handing → Out
handing_over None = Silence
handing_over (Some handing) = HandsOver handing

-- the answer to a slot
abbrev pub sending_out : Option Sending → Out
sending_out None = Silence
sending_out (Some sending) = SendsWord sending

-- the answer to an event after a noted history: a gap hands over, and a slot sends
abbrev pub out_now : Description → List Noted → Event → Out
out_now P h (Gap b) = handing_over (hands P (ends_now P h (Gap b)))
out_now P h Slot = sending_out (sends P h (reply_now h))
out_now P h _ = Silence

-- the answer to an event after a history
abbrev pub out : Description → List Event → Event → Out
out P h e = out_now P (past P h) e

-- the answers to events in order, after a history
abbrev pub outs_from : Description → List Event → List Event → List Out
outs_from P h [] = []
outs_from P h (e ∷ es) = out P h e ∷ outs_from P (e ∷ h) es

-- from power-up
abbrev pub outs : Description → List Event → List Out
outs P es = outs_from P [] es
