-- Which part an event has.
use Rattle.std.specs.Prelude.{ℕ, suc, Bool, true, false, not, ◌&&◌, ◌||◌, ◌==◌, if◌then◌else◌, Option, Some, None, List, [], ◌∷◌, ◌++◌, length, drop, bit_and}
use Rattle.bus_word.specs.declared.word.Bus.{Bus}
use Rattle.bus_word.specs.Word.{is_command}
use Rattle.bus_word.specs.Command.{address_of, transmits, is_receive, is_broadcast}
use Rattle.bus_legal.specs.Description.{Description}
use Rattle.terminal_rules.specs.declared.event.Event.{Event}
use Rattle.terminal_rules.specs.declared.event.Event.TheVariants.{Word, Gap}
use Rattle.terminal_rules.specs.LookBack.{latest}
use Rattle.terminal_rules.specs.History.{Noted, is_ignored}
use Rattle.terminal_rules.specs.Open.{Waits, MessageState, open_now}
use Rattle.terminal_rules.specs.Reply.{reply_now, reply_bus, is_slot}
use Rattle.terminal_rules.specs.Past.{note, past}
use Rattle.terminal_rules.specs.Out.{out_now}
use Rattle.terminal_messages.specs.declared.part.MessagePart.TheVariants.{Plain, First, Second, Status, Within, Unheard}
use Rattle.terminal_messages.specs.declared.part.MessagePart.{MessagePart}
use Rattle.bus_terminal.specs.Waiting.{is_engaged}
use Rattle.terminal_messages.specs.Told.{ToldEvent, event_bus, is_second_command, is_status, begins_message, begun_in}
use Rattle.terminal_messages.specs.Message.{Message, message_on_bus}

-- the bits of a word; 0 of all else
abbrev pub bits_of_word : Event → ℕ
bits_of_word (Word b w) = w.bits
bits_of_word _ = 0

-- the first command of a message
abbrev pub command_begun : Message → ℕ
command_begun m = bits_of_word m.first.noted.event

-- the bits of a second command
abbrev pub second_in : ToldEvent → Option ℕ
second_in t = if is_second_command t.part then Some (bits_of_word t.noted.event) else None

-- the second command of a message
abbrev pub second_of : Message → Option ℕ
second_of m = latest second_in m.later

-- The command that a message has for the terminal of this address: the first; but of a transfer in which that transmits, the second
-- (MIL-STD-1553B, 4.3.3.6.3, 4.3.3.6.7.2).
abbrev pub terminal_command : ℕ → ℕ → Option ℕ → ℕ
terminal_command own first None = first
terminal_command own first (Some second) = if address_of second == own then second else first

-- The second command of a transfer (MIL-STD-1553B, 4.3.3.6.3, 4.3.3.6.7.2): behind a receive command of data, with nothing
-- between them, a command by which one terminal other than the receiver transmits.
abbrev pub is_transmitter_for : ℕ → ℕ → Bool
is_transmitter_for first next = (is_receive first && transmits next) && (not (is_broadcast next) && not (address_of next == address_of first))

abbrev pub is_none_yet : List ToldEvent → Bool
is_none_yet [] = true
is_none_yet (t ∷ ts) = false

abbrev pub takes_second : ℕ → Option Message → Bool
takes_second c None = false
takes_second c (Some m) = is_none_yet m.later && is_transmitter_for (command_begun m) c

-- the address of a command, if it is that of a terminal other than this one
abbrev pub other_terminal : ℕ → ℕ → List ℕ
other_terminal own c = if (address_of c == own) || is_broadcast c then [] else address_of c ∷ []

-- the other terminals that answer a message, in order: of a transfer the transmitter first
abbrev pub answering : ℕ → Option ℕ → ℕ → List ℕ
answering own None c = other_terminal own c
answering own (Some second) c = other_terminal own second ++ other_terminal own c

-- how many status words of other terminals came
abbrev pub statuses_in : List ToldEvent → ℕ
statuses_in [] = 0
statuses_in (t ∷ ts) = if is_status t.part then suc (statuses_in ts) else statuses_in ts

-- the other terminals whose status words are to come
abbrev pub to_answer : Description → Message → List ℕ
to_answer P m = drop (statuses_in m.later) (answering P.address (second_of m) (command_begun m))

-- the first of them has this address
abbrev pub answers_next : ℕ → List ℕ → Bool
answers_next a [] = false
answers_next a (x ∷ xs) = x == a

abbrev pub is_gap_event : Event → Bool
is_gap_event (Gap b) = true
is_gap_event _ = false

-- the last that came was a gap; the words that the terminal sent since then do not matter
abbrev pub is_after_gap : List ToldEvent → Bool
is_after_gap [] = false
is_after_gap (t ∷ ts) = if is_slot t.noted.event then is_after_gap ts else is_gap_event t.noted.event

-- The status word of another terminal, as far as it tells: right after a gap, of the terminal that is to answer, with its
-- instrumentation and reserved bits 0 (4.3.3.5.3).
abbrev pub takes_status : Description → ℕ → Option Message → Bool
takes_status P c None = false
takes_status P c (Some m) = is_after_gap m.later && (answers_next (address_of c) (to_answer P m) && (bit_and c 0x02e0 == 0))

-- the part of a valid word of command sync, by whether it is ignored, starts a message, and leaves the terminal in a message on its bus,
-- which awaited a status word; and by the message there
abbrev pub part_of_command : Description → ℕ → (ignored starts engaged awaits : Bool) → Option Message → MessagePart
part_of_command P c ignored starts engaged awaits m =
    if ignored then Unheard
    else if takes_second c m then Second
    else if starts then First
    else if engaged then (if awaits then Status else Within)
    else if takes_status P c m then Status
    else First

-- it awaits a status word
abbrev pub has_to_wait : {F : Type 0} → MessageState F → Bool
has_to_wait (Waits c a) = true
has_to_wait _ = false

-- a message awaits a status word on the bus of an event
abbrev pub awaits_on : Description → List Noted → Option Bus → Bool
awaits_on P ns None = false
awaits_on P ns (Some b) = has_to_wait (open_now P ns b)

-- the part of an event, noted with what it does, by the noted history with it and what was told before it
abbrev pub part_now : Description → List Noted → Noted → List ToldEvent → Event → MessagePart
part_now P ns n h (Word b w) =
    if is_command w
    then part_of_command P w.bits (is_ignored n.turn) n.starts (is_engaged P (n ∷ ns) b) (has_to_wait (open_now P ns b)) (message_on_bus h b)
    else Plain
part_now P ns n h _ = Plain

-- an event of this part
abbrev pub told_with : Description → List Noted → List ToldEvent → Event → MessagePart → ToldEvent
told_with P ns h e part = record {
  index = length h;
  noted = note P ns e;
  answer = out_now P ns e;
  awaits = awaits_on P ns (event_bus e);
  replied = reply_bus (reply_now ns);
  engaged = is_engaged P (note P ns e ∷ ns);
  part = part;
  begun = if begins_message part then suc (begun_in h) else begun_in h;
}

-- an event after a noted history, with what was told before it
abbrev pub told : Description → List Noted → List ToldEvent → Event → ToldEvent
told P ns h e = told_with P ns h e (part_now P ns (note P ns e) h e)

-- A history, the latest event first, each event told. As in `past`, this is the only recursion on histories: which message an event
-- belongs to is found by looking back.
abbrev pub tell : Description → List Event → List ToldEvent
tell P [] = []
tell P (e ∷ h) = told P (past P h) (tell P h) e ∷ tell P h
