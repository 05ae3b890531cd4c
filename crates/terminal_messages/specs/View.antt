-- The messages on the buses, as they are kept, and what an event makes of them.
use Rattle.std.specs.Prelude.{ℕ, suc, ◌+◌, nat_lt, Bool, true, false, not, ◌&&◌, ◌||◌, if◌then◌else◌, Option, Some, None, List, [], ◌∷◌, ◌++◌, length, take}
use Rattle.std.specs.Option.{option_map}
use Rattle.bus_word.specs.declared.word.Bus.{Bus}
use Rattle.bus_word.specs.declared.word.Bus.TheVariants.{A, B}
use Rattle.bus_word.specs.Word.{is_command}
use Rattle.bus_legal.specs.Description.{Description}
use Rattle.terminal_rules.specs.declared.event.Event.{Event}
use Rattle.terminal_rules.specs.declared.event.Event.TheVariants.{Word}
use Rattle.terminal_rules.specs.Open.{is_on}
use Rattle.terminal_rules.specs.Reply.{is_other}
use Rattle.terminal_rules.specs.LookBack.{latest}
use Rattle.terminal_rules.specs.Out.{Handing}
use Rattle.terminal_messages.specs.declared.part.MessagePart.{MessagePart}
use Rattle.terminal_messages.specs.declared.part.MessagePart.TheVariants.{Plain, First, Second, Status, Within, Unheard}
use Rattle.terminal_messages.specs.declared.state.MessageState.{MessageState}
use Rattle.terminal_messages.specs.Told.{event_bus, sent_bus, is_first_command, is_unheard, begins_message}
use Rattle.terminal_messages.specs.Message.{Message}
use Rattle.terminal_messages.specs.Ends.{data_words_of, handed_in, handed_by}
use Rattle.terminal_messages.specs.State.{Facts, state_after, state_closed, begun_state, message_state, told_state, words_kept, most_words, left_out, in_u64, newer, datum_told, takes_second_in, takes_status_in}

-- A message as it is kept: its data words, at most 64 of them, and how many more there are; what the terminal handed over last; its number, from
-- 1, by the order in which messages begin; what the caller calls the event with which it began; and all else.
pub record View : Type 0 where
  pub state : MessageState
  pub words : List ℕ
  pub left_out : ℕ
  pub handed : Option Handing
  pub number : ℕ
  pub place : ℕ

abbrev pub view_of : Description → (ℕ → ℕ) → Message → View
view_of P place m = record {
  state = message_state P m;
  words = words_kept m;
  left_out = left_out (data_words_of m);
  handed = latest handed_by m.later;
  number = in_u64 m.first.begun;
  place = place m.first.index;
}

-- a message as it is told
abbrev pub told_view : Description → (ℕ → ℕ) → Message → View
told_view P place m = record (view_of P place m) { state = told_state P m }

abbrev pub second_by : ℕ → Option View → Bool
second_by c None = false
second_by c (Some v) = takes_second_in c v.state

abbrev pub status_by_view : ℕ → Option View → Bool
status_by_view c None = false
status_by_view c (Some v) = takes_status_in c v.state

-- the part of a command, by the message on its bus as it is kept
abbrev pub part_of_kept : ℕ → (ignored starts engaged awaits : Bool) → Option View → MessagePart
part_of_kept c ignored starts engaged awaits v =
    if ignored then Unheard
    else if second_by c v then Second
    else if starts then First
    else if engaged then (if awaits then Status else Within)
    else if status_by_view c v then Status
    else First

-- the part of an event
abbrev pub part_by : Event → Facts → Bool → (Bus → Option View) → MessagePart
part_by (Word b w) x ignored v = if is_command w then part_of_kept w.bits ignored x.starts (x.engaged b) x.awaits (v b) else Plain
part_by e x ignored v = Plain

-- an event of this part closes the message on a bus, begins one there, and concerns it
abbrev pub begins_by : Bus → Facts → MessagePart → Bool
begins_by b x part = is_first_command part && is_on b (event_bus x.event)

abbrev pub closes_by : Bus → Facts → MessagePart → Bool
closes_by b x part = begins_by b x part || (((is_first_command part || x.starts) && is_other b (event_bus x.event)) && not (x.engaged b))

abbrev pub concerns_by : Bus → Facts → Bool → Bool
concerns_by b x ignored = not ignored && (is_on b (event_bus x.event) || is_on b (sent_bus x.answer))

-- data words, and one more, as far as there is room
abbrev pub with_datum : List ℕ → Option ℕ → List ℕ
with_datum ws None = ws
with_datum ws (Some d) = take most_words (ws ++ d ∷ [])

-- how many more there are
abbrev pub left_after : List ℕ → ℕ → Option ℕ → ℕ
left_after ws n None = n
left_after ws n (Some d) = if nat_lt (length ws) most_words then n else in_u64 (n + 1)

abbrev pub added_view : ℕ → Facts → MessagePart → View → View
added_view own x part v = record v {
  state = state_after own x part (length v.words) v.state;
  words = with_datum v.words (datum_told x);
  left_out = left_after v.words v.left_out (datum_told x);
  handed = newer (handed_in x.answer) v.handed;
}

-- a message of one command as it is kept, which has this number
abbrev pub begun_view_of : ℕ → Bool → Bus → Event → (starts unheard : Bool) → (number place : ℕ) → Option View
begun_view_of own broadcast b (Word c w) starts unheard number place =
    Some (record { state = begun_state own broadcast b w starts unheard; words = []; left_out = 0; handed = None; number = number; place = place })
begun_view_of own broadcast b e starts unheard number place = None

abbrev pub begun_view : ℕ → Bool → Bus → Facts → Bool → ℕ → Option View
begun_view own broadcast b x unheard number = begun_view_of own broadcast b x.event x.starts unheard number x.place

-- the message that an event of this part begins on a bus, if it does
abbrev pub begun_after : ℕ → Bool → Bus → Facts → MessagePart → ℕ → Option View
begun_after own broadcast b x part number = if begins_by b x part then begun_view own broadcast b x false number else None

-- the message on a bus after an event of this part
abbrev pub message_after : ℕ → Bool → Bus → Facts → MessagePart → Bool → ℕ → Option View → Option View
message_after own broadcast b x part ignored number v =
    if closes_by b x part then begun_after own broadcast b x part number
    else if concerns_by b x ignored then option_map (added_view own x part) v else v

-- the message on a bus that is over with an event of this part
abbrev pub closed_view : Facts → View → View
closed_view x v = record v { state = state_closed x v.state }

abbrev pub closed_after : Bus → Facts → MessagePart → Option View → Option View
closed_after b x part v = if closes_by b x part then option_map (closed_view x) v else None

-- a command that is not heard, alone
abbrev pub alone_on_bus : ℕ → Bool → Option Bus → Facts → ℕ → Option View
alone_on_bus own broadcast None x number = None
alone_on_bus own broadcast (Some b) x number = begun_view own broadcast b x true number

abbrev pub alone_after : ℕ → Bool → Facts → MessagePart → ℕ → Option View
alone_after own broadcast x part number = if is_unheard part then alone_on_bus own broadcast (event_bus x.event) x number else None

-- the number of a message that begins behind so many, and how many have begun with an event of this part
abbrev pub next_number : ℕ → ℕ
next_number n = in_u64 (suc n)

abbrev pub number_after : MessagePart → ℕ → ℕ
number_after part n = if begins_message part then next_number n else n

-- one or two views, in the order of which began first
abbrev pub view_listed : Option View → List View
view_listed None = []
view_listed (Some v) = v ∷ []

-- the bus of the message that began last
abbrev pub newest_by : Option Bus → Bus → Bus
newest_by None b = b
newest_by (Some c) b = c

abbrev pub newest_after : Facts → MessagePart → Bus → Bus
newest_after x part b = if is_first_command part then newest_by (event_bus x.event) b else b

-- the messages on the two buses, by which began last
abbrev pub view_turn : Bus → Option View → Option View → List View
view_turn A x y = view_listed y ++ view_listed x
view_turn B x y = view_listed x ++ view_listed y
