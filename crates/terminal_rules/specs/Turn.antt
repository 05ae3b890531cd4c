-- What an event has to do with replies.
use Rattle.std.specs.Prelude.{Bool, false, not, ◌||◌, if◌then◌else◌, Option, Some, None, List}
use Rattle.bus_word.specs.declared.word.Bus.{Bus}
use Rattle.bus_word.specs.declared.cell.Cell.{Cell}
use Rattle.bus_word.specs.Command.{is_broadcast}
use Rattle.terminal_rules.specs.declared.event.Event.{Event}
use Rattle.terminal_rules.specs.declared.event.Event.TheVariants.{Gap, Slot}
use Rattle.terminal_rules.specs.History.{Noted, noted_as, Replying, Turn, NoTurn, Ignored, Begins, Sends, Ending, Illegal, Blocked, Done}
use Rattle.terminal_rules.specs.Reply.{reply_now, ignores}
use Rattle.terminal_rules.specs.SinceReset.{off_now}

-- a message that ended well is answered, unless it was a broadcast (MIL-STD-1553B, 4.3.3.6.7), or the transmitter of
-- its bus is shut down
abbrev pub is_answered : Bool → Ending → Bool
is_answered off (Illegal c) = not (is_broadcast c || off)
is_answered off (Blocked c cell) = not (is_broadcast c || off)
is_answered off (Done c cell ds) = not (is_broadcast c || off)
is_answered off _ = false

-- the cell of what was done
abbrev pub done_cell : Ending → Option Cell
done_cell (Done c cell ds) = Some cell
done_cell _ = None

-- with a gap a reply begins where the message that it ends is answered
abbrev pub turn_of_gap : Bus → Bool → Option Cell → Turn
turn_of_gap b answered cell = if answered then Begins b cell else NoTurn

-- in a slot the next word of the reply in progress is sent, where there is one
abbrev pub turn_of_slot : Option Replying → Turn
turn_of_slot None = NoTurn
turn_of_slot (Some r) = Sends r

-- what an event that is heard has to do with replies, by how it ends a message, after a noted history
abbrev pub turn_heard : List Noted → Event → Ending → Turn
turn_heard h (Gap b) x = turn_of_gap b (is_answered (off_now h b) x) (done_cell x)
turn_heard h Slot x = turn_of_slot (reply_now h)
turn_heard h _ x = NoTurn

-- what is ignored has nothing else to do with replies
abbrev pub unless_ignored_turn : Bool → Turn → Turn
unless_ignored_turn ignored turn = if ignored then Ignored else turn

-- what an event has to do with replies
abbrev pub turn_now : List Noted → Event → Ending → Turn
turn_now h e x = unless_ignored_turn (ignores (reply_now h) e) (turn_heard h e x)

-- an event after a noted history, by what it starts and ends
abbrev pub noted : List Noted → Event → Bool → Ending → Noted
noted h e starts ends = noted_as e (turn_now h e ends) starts ends
