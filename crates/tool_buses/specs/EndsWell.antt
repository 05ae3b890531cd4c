-- What is told of a message that doesn't end well, alone on a bus at power-up: how many reasons.
use Rattle.std.specs.Prelude.{ℕ, ◌+◌, Bool, true, false, not, ◌&&◌, ◌||◌, ◌==◌, if◌then◌else◌, Option, Some, None, List, [], ◌∷◌, map, filter, flat_map, length}
use Rattle.std.specs.List.{list_any}
use Rattle.std.specs.Option.{option_map}
use Rattle.bus_word.specs.declared.word.Bus.{Bus}
use Rattle.bus_word.specs.Word.{is_command}
use Rattle.bus_word.specs.Command.{address_of}
use Rattle.bus_legal.specs.Parts.{Parts, description_in}
use Rattle.bus_legal.specs.Description.{Description}
use Rattle.terminal_messages.specs.declared.ending.MessageEnding.{MessageEnding}
use Rattle.terminal_messages.specs.declared.ending.MessageEnding.TheVariants.{Other, Done}
use Rattle.terminal_messages.specs.declared.state.MessageState.{MessageState}
use Rattle.terminal_messages.specs.Messages.{messages_of}
use Rattle.terminal_messages.specs.State.{told_state}
use Rattle.terminal_rules.specs.declared.event.Event.TheVariants.{Word}
use Rattle.terminal_bus.specs.declared.event.BusEvent.{BusEvent}
use Rattle.terminal_bus.specs.declared.event.BusEvent.TheVariants.{OnBus}
use Rattle.terminal_bus.specs.Members.{member_of, powered_up, all_events_for}
use Rattle.message_rows.specs.declared.commands.MessageCommands.{MessageCommands}
use Rattle.message_rows.specs.Commands.{named_command}
use Rattle.message_rows.specs.Filter.{is_faulty}
use Rattle.bus_reports.specs.declared.load.PutMessage.{PutMessage}
use Rattle.tool_buses.specs.declared.parts.ScriptPart.{ScriptPart}
use Rattle.tool_buses.specs.declared.trouble.CommandTrouble.{CommandTrouble}
use Rattle.tool_buses.specs.Troubles.{command_trouble}

-- a message of the terminal of this address
pub record MessageAt : Type 0 where
  pub address : ℕ
  pub state : MessageState

abbrev pub put_commands : PutMessage → MessageCommands
put_commands put = record { command = put.command; transmitter = put.transmitter }

abbrev pub state_commands : MessageState → MessageCommands
state_commands state = record { command = state.command; transmitter = state.second }

abbrev pub is_same_command : Option ℕ → Option ℕ → Bool
is_same_command None None = true
is_same_command (Some a) (Some b) = a == b
is_same_command _ _ = false

abbrev pub is_of_others : MessageEnding → Bool
is_of_others Other = true
is_of_others _ = false

-- a message of a terminal is the one that was put on the bus: the same command speaks to the terminal
abbrev pub is_message_of : PutMessage → MessageAt → Bool
is_message_of put m = not (is_of_others m.state.«end») && is_same_command (named_command m.address (put_commands put)) (named_command m.address (state_commands m.state))

-- a terminal is the one that transmits in a transfer
abbrev pub is_transmitter_at : Option ℕ → ℕ → Bool
is_transmitter_at None a = false
is_transmitter_at (Some word) a = address_of word == a

-- a terminal is spoken to
abbrev pub speaks_to : PutMessage → ℕ → Bool
speaks_to put a = (address_of put.command == 31) || ((address_of put.command == a) || is_transmitter_at put.transmitter a)

-- the message as the terminals have it to which the first command speaks, and as that has it which transmits in a transfer
abbrev pub at_receivers : PutMessage → List MessageAt → List MessageAt
at_receivers put ms = filter (λ m. is_message_of put m && not (is_transmitter_at put.transmitter m.address)) ms

abbrev pub at_transmitter : PutMessage → List MessageAt → List MessageAt
at_transmitter put ms = filter (λ m. is_message_of put m && is_transmitter_at put.transmitter m.address) ms

abbrev pub is_told_done : MessageEnding → Bool
is_told_done Done = true
is_told_done _ = false

abbrev pub is_done_at : MessageAt → Bool
is_done_at m = is_told_done m.state.«end»

abbrev pub is_faulty_at : MessageAt → Bool
is_faulty_at m = is_faulty m.state.«end» m.state.unsent

abbrev pub profile_has : List Parts → ℕ → Bool
profile_has vs a = list_any (λ (v : Parts). v.address == a) vs

abbrev pub trouble_count : Option CommandTrouble → ℕ
trouble_count None = 0
trouble_count (Some trouble) = 1

-- of a command: that no profile has its address, that its terminal has no such message, or that a broadcast is done by none; and each message of a terminal
-- that is not done, or lacks its reply
abbrev pub command_reasons : List Parts → ℕ → List MessageAt → ℕ
command_reasons vs a ms =
    trouble_count (command_trouble (a == 31) (profile_has vs a) (not (length ms == 0)) (list_any is_done_at ms)) + length (filter is_faulty_at ms)

abbrev pub transmitter_reasons : List Parts → Option ℕ → List MessageAt → ℕ
transmitter_reasons vs None ms = 0
transmitter_reasons vs (Some word) ms = command_reasons vs (address_of word) ms

-- a terminal with the broadcast option is to receive a broadcast, and has no message of it
abbrev pub is_unheard_by : PutMessage → List MessageAt → Parts → Bool
is_unheard_by put ms v = v.broadcast && (not (is_transmitter_at put.transmitter v.address) && not (list_any (λ (m : MessageAt). m.address == v.address) ms))

abbrev pub unheard_reasons : PutMessage → List Parts → List MessageAt → ℕ
unheard_reasons put vs ms = if address_of put.command == 31 then length (filter (is_unheard_by put ms) vs) else 0

-- how many reasons there are why a message that was put on the bus doesn't end well at the terminals of profiles, which have these messages
abbrev pub reason_count : PutMessage → List Parts → List MessageAt → ℕ
reason_count put vs ms =
    transmitter_reasons vs put.transmitter (at_transmitter put ms)
    + (command_reasons vs (address_of put.command) (at_receivers put ms) + unheard_reasons put vs (at_receivers put ms))

-- the messages of the terminal of a profile, if it is spoken to, while these events happen on a bus of terminals at power-up
abbrev pub messages_alone : PutMessage → List Description → List BusEvent → Parts → List MessageAt
messages_alone put Ps events v =
    if speaks_to put v.address
    then map (λ m. (let it : MessageAt = record { address = v.address; state = told_state (description_in v) m } in it)) (messages_of (description_in v) (all_events_for (powered_up Ps) events (member_of (description_in v))))
    else []

-- so of all of a bus
abbrev pub came_alone : PutMessage → List Parts → List BusEvent → List MessageAt
came_alone put vs events = flat_map (messages_alone put (map description_in vs) events) vs

-- how many reasons there are why a message doesn't end well alone, from power-up
abbrev pub reasons_alone : PutMessage → List Parts → List BusEvent → ℕ
reasons_alone put vs events = reason_count put vs (came_alone put vs events)

-- the command that an event puts on a bus
abbrev pub command_put : BusEvent → Option (Bus × ℕ)
command_put (OnBus (Word b w)) = if is_command w then Some (b, w.bits) else None
command_put _ = None

abbrev pub put_of : Option (Bus × ℕ) → Option (Bus × ℕ) → Option PutMessage
put_of None second = None
put_of (Some c) second = Some (record { bus = c.0; command = c.1; transmitter = option_map (λ d. d.1) second })

-- the message that events are: two or more, of which the first is a command; the second may be one, too
abbrev pub message_put : List BusEvent → Option PutMessage
message_put (x ∷ y ∷ more) = put_of (command_put x) (command_put y)
message_put _ = None

-- how many reasons there are why a part of a script doesn't end well alone, if it is a message
abbrev pub reasons_of_part : List Parts → ScriptPart → Option ℕ
reasons_of_part vs part = option_map (λ put. reasons_alone put vs part.events.items) (message_put part.events.items)
