-- The message that events seem to begin with.
use Rattle.std.specs.Prelude.{ℕ, if◌then◌else◌, List, [], ◌∷◌, map, take, drop, replicate, Option, Some, None, IfSome}
use Rattle.bus_word.specs.declared.word.Bus.{Bus}
use Rattle.bus_word.specs.Word.{is_command}
use Rattle.bus_word.specs.Command.{AreOfTheirWidth, is_receive, command_bits}
use Rattle.terminal_rules.specs.declared.event.Event.{Event}
use Rattle.terminal_rules.specs.declared.event.Event.TheVariants as event
use Rattle.rt1553_tool.specs.declared.fields.CommandFields.{CommandFields}
use Rattle.rt1553_tool.specs.declared.fields.WordFields.TheVariants as fields
use Rattle.rt1553_tool.specs.Fields.{in_word, command_fields_in}
use Rattle.rt1553_expand.specs.declared.script_for.ScriptFor.{ScriptFor}
use Rattle.rt1553_expand.specs.declared.finding.FoundMessage.{FoundMessage}
use Rattle.rt1553_expand.specs.Own.{is_own}
use Rattle.rt1553_expand.specs.Message.{words_wanted}
use Rattle.rt1553_expand.specs.Gathered.{CommandMessage}

-- a valid command word on a bus
pub record HeardCommand : Type 0 where
  pub bus : Bus
  pub command : CommandFields

-- the same as code has it
abbrev pub heard_command : Bus × CommandFields → HeardCommand
heard_command heard = record { bus = heard.0; command = heard.1 }

-- the command that an event is
abbrev pub heard_in : Event → Option HeardCommand
heard_in (event.Word bus w) = if is_command w then Some (record { bus = bus; command = command_fields_in w.bits }) else None
heard_in (event.Noise bus) = None
heard_in (event.Gap bus) = None
heard_in (event.Write place word) = None
heard_in (event.Vector word) = None
heard_in (event.Bit word) = None
heard_in (event.Flag f value) = None
heard_in event.Slot = None

-- the command that comes first
abbrev pub command_first : List Event → Option HeardCommand
command_first [] = None
command_first (e ∷ es) = heard_in e

-- without its bus
abbrev pub fields_heard : Option HeardCommand → Option CommandFields
fields_heard None = None
fields_heard (Some heard) = Some heard.command

-- behind a command to receive, the command to the terminal that sends
abbrev pub sender_found : CommandFields → List Event → Option CommandFields
sender_found command es = if is_receive (command_bits (in_word command)) then fields_heard (command_first es) else None

-- the bits of a word; of what is none, 0
abbrev pub bits_heard : Event → ℕ
bits_heard (event.Word bus w) = w.bits
bits_heard (event.Noise bus) = 0
bits_heard (event.Gap bus) = 0
bits_heard (event.Write place word) = 0
bits_heard (event.Vector word) = 0
bits_heard (event.Bit word) = 0
bits_heard (event.Flag f value) = 0
bits_heard event.Slot = 0

-- how many events stand between the first command and the data words: in a transfer the second command, a gap, and a status word
abbrev pub events_before : Option CommandFields → ℕ
events_before None = 0
events_before (Some f) = 3

-- the data words, of which the own terminal's are not heard
abbrev pub words_found : ScriptFor → Option CommandFields → ℕ → List Event → List ℕ
words_found own sender wanted es = if is_own own sender then replicate wanted 0 else map bits_heard (take wanted (drop (events_before sender) es))

-- the message of a command with these events behind it, by whose sender
abbrev pub message_sent_by : ScriptFor → CommandFields → Option CommandFields → List Event → CommandMessage
message_sent_by own command sender es = record { command = command; sender = sender; words = words_found own sender (words_wanted (fields.Command command)) es }

-- the message of a command with these events behind it
abbrev pub message_found : ScriptFor → CommandFields → List Event → CommandMessage
message_found own command es = message_sent_by own command (sender_found command es) es

-- a message on a bus
pub record MessageOn : Type 0 where
  pub bus : Bus
  pub message : CommandMessage

-- the message of the command that was heard, if one was
abbrev pub message_behind : ScriptFor → List Event → Option HeardCommand → Option MessageOn
message_behind own es None = None
message_behind own es (Some heard) = Some (record { bus = heard.bus; message = message_found own heard.command es })

-- the message that events seem to begin with
abbrev pub message_at : ScriptFor → List Event → Option MessageOn
message_at own [] = None
message_at own (e ∷ es) = message_behind own es (heard_in e)

-- a message as code has it, as the definitions have it
abbrev pub command_message : FoundMessage → CommandMessage
command_message found = record { command = found.command; sender = found.sender; words = found.words.items }

-- with its bus
abbrev pub message_on : FoundMessage → MessageOn
message_on found = record { bus = found.bus; message = command_message found }

-- the fields of its commands are of their width
abbrev pub IsOfWidth : FoundMessage → Type 0
IsOfWidth found = AreOfTheirWidth (in_word found.command) × IfSome found.sender (λ s. AreOfTheirWidth (in_word s))
