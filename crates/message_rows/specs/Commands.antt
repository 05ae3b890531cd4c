-- The commands of a message.
use Rattle.std.specs.Prelude.{ℕ, Bool, false, ◌||◌, ◌==◌, if◌then◌else◌, Option, Some, None}
use Rattle.bus_word.specs.Command.{address_of, transmits, subaddress_of, is_mode, is_broadcast}
use Rattle.terminal_messages.specs.declared.kept.KeptMessage.{KeptMessage}
use Rattle.message_rows.specs.declared.commands.MessageCommands.{MessageCommands}
use Rattle.message_rows.specs.declared.commands.MessageForm.{MessageForm}
use Rattle.message_rows.specs.declared.commands.MessageForm.TheVariants.{Receive, Transmit, Mode, Transfer}

-- the commands of a message
abbrev pub row_commands : KeptMessage → MessageCommands
row_commands m = record { command = m.state.command; transmitter = m.state.second }

-- a message of one command
abbrev pub form_of_one : ℕ → MessageForm
form_of_one c = if is_mode c then Mode else if transmits c then Transmit else Receive

-- what a message is by the second command, if there is one, and the first
abbrev pub form_by : Option ℕ → ℕ → MessageForm
form_by None c = form_of_one c
form_by (Some second) c = Transfer

-- what a message is
abbrev pub form_of : MessageCommands → MessageForm
form_of m = form_by m.transmitter m.command

-- a second command passes
abbrev pub second_has : (ℕ → Bool) → Option ℕ → Bool
second_has p None = false
second_has p (Some second) = p second

-- a command of the message has this address
abbrev pub goes_to : ℕ → MessageCommands → Bool
goes_to address m = (address_of m.command == address) || second_has (λ c. address_of c == address) m.transmitter

-- a command of the message has this subaddress
abbrev pub is_at : ℕ → MessageCommands → Bool
is_at s m = (subaddress_of m.command == s) || second_has (λ c. subaddress_of c == s) m.transmitter

-- the first command, if it is to this address or to all
abbrev pub first_named : ℕ → ℕ → Option ℕ
first_named address c = if (address_of c == address) || is_broadcast c then Some c else None

-- the second command, if it is to this address, else the first one
abbrev pub named_by : ℕ → Option ℕ → ℕ → Option ℕ
named_by address None c = first_named address c
named_by address (Some second) c = if address_of second == address then Some second else first_named address c

-- the command that speaks to the terminal of this address, or to all terminals
abbrev pub named_command : ℕ → MessageCommands → Option ℕ
named_command address m = named_by address m.transmitter m.command
