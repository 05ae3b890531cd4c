-- Which messages are printed.
use Rattle.std.specs.Prelude.{ℕ, Bool, true, false, not, ◌&&◌, ◌||◌, Option, Some, None, is_some}
use Rattle.message_rows.specs.declared.commands.MessageCommands.{MessageCommands}
use Rattle.terminal_messages.specs.declared.ending.MessageEnding.{MessageEnding}
use Rattle.terminal_messages.specs.declared.ending.MessageEnding.TheVariants.{Other, Done}
use Rattle.terminal_messages.specs.declared.ending.Unsent.{Unsent}
use Rattle.terminal_messages.specs.declared.kept.KeptMessage.{KeptMessage}
use Rattle.message_rows.specs.declared.filter.RowFilter.{RowFilter}
use Rattle.message_rows.specs.Commands.{row_commands, goes_to, is_at}

-- a message for the terminal was not done, or lacks its reply or a part of it
abbrev pub is_faulty : MessageEnding → Option Unsent → Bool
is_faulty Other unsent = false
is_faulty Done unsent = is_some unsent
is_faulty _ unsent = true

-- the number that a filter asks for passes, if it asks for one
abbrev pub is_unless : (ℕ → MessageCommands → Bool) → Option ℕ → MessageCommands → Bool
is_unless p None m = true
is_unless p (Some n) m = p n m

-- the addresses and subaddresses are those of the filter
abbrev pub is_chosen : RowFilter → MessageCommands → Bool
is_chosen filter m = is_unless goes_to filter.address m && is_unless is_at filter.subaddress m

-- a message is printed
abbrev pub passes : RowFilter → KeptMessage → Bool
passes filter m = is_chosen filter (row_commands m) && (not filter.errors || is_faulty m.state.«end» m.state.unsent)
