-- What is told of legal messages and of illegal ones.
use Rattle.std.specs.Prelude.{ℕ, ◌+◌, ◌*◌, ◌%◌, Bool, false, not, ◌&&◌, ◌==◌, nat_le, if◌then◌else◌, Option, Some, None, List, map, filter}
use Rattle.std.specs.List.{range_with_len}
use Rattle.bus_word.specs.declared.cell.Cell.{Cell}
use Rattle.bus_word.specs.Cell.{cell_of}
use Rattle.bus_word.specs.Command.{subaddress_of}
use Rattle.bus_legal.specs.Description.{Description}
use Rattle.recording_coverage.specs.declared.outcome.MessageEnd.{MessageEnd}
use Rattle.recording_coverage.specs.declared.outcome.OutcomeCounts.{OutcomeCounts}
use Rattle.recording_coverage.specs.declared.rows.CoveredMessage.{CoveredMessage}
use Rattle.recording_coverage.specs.declared.rows.IllegalMessage.{IllegalMessage}
use Rattle.recording_coverage.specs.Endings.{counts_of}
use Rattle.recording_coverage.specs.Messages.{is_same_message, has_this_cell, all_cells}

-- how often the messages of a cell came to each outcome
abbrev pub covered_in : List MessageEnd → Cell → CoveredMessage
covered_in ends cell = record { cell = cell; counts = counts_of (has_this_cell cell) ends }

-- the same of all legal cells
abbrev pub covered : Description → List MessageEnd → List CoveredMessage
covered P ends = map (covered_in ends) (filter P.legal all_cells)

-- the command is legal by its cell
abbrev pub has_legal_cell : (Cell → Bool) → Option Cell → Bool
has_legal_cell legal None = false
has_legal_cell legal (Some cell) = legal cell

-- no message came
abbrev pub are_none : OutcomeCounts → Bool
are_none c = (((c.in_error == 0) && (c.illegal == 0)) && ((c.blocked == 0) && (c.done == 0))) && ((c.superseded == 0) && (c.left_open == 0))

-- a command to the terminal of this address, or to all terminals, by the number of its T/R, subaddress and low field
abbrev pub command_at : ℕ → ℕ → ℕ
command_at address n = (if nat_le 2048 n then 31 else address) * 2048 + n % 2048

-- k commands, from a number on
unfoldable pub commands_by_number : ℕ → ℕ → ℕ → List ℕ
commands_by_number address n k = map (command_at address) (range_with_len n k)

-- An illegal command whose message came. Of a mode code one command is told, that of subaddress 0.
abbrev pub is_tried : Description → List MessageEnd → ℕ → Bool
is_tried P ends c = (not (subaddress_of c == 31) && not (has_legal_cell P.legal (cell_of c))) && not (are_none (counts_of (is_same_message c) ends))

-- how often its message came to each outcome
abbrev pub tried_in : List MessageEnd → ℕ → IllegalMessage
tried_in ends c = record { command = c; counts = counts_of (is_same_message c) ends }

-- the same of all illegal commands that came, of a list
abbrev pub tried_of : Description → List MessageEnd → List ℕ → List IllegalMessage
tried_of P ends cs = map (tried_in ends) (filter (is_tried P ends) cs)

-- of all commands
abbrev pub tried_illegal : Description → List MessageEnd → List IllegalMessage
tried_illegal P ends = tried_of P ends (commands_by_number P.address 0 4096)
