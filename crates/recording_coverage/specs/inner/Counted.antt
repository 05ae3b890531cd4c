-- One more message that came.
use Rattle.std.specs.Prelude.{ℕ, ◌+◌, nat_lt, if◌then◌else◌, List, map, length, get_or, set}
use Rattle.bus_legal.specs.Description.{Description}
use Rattle.terminal_rules.specs.declared.event.Event.{Event}
use Rattle.terminal_messages.specs.declared.ending.MessageEnding.{MessageEnding}
use Rattle.terminal_messages.specs.declared.ending.MessageEnding.TheVariants.{InError, Illegal, Busy, Done, Superseded, Open}
use Rattle.terminal_messages.specs.declared.state.MessageState.{MessageState}
use Rattle.terminal_messages.specs.Parts.{tell, terminal_command}
use Rattle.terminal_messages.specs.Messages.{closed}
use Rattle.terminal_messages.specs.View.{View}
use Rattle.recording_coverage.specs.declared.outcome.MessageEnd.{MessageEnd}
use Rattle.recording_coverage.specs.declared.outcome.OutcomeCounts.{OutcomeCounts}
use Rattle.recording_coverage.specs.Endings.{saturated, counted_end}
use Rattle.recording_coverage.specs.Covers.{no_counts}

-- how a message ended, by what is told of it
abbrev pub end_told : ℕ → MessageState → MessageEnd
end_told own s = record { command = terminal_command own s.command s.second; ending = s.«end» }

abbrev pub ends_told : ℕ → List View → List MessageEnd
ends_told own vs = map (λ v. end_told own v.state) vs

-- how the messages ended that are over at a history
abbrev pub ends_over : Description → List Event → List MessageEnd
ends_over P h = map (counted_end P) (closed (tell P h))

-- one more that ended so
abbrev pub with_one : MessageEnding → OutcomeCounts → OutcomeCounts
with_one (InError cause) c = record c { in_error = saturated (c.in_error + 1) }
with_one Illegal c = record c { illegal = saturated (c.illegal + 1) }
with_one Busy c = record c { blocked = saturated (c.blocked + 1) }
with_one Done c = record c { done = saturated (c.done + 1) }
with_one Superseded c = record c { superseded = saturated (c.superseded + 1) }
with_one Open c = record c { left_open = saturated (c.left_open + 1) }
with_one _ c = c

-- the same at this place of a table, where there is one
abbrev pub with_one_at : ℕ → MessageEnding → List OutcomeCounts → List OutcomeCounts
with_one_at n ending table = if nat_lt n (length table) then set table n (with_one ending (get_or table n no_counts)) else table
