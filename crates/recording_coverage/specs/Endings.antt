-- What came of the messages of some events, and how often with which outcome.
use Rattle.std.specs.Prelude.{ℕ, ◌-◌, ◌^◌, Bool, true, false, ◌&&◌, min, count_by, List, map}
use Rattle.bus_legal.specs.Description.{Description}
use Rattle.terminal_rules.specs.declared.event.Event.{Event}
use Rattle.terminal_messages.specs.declared.ending.MessageEnding.{MessageEnding}
use Rattle.terminal_messages.specs.declared.ending.MessageEnding.TheVariants.{Superseded, Open}
use Rattle.terminal_messages.specs.Message.{Message}
use Rattle.terminal_messages.specs.Parts.{command_begun, second_of, terminal_command}
use Rattle.terminal_messages.specs.Messages.{messages_of}
use Rattle.terminal_messages.specs.Ends.{ended_how}
use Rattle.terminal_messages.specs.Laws.{says_error, says_illegal, says_busy, says_done}
use Rattle.recording_coverage.specs.declared.outcome.MessageEnd.{MessageEnd}
use Rattle.recording_coverage.specs.declared.outcome.OutcomeCounts.{OutcomeCounts}

-- how a message ended, with its command for the terminal
abbrev pub counted_end : Description → Message → MessageEnd
counted_end P m = record { command = terminal_command P.address (command_begun m) (second_of m); ending = ended_how P m }

-- how each message of some events ended, from power-up
abbrev pub ends_of : Description → List Event → List MessageEnd
ends_of P es = map (counted_end P) (messages_of P es)

abbrev pub says_superseded : MessageEnding → Bool
says_superseded Superseded = true
says_superseded x = false

abbrev pub says_open : MessageEnding → Bool
says_open Open = true
says_open x = false

-- how many messages ended so, of those whose command passes
abbrev pub times : (ℕ → Bool) → (MessageEnding → Bool) → List MessageEnd → ℕ
times p says ends = count_by (λ m. p m.command && says m.ending) ends

-- a number as it is counted, in 64 bits
abbrev pub saturated : ℕ → ℕ
saturated n = min n (2 ^ 64 - 1)

-- how many with each outcome; a message for other terminals has none, and neither has a command that starts nothing
abbrev pub counts_of : (ℕ → Bool) → List MessageEnd → OutcomeCounts
counts_of p ends = record {
  in_error = saturated (times p says_error ends);
  illegal = saturated (times p says_illegal ends);
  blocked = saturated (times p says_busy ends);
  done = saturated (times p says_done ends);
  superseded = saturated (times p says_superseded ends);
  left_open = saturated (times p says_open ends);
}
