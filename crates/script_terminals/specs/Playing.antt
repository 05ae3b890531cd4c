-- What comes of a script that is played to a bus of terminals.
use Rattle.std.specs.Prelude.{ℕ, ◌≡◌, Bool, List}
use Rattle.bus_word.specs.declared.cell.Cell.{Cell}
use Rattle.script_lines.specs.Text.{lines_of}
use Rattle.terminal_bus.specs.declared.event.BusEvent.{BusEvent}
use Rattle.terminal_bus.specs.declared.bus.TerminalBus.{TerminalBus}
use Rattle.terminal_bus.specs.Members.{Member, play}
use Rattle.terminal_bus.specs.AtMembers.{BusStandsAt}
use Rattle.script_terminals.specs.declared.playing.BusTold.{BusTold}
use Rattle.script_terminals.specs.declared.playing.BusTold.TheVariants.{Answers, CameTo}
use Rattle.script_terminals.specs.declared.playing.PlayedOnBus.{PlayedOnBus}
use Rattle.script_terminals.specs.BusTexts.{step_text, came_text_at, texts_told}
use Rattle.script_terminals.specs.BusReading.{BusReading, bus_reading, said_events, is_on_bus, warnings}

-- what is told of each thing that happens
abbrev pub text_told : BusTold → List Member → BusEvent → List ℕ
text_told Answers = step_text
text_told (CameTo k) = came_text_at k

-- what a script says to these members
abbrev pub reading_of : List Member → List ℕ → BusReading
reading_of members script = bus_reading (is_on_bus members) 1 (lines_of script)

-- What is played is what the script says before its first fault, from these members on: just that is told, with what in it
-- breaks the discipline, and the bus stands after it.
pub record PlaysScript {L : Type 0} (is_legal : L → Cell → Bool) (told : BusTold) (members : List Member) (script : List ℕ) (played : PlayedOnBus) (bus : TerminalBus L) : Type 0 where
  pub text : played.text.items ≡ texts_told (text_told told) members (said_events (reading_of members script).said)
  pub warnings : played.warnings.items ≡ warnings members (reading_of members script).said
  pub fault : played.fault ≡ (reading_of members script).fault
  pub stands : BusStandsAt is_legal (play members (said_events (reading_of members script).said)) bus
