-- The message in progress, as the terminal holds it.
use Rattle.std.specs.Prelude.{ℕ, if◌then◌else◌, Option, Some, None, List}
use Rattle.bus_word.specs.declared.word.Bus.{Bus}
use Rattle.terminal_state.specs.declared.message.Collected.{Collected as InBuffer}
use Rattle.terminal_state.specs.declared.message.Collected.TheVariants as buffer
use Rattle.terminal_state.specs.declared.message.Phase.{Phase}
use Rattle.terminal_state.specs.declared.message.Phase.TheVariants as phase
use Rattle.terminal_state.specs.declared.decoded.Decoded.{Decoded}
use Rattle.terminal_state.specs.declared.message.Message.{Message}
use Rattle.terminal_state.specs.declared.message.InProgress.{InProgress}
use Rattle.terminal_state.specs.declared.message.GapEnd.{GapEnd as EndInBuffer}
use Rattle.terminal_state.specs.declared.message.GapEnd.TheVariants as end
use Rattle.terminal_rules.specs.Buses.{same_bus}
use Rattle.terminal_rules.specs.Open.{Idle, Collects, Waits, Resumes}
use Rattle.terminal_state.specs.Standing.{Collected, Words, Transmitter, Spoilt, Standing, GapEnd, NoEnd, InError, Complete}

-- what was collected, with the data words from the buffer
abbrev pub collected_in : InBuffer → List ℕ → Collected
collected_in buffer.Words ds = Words ds
collected_in (buffer.Transmitter a) ds = Transmitter a
collected_in buffer.Spoilt ds = Spoilt

-- the state of a message with this command, from its phase and the buffer
abbrev pub standing_in : ℕ → Phase → List ℕ → Standing
standing_in c (phase.Collects f) ds = Collects c (collected_in f ds)
standing_in c (phase.Waits a) ds = Waits c a
standing_in c (phase.Resumes f) ds = Resumes c (collected_in f ds)

-- the state of the message on a bus, where the one in progress is on that bus
abbrev pub standing_by : Bus → Option Message → List ℕ → Standing
standing_by b None ds = Idle
standing_by b (Some m) ds = if same_bus b m.bus then standing_in m.decoded.command m.phase ds else Idle

-- how the message on a bus stands
abbrev pub standing_on : Bus → InProgress → Standing
standing_on b m = standing_by b m.message m.words.items

-- the message in another phase, or none
abbrev pub in_phase : Message → Option Phase → Option Message
in_phase m None = None
in_phase m (Some p) = Some (record m { phase = p })

-- the end that a gap makes, with the words that were collected
abbrev pub gap_end_with : EndInBuffer → List ℕ → GapEnd
gap_end_with end.NoEnd ds = NoEnd
gap_end_with (end.InError c) ds = InError c
gap_end_with (end.Complete d) ds = Complete d.command ds

-- the command of a message, where there is one
abbrev pub command_in : Option Decoded → Option ℕ
command_in None = None
command_in (Some d) = Some d.command
