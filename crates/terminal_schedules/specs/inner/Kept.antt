-- What is left behind at a terminal, by what it keeps.
use Rattle.std.specs.Prelude.{Option, Some, None, is_some}
use Rattle.bus_word.specs.declared.word.Bus.{Bus}
use Rattle.terminal_state.specs.declared.buses.OnBuses.{OnBuses}
use Rattle.terminal_state.specs.declared.message.InProgress.{InProgress}
use Rattle.terminal_state.specs.declared.message.Message.{Message}
use Rattle.terminal_state.specs.declared.registers.Registers.{Registers}
use Rattle.terminal_state.specs.declared.reply.Reply.{Reply}
use Rattle.terminal_state.specs.Buses.{on_bus}
use Rattle.terminal_schedules.specs.declared.left.LeftBehind.{LeftBehind}
use Rattle.terminal_schedules.specs.Left.{first_bus, left_among}

abbrev pub bus_of_message : Option Message → Option Bus
bus_of_message None = None
bus_of_message (Some m) = Some m.bus

abbrev pub left_by : InProgress → OnBuses → Option Reply → Registers → Option LeftBehind
left_by m heard reply r =
    left_among (bus_of_message m.message) (first_bus (λ b. on_bus b heard)) (first_bus (λ b. on_bus b r.off)) (is_some reply) r.flags.busy r.kept.error
