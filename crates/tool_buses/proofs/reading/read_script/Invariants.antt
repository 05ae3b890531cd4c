use Rattle.std.proofs.Common.{◌+◌, ◌≤◌, List, length}
use Rattle.terminal_bus.specs.Members.{Member}
use Rattle.script_terminals.specs.BusReading.{is_on_bus}
use Rattle.script_terminals.specs.Playing.{reading_of}
use Rattle.tool_buses.specs.Powered.{IsBusAt}
use Rattle.tool_buses.proofs.BusLefts.{ReadSo}
use Rattle.tool_buses.proofs.reading.read_script.Given as goal

abbrev pub invariant-loop-rest : goal.invariant-loop-rest
invariant-loop-rest l = (l.line + length l.rest ≤ 1 + length l.script)
    × ((members : List Member) → IsBusAt members l.bus → ReadSo (is_on_bus members) (reading_of members l.script) l.said.items l.line l.rest)

abbrev pub decreases-loop-rest : goal.decreases-loop-rest
decreases-loop-rest l = length l.rest
