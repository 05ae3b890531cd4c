use Rattle.std.proofs.Common.{◌≡◌, ◌++◌, ◌+◌, ◌≤◌, length, map}
use Rattle.script_lines.specs.Text.{lines_of}
use Rattle.rt1553_expand.specs.OnBus.{bus_refusal_of, bus_refusals_from}
use Rattle.rt1553_expand.proofs.on_bus.refused_on_bus.Given as goal

abbrev pub invariant-loop-rest : goal.invariant-loop-rest
invariant-loop-rest l = (l.number + length l.rest ≤ 1 + length l.text)
    × (bus_refusals_from l.own 1 (lines_of l.text) ≡ map bus_refusal_of l.found.items ++ bus_refusals_from l.own l.number (lines_of l.rest))

abbrev pub decreases-loop-rest : goal.decreases-loop-rest
decreases-loop-rest l = length l.rest
