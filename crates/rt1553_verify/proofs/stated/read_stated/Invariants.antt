use Rattle.std.proofs.Common.{◌≡◌, ◌≤◌, length, map, option_map, false}
use Rattle.script_lines.specs.Text.{lines_of}
use Rattle.rt1553_verify.specs.Stated.{shown, then_events, stated_by, stated_in}
use Rattle.rt1553_verify.proofs.stated.read_stated.Given as goal

abbrev pub invariant-loop-rest : goal.invariant-loop-rest
invariant-loop-rest l = (l.lines ≤ 1048576)
    × (stated_in l.script ≡ then_events (map shown l.read.items) (stated_by false 1048576 l.lines (option_map shown l.latest) (lines_of l.rest)))

abbrev pub decreases-loop-rest : goal.decreases-loop-rest
decreases-loop-rest l = length l.rest
