use Rattle.std.proofs.Common.{◌+◌, ◌≤◌, List, length}
use Rattle.script_lines.specs.Text.{lines_of}
use Rattle.terminal_bus.specs.Members.{Member}
use Rattle.terminal_bus.specs.AtMembers.{BusStandsAt}
use Rattle.script_terminals.specs.Playing.{reading_of}
use Rattle.script_terminals.proofs.PlayLaws.{Playing}
use Rattle.script_terminals.proofs.playing.play_on_bus.Given as goal

abbrev pub invariant-loop-rest : goal.invariant-loop-rest
invariant-loop-rest g l = (l.number + length l.rest ≤ 1 + length l.script)
    × ((members : List Member) → BusStandsAt g.L.Legality.is_legal members l.fn.bus
    → Playing g.L.Legality.is_legal l.told members (reading_of members l.script) l.number (lines_of l.rest) l.text.items l.warnings.items l.bus)

abbrev pub decreases-loop-rest : goal.decreases-loop-rest
decreases-loop-rest g l = length l.rest
