use Rattle.std.proofs.Common.{◌≡◌, take, flat_map}
use Rattle.bus_reports.specs.Load.{group_rows}
use Rattle.bus_reports.proofs.load.rate_rows.Given as goal

abbrev pub invariant-loop-group : goal.invariant-loop-group
invariant-loop-group l = l.rows.items ≡ flat_map (group_rows l.times) (take l.group-index l.groups)
