use Rattle.std.proofs.Common.{◌≡◌, ◌≤◌, drop, length}
use Rattle.bus_reports.specs.Load.{time_on}
use Rattle.bus_reports.proofs.load.time_on.Given as goal

abbrev pub invariant-loop-left : goal.invariant-loop-left
invariant-loop-left l = record {
  within : l.left ≤ length l.messages;
  so_far : l.time ≡ time_on l.bus l.times (drop l.left l.messages);
}

abbrev pub decreases-loop-left : goal.decreases-loop-left
decreases-loop-left l = l.left
