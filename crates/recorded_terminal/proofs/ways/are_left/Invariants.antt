use Rattle.std.proofs.Common.{◌≡◌, true, take}
use Rattle.std.specs.List.{AllByRecursion}
use Rattle.recorded_terminal.proofs.ways.are_left.Given as goal

abbrev pub invariant-loop-way : goal.invariant-loop-way
invariant-loop-way g l = AllByRecursion (λ w. w.is_left ≡ true) (take l.way-index l.ways)
