use Rattle.std.proofs.Common.{◌≡◌, take}
use Rattle.terminal_rules.specs.LookBack.{some}
use Rattle.rt1553_expand.specs.Events.{hears_beside}
use Rattle.rt1553_expand.proofs.script_for.any_hears.Given as goal

-- of the addresses so far
abbrev pub invariant-loop-a : goal.invariant-loop-a
invariant-loop-a l = l.found ≡ some (hears_beside l.to l.sender) (take l.a-index l.addresses)
