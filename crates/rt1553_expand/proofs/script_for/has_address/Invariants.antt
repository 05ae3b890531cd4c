use Rattle.std.proofs.Common.{◌≡◌, ◌==◌, take}
use Rattle.terminal_rules.specs.LookBack.{some}
use Rattle.rt1553_expand.proofs.script_for.has_address.Given as goal

-- of the addresses so far
abbrev pub invariant-loop-a : goal.invariant-loop-a
invariant-loop-a l = l.found ≡ some (λ a. a == l.address) (take l.a-index l.addresses)
