use Rattle.std.proofs.Common.{◌≡◌, take}
use Rattle.terminal_rules.specs.LookBack.{some}
use Rattle.terminal_bus.specs.inner.Replying.{awaits_at}
use Rattle.terminal_bus.proofs.discipline.any_awaits.Given as goal

-- of the places so far
abbrev pub invariant-loop-place : goal.invariant-loop-place
invariant-loop-place g l = l.found ≡ some (awaits_at l.bus l.address) (take l.place-index l.places)
