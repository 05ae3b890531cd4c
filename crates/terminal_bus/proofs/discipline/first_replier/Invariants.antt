use Rattle.std.proofs.Common.{◌≡◌, take, slice_get}
use Rattle.terminal_rules.specs.LookBack.{keep}
use Rattle.terminal_bus.specs.inner.Replying.{replier_at}
use Rattle.terminal_bus.proofs.discipline.first_replier.Given as goal

-- of the places so far
abbrev pub invariant-loop-place : goal.invariant-loop-place
invariant-loop-place g l = l.found ≡ slice_get (keep replier_at (take l.place-index l.places)) 0
