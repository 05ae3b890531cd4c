use Rattle.std.proofs.Common.{◌≡◌, ◌++◌, map}
use Rattle.rt1553_verify.specs.Stated.{shown, seen_on_bus}
use Rattle.rt1553_verify.proofs.stated.stated_on_bus.Given as goal

abbrev pub invariant-loop-stated : goal.invariant-loop-stated
invariant-loop-stated l = map shown l.seen.items ++ map seen_on_bus (map shown l.stated-iterator.rest.items) ≡ map seen_on_bus (map shown l.fn.script.items)
