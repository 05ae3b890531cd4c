use Rattle.std.proofs.Common.{take}
use Rattle.std.specs.Option.{option_map}
use Rattle.rt1553_draw.specs.inner.Drawn.{AreSoFar}
use Rattle.rt1553_draw.proofs.plan.messages_of.Given as goal

abbrev pub invariant-loop-of : goal.invariant-loop-of
invariant-loop-of l = AreSoFar (option_map (λ ls. ls.now) l.lines) (take l.of-index l.events) l.parts.items l.part
