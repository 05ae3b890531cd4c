use Rattle.rt1553_differ.specs.inner.Alone.{alone_mask, said_before, AddsGroups}
use Rattle.rt1553_differ.proofs.groups.push_counts.Given as goal

abbrev pub invariant-loop-s : goal.invariant-loop-s
invariant-loop-s l = AddsGroups l.kind l.initial.groups.items l.groups.items (said_before (alone_mask l.p l.q l.kind) l.s)
