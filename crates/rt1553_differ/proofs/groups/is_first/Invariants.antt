use Rattle.std.proofs.Common.{◌≡◌, ◌-◌, false}
use Rattle.rt1553_differ.specs.inner.Alone.{alone_mask, is_had}
use Rattle.rt1553_differ.proofs.groups.is_first.Given as goal

abbrev pub invariant-loop-t : goal.invariant-loop-t
invariant-loop-t l = is_had (alone_mask l.p l.q l.kind l.first) (l.t - 1) (alone_mask l.p l.q l.kind l.first l.s) ≡ false
