use Rattle.std.proofs.Common.{◌≡◌, None, replicate, refl, subst, arith}
use Rattle.rt1553_results.specs.inner.Placed.{Sees, placed_slots}
use Rattle.rt1553_results.proofs.RecordedLaws.{sees_slot}
use Rattle.rt1553_results.proofs.watching.see_silence.Goals as goal

pub loop-more-preserved : goal.loop-more-preserved
loop-more-preserved c =
    sees_slot c.args.first.number c.args.first.command c.args.first.slot c.loop-more.more _ c.args.watch.now c.loop-more.watch c.see.new.watch
    refl refl refl
    c.loop-more.invariant c.in_ok-see.ensures

pub returns : goal.returns
returns c =
    let f = c.args.first in
    let all : c.loop-more.more ≡ c.args.count = omega (arith, c.loop-more-test.false) in
    subst (λ n. Sees (placed_slots f.number f.command f.slot (replicate n None)) c.args.watch.now c.loop-more.watch) all c.loop-more.invariant
