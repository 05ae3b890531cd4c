use Rattle.std.proofs.Common.{sym, subst}
use Rattle.rt1553_expand.specs.inner.Gathering.{WroteSo}
use Rattle.rt1553_expand.proofs.PieceLaws.{wrote-more}
use Rattle.rt1553_expand.proofs.gathering.lines_of_events.Goals as goal

pub loop-rest-preserved : goal.loop-rest-preserved
loop-rest-preserved c =
    subst (λ rest. WroteSo c.args.own.now c.args.events.now rest c.push_piece.new.out.items) (sym c.rest_from-rest.ensures)
    (wrote-more c.args.own.now c.args.events.now c.loop-rest.rest.now _ _ c.in_ok-taken.taken c.loop-rest.invariant c.in_ok-taken.ensures)
