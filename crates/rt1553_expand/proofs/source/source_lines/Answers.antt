use Rattle.std.proofs.Common.{◌++◌, ◌∙◌, ◌+◌, map, replicate, sym, ap, arith}
use Rattle.script_lines.specs.Text.{lines_of}
use Rattle.rt1553_expand.specs.Expansion.{placing}
use Rattle.rt1553_expand.specs.inner.StillLeft.{left_of, to_come}
use Rattle.rt1553_expand.proofs.PlacingLaws.{come-start, placing-on, placing-none, sources-end}
use Rattle.rt1553_expand.proofs.source.source_lines.Goals as goal

pub loop-rest-init : goal.loop-rest-init
loop-rest-init c = record {
  fits = c.nothing_pending-pending.ensures.fits;
  few = omega arith;
  lines = ap (map (λ it. it.source)) (sym (come-start (left_of c.nothing_pending-pending.result) (placing c.args.own.now 1 (lines_of c.args.text.now)) c.nothing_pending-pending.ensures.nothing c.nothing_pending-pending.ensures.stale))
      ∙ ap (λ t. t ++ map (λ it. it.source) (to_come (left_of c.nothing_pending-pending.result) (placing c.args.own.now 1 (lines_of c.args.text.now)))) (sym c.new-sources.ensures.items);
}

pub loop-rest-preserved : goal.loop-rest-preserved
loop-rest-preserved c =
    let i = c.loop-rest.invariant in
    let a = c.in_ok-push_sources.ensures in
    record {
      fits = a.fits;
      few = omega (arith, i.few, c.first_line.ensures.shorter);
      lines = i.lines
          ∙ ap (λ p. c.loop-rest.sources.items ++ map (λ it. it.source) (to_come (left_of c.loop-rest.pending) p))
          (placing-on c.args.own.now c.loop-rest.number c.loop-rest.rest.now c.first_line.result.0.now c.first_line.result.1.now c.first_line.ensures.lines)
          ∙ a.sources (placing c.args.own.now (c.loop-rest.number + 1) (lines_of c.first_line.result.1.now));
    }

pub returns : goal.returns
returns c =
    sym (c.loop-rest.invariant.lines
    ∙ ap (λ p. c.loop-rest.sources.items ++ map (λ it. it.source) (to_come (left_of c.loop-rest.pending) p)) (placing-none c.args.own.now c.loop-rest.number c.loop-rest.rest.now (grind arith))
    ∙ sources-end (left_of c.loop-rest.pending) _ _ (c.in_ok-push_times.ensures ∙ ap (λ n. c.loop-rest.sources.items ++ replicate n c.loop-rest.pending.source) c.how_many_left.ensures))
