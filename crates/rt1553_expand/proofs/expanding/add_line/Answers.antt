use Rattle.std.proofs.Common.{ap, subst, ◌+◌}
use Rattle.rt1553_expand.specs.inner.Wrote.{Wrote}
use Rattle.rt1553_expand.proofs.ReadLaws.{added-by}
use Rattle.rt1553_expand.proofs.expanding.add_line.Goals as goal

pub returns-clause-added : goal.returns-clause-added
returns-clause-added c = λ _.
    added-by c.args.own.now c.args.number c.args.script.now _ c.args.line.now c.in-Ok.read c.write_lines.new.out.items c.events_before_line-count.result c.in-Ok.ensures.said c.in-Ok.ensures.sound
    (c.events_before_line-count.ensures.value c.args.own.now) (subst (λ es. Wrote c.args.script.now.text.items c.write_lines.new.out.items es) c.next_events.ensures c.in_ok-write_lines.ensures)
    (c.in_ok-push_kept.ensures c.args.own.now c.args.number) c.in_ok-go_behind.ensures.left c.in_ok-go_behind.ensures.fits (ap (λ k. c.args.script.now.lines + k) c.lines_for.ensures.value) c.if-lines.false
