use Rattle.rt1553_expand.proofs.ReadLaws.{sources-by}
use Rattle.rt1553_expand.proofs.source.push_sources.Goals as goal

pub returns-clause-sources : goal.returns-clause-sources
returns-clause-sources c =
    sources-by c.args.own.now c.args.number _ _ c.args.line.now c.in-Ok.read _ _ _ c.events_before_line-count.result c.in-Ok.ensures.said (c.events_before_line-count.ensures.value c.args.own.now) c.events_before_line-count.ensures.within
    c.in_ok-push_times.ensures (c.in_ok-push_own.ensures c.args.own.now c.args.line.now) c.in_ok-go_behind.ensures.left
