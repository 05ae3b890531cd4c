use Rattle.std.proofs.Common.{subst, sym, arith}
use Rattle.monitor_tables.specs.inner.Puts.{PutsNoted}
use Rattle.monitor_tables.proofs.PutLaws.{puts-nothing, puts-joined, untimed-taken}
use Rattle.monitor_tables.proofs.recording.put_others.Goals as goal

pub loop-item-init : goal.loop-item-init
loop-item-init g c = puts-nothing c.args.sink.now

pub loop-item-preserved : goal.loop-item-preserved
loop-item-preserved g c =
    subst (PutsNoted g.W.Sink.written c.args.sink.now c.put_heard.new.sink)
    (sym (untimed-taken c.args.heard.now c.loop-item.item-index _ (omega (arith, c.loop-item-test.true))))
    (puts-joined c.loop-item.invariant c.in_ok-put_heard.ensures.puts)
