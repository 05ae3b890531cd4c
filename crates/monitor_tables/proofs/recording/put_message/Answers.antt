use Rattle.std.proofs.Common.{subst, sym}
use Rattle.std.proofs.lemmas.Result.{on_ok_weaker}
use Rattle.monitor_tables.specs.inner.Puts.{PutsNoted}
use Rattle.monitor_tables.specs.Rows.{timed}
use Rattle.monitor_tables.proofs.PutLaws.{puts-joined}
use Rattle.monitor_tables.proofs.recording.put_message.Goals as goal

pub returns-clause-puts : goal.returns-clause-puts
returns-clause-puts g c =
    on_ok_weaker c.put_others.result
    (λ puts. subst (λ xs. PutsNoted g.W.Sink.written c.args.sink.now c.put_others.new.sink (timed c.args.time.now c.args.more xs)) (sym c.in-Some.ensures.cases.0)
    (puts-joined c.in_ok-put_heard.ensures.puts (puts-joined c.in_ok-put_some.ensures.puts puts)))
    c.put_others.ensures.puts
