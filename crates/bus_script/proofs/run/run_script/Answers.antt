use Rattle.std.proofs.Common.{rules}
use Rattle.bus_script.proofs.FeedLaws.{ByFault-weaker}
use Rattle.bus_script.proofs.RunLaws.{IfSome-map, Ran-kept, Broke-kept, Ran-unsent, ByFault-script}
use Rattle.bus_script.proofs.run.run_script.Goals as goal

pub returns-in-Ok-flush_after_events-clause-ok : goal.returns-in-Ok-flush_after_events-clause-ok
returns-in-Ok-flush_after_events-clause-ok g c =
    IfSome-map (g.R.Source.left c.args.reader.now) _ _ (λ script p. (p.0, p.1, Ran-kept c.flush_after_events.ensures.bytes p.2)) c.in-Ok.ensures.ok

pub returns-in-Err-flush_after_events-clause-fault : goal.returns-in-Err-flush_after_events-clause-fault
returns-in-Err-flush_after_events-clause-fault g c =
    IfSome-map (g.R.Source.left c.args.reader.now) _ _
    (λ script p. Ran-unsent c.in-Err-flush_after_events.ensures.some p.1 c.flush_after_events.ensures.bytes p.2) c.in-Ok.ensures.ok

pub returns-in-Ok-flush_after_events-2-clause-fault : goal.returns-in-Ok-flush_after_events-2-clause-fault
returns-in-Ok-flush_after_events-2-clause-fault g c =
    IfSome-map (g.R.Source.left c.args.reader.now) _ _
    (λ script. ByFault-weaker c.in-Err.fault
    (λ p. (p.0, Ran-kept c.flush_after_events-in-Err.ensures.bytes p.2))
    (λ p. (p.0, p.1, p.2, p.3, p.4, p.5, Ran-kept c.flush_after_events-in-Err.ensures.bytes p.6))
    (λ p. (p.0, p.1, p.2, Broke-kept c.flush_after_events-in-Err.ensures.bytes p.3)))
    c.in-Err.ensures.fault

pub returns-in-Err-flush_after_events-2-clause-fault : goal.returns-in-Err-flush_after_events-2-clause-fault
returns-in-Err-flush_after_events-2-clause-fault g c =
    IfSome-map (g.R.Source.left c.args.reader.now) _ _
    (λ script stopped. let p = ByFault-script _ _ _ c.in-Err.fault (search rules) stopped in
    Ran-unsent c.in-Err-flush_after_events-2.ensures.some p.1 c.flush_after_events-in-Err.ensures.bytes p.2)
    c.in-Err.ensures.fault
