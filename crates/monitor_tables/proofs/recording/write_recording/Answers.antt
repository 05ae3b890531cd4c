use Rattle.std.proofs.Common.{refl}
use Rattle.monitor_tables.proofs.TableLaws.{put-whole, ends-early}
use Rattle.monitor_tables.proofs.recording.write_recording.Goals as goal

pub returns-in-None-clause-whole : goal.returns-in-None-clause-whole
returns-in-None-clause-whole g c =
    let p = c.in_ok-put.ensures.puts in
    let whole = put-whole c.in_ok-put.put c.in-None.is p in
    (p.told, whole.0, p.ns, whole.1, p.puts.notable, p.puts.text)

pub returns-in-Some-clause-early : goal.returns-in-Some-clause-early
returns-in-Some-clause-early g c = ends-early _ g.W.Sink.has_failed c.in_ok-put.put _ c.in-Some.is c.in_ok-put.ensures.puts _ refl _ c.end_early.ensures
