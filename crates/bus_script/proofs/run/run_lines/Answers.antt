use Rattle.std.proofs.Common.{[], ◌++◌, ◌≡◌, ◌≤◌, ◌+◌, length, take, subst, refl, sym, ap, arith}
use Rattle.std.proofs.lemmas.Result.{on_ok_weaker, IfErr-weaker}
use Rattle.bus_script.proofs.FeedLaws.{ByFault-weaker}
use Rattle.bus_script.proofs.RunLaws.{Running, Running-nil, Running-fed, Running-unsent, Running-unread, Running-refused, Running-broken, Running-end, Running-done, Running-last_refused, Running-last_broken, ByFault-IfSome, rest_len, no_bytes, same_front}
use Rattle.bus_script.proofs.run.run_lines.Goals as goal

pub reads-init : goal.reads-init
reads-init g c = record {
  buffered = omega arith;
  fits = refl;
  running = ([], [], Running-nil (g.R.Source.left c.args.reader.now) (c.args.terminal.now, c.args.writer.now) c.args.counts.now c.requires.lines c.requires.events);
}

pub returns-in-Err-clause-fault : goal.returns-in-Err-clause-fault
returns-in-Err-clause-fault g c = Running-unsent c.flush_after_events.new.writer c.reads.invariant.running.2 c.flush_after_events.ensures.bytes c.in-Err.ensures.some

pub returns-in-Err-fill-clause-fault : goal.returns-in-Err-fill-clause-fault
returns-in-Err-fill-clause-fault g c = Running-unread _ c.flush_after_events.new.writer c.reads.invariant.running.2 c.flush_after_events.ensures.bytes c.in-Err-fill.ensures.err

pub returns-in-Err-feed_lines-clause-fault : goal.returns-in-Err-feed_lines-clause-fault
returns-in-Err-feed_lines-clause-fault g c =
    let chunk = take (c.reads.buffered + c.in-Ok-fill.count) c.fill.new.buffer in
    let f = c.in-Ok-fill.ensures.ok in
    let r = c.reads.invariant.running.2 in
    ByFault-IfSome c.in-Err-feed_lines.fault (g.R.Source.left c.args.reader.now) _ _ _
    (ByFault-weaker c.in-Err-feed_lines.fault
    (λ s. Running-refused _ c.feed_lines.new.counts f.0 chunk r c.flush_after_events.ensures.bytes f.3 f.2 s)
    (λ x. x)
    (λ w. Running-broken _ f.0 chunk r c.flush_after_events.ensures.bytes f.3 f.2 w.1)
    c.in-Err-feed_lines.ensures.fault)

pub reads-preserved : goal.reads-preserved
reads-preserved g c =
    let chunk = take (c.reads.buffered + c.in-Ok-fill.count) c.fill.new.buffer in
    let f = c.in-Ok-fill.ensures.ok in
    let p = c.in-Ok-feed_lines.ensures.ok in
    let within = p.1.within in
    let short = p.2.short in
    let fits : c.reads.buffered + c.in-Ok-fill.count ≤ length c.fill.new.buffer = c.in-Ok-fill.ensures.fits in
    record {
      buffered = rest_len c.in-Ok-feed_lines.done (c.reads.buffered + c.in-Ok-fill.count) c.fill.new.buffer fits short;
      fits = omega arith;
      running = (
        c.reads.invariant.running.0 ++ take c.in-Ok-feed_lines.done chunk,
        c.reads.invariant.running.1 ++ p.0,
        subst (λ xs. Running g.L.Legality.is_legal g.W.Sink.written (g.R.Source.left c.args.reader.now) (g.R.Source.left c.fill.new.reader) (c.args.terminal.now, c.args.writer.now)
            (c.feed_lines.new.terminal, c.feed_lines.new.writer) c.feed_lines.new.counts xs (c.reads.invariant.running.0 ++ take c.in-Ok-feed_lines.done chunk) (c.reads.invariant.running.1 ++ p.0))
            (sym c.move_to_front.ensures)
            (Running-fed f.0 chunk c.reads.invariant.running.2 c.flush_after_events.ensures.bytes f.3 f.2 p.1 p.2),
      );
    }

pub returns-clause-fault : goal.returns-clause-fault
returns-clause-fault g c =
    let f = c.in-Ok-fill.ensures.ok in
    let none : f.0 ≡ [] = no_bytes f.0 c.in-Ok-fill.count f.1 c.if-count-eq0.true in
    let still = same_front c.reads.buffered c.in-Ok-fill.count f.0 c.reads.buffer c.fill.new.buffer c.if-count-eq0.true none f.2 in
    let r = Running-end f.0 c.reads.invariant.running.2 c.flush_after_events.ensures.bytes f.3 none in
    IfErr-weaker c.finish.result _ _
    (λ fault stopped. ByFault-IfSome fault (g.R.Source.left c.args.reader.now) _ _ _
    (ByFault-weaker fault
    (λ s. Running-last_refused r (f.4 c.if-count-eq0.true) (rw still at s.0) (ap (λ counts. counts.events) s.1) s.2)
    (λ x. x)
    (λ w. Running-last_broken r (f.4 c.if-count-eq0.true) (rw still at w.1) w.3)
    stopped))
    c.finish.ensures.fault

pub returns-clause-ok : goal.returns-clause-ok
returns-clause-ok g c =
    let f = c.in-Ok-fill.ensures.ok in
    let none : f.0 ≡ [] = no_bytes f.0 c.in-Ok-fill.count f.1 c.if-count-eq0.true in
    let still = same_front c.reads.buffered c.in-Ok-fill.count f.0 c.reads.buffer c.fill.new.buffer c.if-count-eq0.true none f.2 in
    let r = Running-end f.0 c.reads.invariant.running.2 c.flush_after_events.ensures.bytes f.3 none in
    on_ok_weaker c.finish.result (λ p. Running-done r (f.4 c.if-count-eq0.true) (rw still at p.1) p.2 p.3) c.finish.ensures.ok
