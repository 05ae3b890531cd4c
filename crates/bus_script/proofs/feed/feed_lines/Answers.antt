use Rattle.std.proofs.Common.{[], ◌∷◌, ◌++◌, ◌+◌, ◌-◌, ◌<◌, length, take, drop, refl, subst, arith}
use Rattle.byte_streams.proofs.SinkLaws.{from_there}
use Rattle.bus_script.specs.inner.Lines.{Faults, StartsLine, IsRest, Means, IsRefused}
use Rattle.bus_script.specs.inner.Pieces.{IsPiece, BreaksPiece}
use Rattle.std.proofs.lemmas.Grind.{common_steps}
use Rattle.bus_script.specs.declared.fault.RunFault.TheVariants.{TooLong}
use Rattle.bus_script.proofs.ReadingLaws.{Faults-too_long_at}
use Rattle.bus_script.proofs.PlayLaws.{Played-nil}
use Rattle.bus_script.proofs.FeedLaws.{ByFault-weaker, Faults-first, LinePiece, Fed-nil, Fed-none, Fed-piece, Fed-fault, Fed-part}
use Rattle.bus_script.proofs.feed.feed_lines.Goals as goal

pub lines-init : goal.lines-init
lines-init g c = ([], Fed-nil (c.args.terminal.now, c.args.writer.now) c.args.counts.now c.args.chunk.now c.requires)

pub lines-preserved : goal.lines-preserved
lines-preserved g c =
    let same = from_there c.lines.at c.args.chunk.now in
    let i = Fed-none _ _ c.in-Ok.piece (omega arith) c.lines.invariant.1 c.in-Ok.ensures.ok in
    let starts = subst (λ xs. StartsLine c.lines.now.lines xs c.in-Ok-Some.len) same (rw c.in-Ok-Some.field-0-is at c.in-Ok-Some.ensures.ok) in
    let p = c.in-Ok-play_line.ensures.ok in
    let n = c.in-Ok-play_line.events in
    let room = starts.room in (
      c.lines.invariant.0 ++ p.0,
      Fed-piece 1 (record { bytes = c.in-Ok-Some.len + 1; lines = 1; events = n }) p.0 i
          (LinePiece (drop c.lines.at c.args.chunk.now) c.lines.now.lines c.in-Ok-Some.len n p.0 starts p.1 c.in-Ok-play_line.ensures.few (subst (λ xs. Means (take c.in-Ok-Some.len xs) p.0) same p.2))
          (omega (arith, room)) p.3,
    )

pub returns-in-Err-clause-fault : goal.returns-in-Err-clause-fault
returns-in-Err-clause-fault g c =
    let i = c.lines.invariant in
    let most = 1048576 - c.lines.now.lines in (
      c.in-Err.ensures.failed,
      Fed-part most i.1
          (subst (λ xs. BreaksPiece g.L.Legality.is_legal g.W.Sink.written (c.lines.terminal, c.lines.writer) (c.play_usual.new.terminal, c.play_usual.new.writer) xs most) (from_there c.lines.at c.args.chunk.now) c.in-Err.ensures.err)
          (omega (arith, i.1.counts.most)),
    )

pub returns-in-Ok-None-clause-ok : goal.returns-in-Ok-None-clause-ok
returns-in-Ok-None-clause-ok g c =
    let rest = rw c.in-Ok-None.field-0-is at c.in-Ok-None.ensures.ok in
    (c.lines.invariant.0, Fed-none _ _ c.in-Ok.piece (omega arith) c.lines.invariant.1 c.in-Ok.ensures.ok, subst (IsRest c.lines.now.lines) (from_there c.lines.at c.args.chunk.now) rest)

pub returns-in-Err-next_line-clause-fault : goal.returns-in-Err-next_line-clause-fault
returns-in-Err-next_line-clause-fault g c =
    let i = Fed-none _ _ c.in-Ok.piece (omega arith) c.lines.invariant.1 c.in-Ok.ensures.ok in
    let f = c.in-Err-next_line.fault in
    ByFault-weaker f
    (λ faults. Fed-fault f i (subst (λ xs. Faults c.lines.now.lines xs [] f) (from_there c.lines.at c.args.chunk.now) faults) (Played-nil (c.play_usual.new.terminal, c.play_usual.new.writer)))
    (λ x. x) (λ x. absurd x) c.in-Err-next_line.ensures.fault

pub returns-in-Err-play_line-clause-fault : goal.returns-in-Err-play_line-clause-fault
returns-in-Err-play_line-clause-fault g c =
    let i = Fed-none _ _ c.in-Ok.piece (omega arith) c.lines.invariant.1 c.in-Ok.ensures.ok in
    let f = c.in-Err-play_line.fault in
    let len = c.in-Ok-Some.len in
    let same = from_there c.lines.at c.args.chunk.now in
    let starts = subst (λ xs. StartsLine c.lines.now.lines xs len) same (rw c.in-Ok-Some.field-0-is at c.in-Ok-Some.ensures.ok) in
    let room = starts.room in
    ByFault-weaker f
    (λ s. Fed-fault f i (Faults-first c.lines.now.lines (drop c.lines.at c.args.chunk.now) len f starts (subst (λ xs. IsRefused (take len xs) c.lines.now.lines f) same s.0)) s.1)
    (λ x. x)
    (λ s. (
      s.2,
      Fed-part 1 i (
        [],
        s.0,
        record { bytes = len + 1; lines = 1; events = 1 },
        LinePiece (drop c.lines.at c.args.chunk.now) c.lines.now.lines len 1 (s.0 ∷ []) starts refl (omega arith) (subst (λ xs. Means (take len xs) (s.0 ∷ [])) same s.1),
        s.3,
      )
          (omega (arith, room)),
    ))
    c.in-Err-play_line.ensures.fault

pub lines-preserved-in-Ok : goal.lines-preserved-in-Ok
lines-preserved-in-Ok g c =
    let i = c.lines.invariant in
    let p = c.in-Ok.ensures.ok in
    let most = 1048576 - c.lines.now.lines in
    (i.0 ++ p.0, Fed-piece most c.in-Ok.piece p.0 i.1 (subst (λ xs. IsPiece xs most c.in-Ok.piece p.0) (from_there c.lines.at c.args.chunk.now) p.1) (omega (arith, i.1.counts.most)) p.2)

pub returns-then-now-eq-MAX_LINES-clause-fault : goal.returns-then-now-eq-MAX_LINES-clause-fault
returns-then-now-eq-MAX_LINES-clause-fault g c =
    let some : 0 < length (drop c.lines.at c.args.chunk.now) = grind (arith, common_steps) in
    Fed-fault TooLong c.lines.invariant.1 (Faults-too_long_at c.lines.now.lines (drop c.lines.at c.args.chunk.now) (omega arith) some) (Played-nil (c.lines.terminal, c.lines.writer))
