use Rattle.std.proofs.Common.{◌≡◌, ◌∙◌, [], List, ap, subst}
use Rattle.std.proofs.lemmas.Result.{err_from_is_err_and}
use Rattle.bus_legal.specs.Description.{Description}
use Rattle.bus_legal.specs.Parts.{description_in}
use Rattle.bus_legal.specs.Reach.{reach}
use Rattle.recorded_terminal.specs.declared.watch.Marked.{Marked}
use Rattle.recorded_terminal.specs.Marks.{maybe_in, HasManyWays}
use Rattle.script_lines.specs.EventLine.{script_text}
use Rattle.script_recordings.specs.inner.Plays.{PlaysSeen}
use Rattle.script_recordings.specs.inner.Settled.{IsSettled}
use Rattle.script_recordings.proofs.ReadLaws.{settle_refused, memory_refused, unread_refused}
use Rattle.script_recordings.proofs.ExplainedLaws.{witness_by}
use Rattle.script_recordings.proofs.telling.witness.Goals as goal

pub returns-clause-plays : goal.returns-clause-plays
returns-clause-plays g c =
    let v = c.args.normal.now in
    let D : Description = description_in v in
    let events = c.in_ok-events.events.items in
    witness_by (g.B.Read.remaining c.args.input) D c.in_ok-recording.recording.items c.in_ok-settled.settled.items _ events
    (subst (λ (l : List Marked). IsSettled D [] l c.in_ok-settled.settled.items) c.as_slice.ensures.value c.in_ok-settled.ensures.settled) c.in_ok-recording.ensures.read
    (c.in_ok-script_of.ensures ∙ ap script_text c.as_slice-3.ensures.value)
    c.in_ok-events.ensures.alike
    (subst (λ (l : List Marked). (P : Description) → D ≡ reach P → PlaysSeen P l events) c.as_slice-2.ensures.value c.in_ok-events.ensures.plays)

pub returns-in_err-recording-clause-refused : goal.returns-in_err-recording-clause-refused
returns-in_err-recording-clause-refused g c =
    let r = c.from_residual in
    let p = err_from_is_err_and r.result r.ensures.1 in
    rw (p.1, p.2) (unread_refused (g.B.Read.remaining c.args.input) _ c.in_err-recording.ensures.refused)

pub returns-in_err-settled-clause-refused : goal.returns-in_err-settled-clause-refused
returns-in_err-settled-clause-refused g c =
    let r = c.from_residual-in_err-settled in
    let p = err_from_is_err_and r.result r.ensures.1 in
    rw (p.1, p.2) (settle_refused (g.B.Read.remaining c.args.input) c.in_ok-recording.recording.items _ c.in_ok-recording.ensures.read
    (λ same. subst (λ l. HasManyWays (maybe_in l)) c.as_slice.ensures.value (c.in_err-settled.ensures.refused same)))
