use Rattle.std.proofs.Common.{◌≡◌, ◌∙◌, None, List, take, drop, take-append-drop, ap, subst}
use Rattle.std.proofs.lemmas.Result.{err_from_is_err_and}
use Rattle.bus_legal.specs.Parts.{description_in}
use Rattle.terminal_recordings.specs.Later.{shut_history}
use Rattle.recorded_terminal.specs.declared.watch.Marked.{Marked}
use Rattle.recorded_terminal.specs.Behaviour.{IsBehaviourAfter}
use Rattle.recorded_terminal.specs.Follows.{shut_down}
use Rattle.recorded_terminal.specs.Judged.{IsJudged, IsJudgedBy}
use Rattle.recorded_terminal.specs.Marks.{maybe_in, seen_in, HasManyWays}
use Rattle.script_lines.specs.EventLine.{script_text}
use Rattle.script_recordings.specs.inner.Settled.{IsSettled}
use Rattle.recorded_terminal.proofs.GapLaws.{many_back}
use Rattle.script_recordings.proofs.ReadLaws.{settle_refused, memory_refused, unread_refused}
use Rattle.script_recordings.proofs.SinceLaws.{no_part, later_witness_by}
use Rattle.script_recordings.proofs.telling.witness_since.Goals as goal

pub returns-in_default-clause-plays : goal.returns-in_default-clause-plays
returns-in_default-clause-plays g c =
    let D = description_in c.args.normal.now in
    no_part (g.B.Read.remaining c.args.input) D c.in_ok-recording.recording.items c.in_ok-recording.ensures.read
    (subst (λ (l : List Marked). IsJudgedBy D l None) c.as_slice.ensures.value (subst (IsJudgedBy D c.as_slice.result.now) c.in_default.is c.in_ok-part.ensures.judged))

pub returns-clause-plays : goal.returns-clause-plays
returns-clause-plays g c =
    let D = description_in c.args.normal.now in
    let ms : List Marked = c.in_ok-recording.recording.items in
    let it = c.in-Some.part in
    let judged : IsJudged D ms it = subst (λ (l : List Marked). IsJudged D l it) c.as_slice.ensures.value (subst (IsJudgedBy D c.as_slice.result.now) c.in-Some.is c.in_ok-part.ensures.judged) in
    later_witness_by (g.B.Read.remaining c.args.input) D ms c.in_ok-settled.settled.items it c.in_ok-events.events.items _ c.in_ok-events.ensures.normal.address c.in_ok-recording.ensures.read judged
    (subst (λ (l : List Marked). IsSettled D (shut_history D (shut_down it.shut)) l c.in_ok-settled.settled.items) (c.behind-behind.ensures ∙ ap (drop it.before) c.as_slice-2.ensures.value) c.in_ok-settled.ensures.settled)
    (subst (λ (l : List Marked). IsBehaviourAfter D (shut_down it.shut) (seen_in l) c.in_ok-events.events.items) c.as_slice-3.ensures.value c.in_ok-events.ensures.events)
    (c.in_ok-script_of.ensures ∙ ap script_text c.as_slice-4.ensures.value)

pub returns-in_err-recording-clause-refused : goal.returns-in_err-recording-clause-refused
returns-in_err-recording-clause-refused g c =
    let r = c.from_residual in
    let p = err_from_is_err_and r.result r.ensures.1 in
    rw (p.1, p.2) (unread_refused (g.B.Read.remaining c.args.input) _ c.in_err-recording.ensures.refused)

pub returns-in_err-part-clause-refused : goal.returns-in_err-part-clause-refused
returns-in_err-part-clause-refused g c =
    let r = c.from_residual-in_err-part in
    let p = err_from_is_err_and r.result r.ensures.1 in
    rw (p.1, p.2) (settle_refused (g.B.Read.remaining c.args.input) c.in_ok-recording.recording.items _ c.in_ok-recording.ensures.read
    (λ same. subst (λ l. HasManyWays (maybe_in l)) c.as_slice.ensures.value (c.in_err-part.ensures.refused same)))

pub returns-in_err-settled-clause-refused : goal.returns-in_err-settled-clause-refused
returns-in_err-settled-clause-refused g c =
    let r = c.from_residual-in_err-settled in
    let p = err_from_is_err_and r.result r.ensures.1 in
    rw (p.1, p.2) (settle_refused (g.B.Read.remaining c.args.input) c.in_ok-recording.recording.items _ c.in_ok-recording.ensures.read
    (λ same.
    let ms : List Marked = c.in_ok-recording.recording.items in
    let n = c.in-Some.part.before in
    let part : c.behind-behind.result.now ≡ drop n ms = c.behind-behind.ensures ∙ ap (drop n) c.as_slice-2.ensures.value in
    subst (λ l. HasManyWays (maybe_in l)) (take-append-drop n ms) (many_back (take n ms) (drop n ms) (subst (λ l. HasManyWays (maybe_in l)) part (c.in_err-settled.ensures.refused same)))))

pub returns-in_err-events-clause-refused : goal.returns-in_err-events-clause-refused
returns-in_err-events-clause-refused g c =
    let r = c.from_residual-in_err-events in
    let p = err_from_is_err_and r.result r.ensures.1 in
    rw (p.1, p.2) (memory_refused (g.B.Read.remaining c.args.input))

pub returns-in_err-script_of-clause-refused : goal.returns-in_err-script_of-clause-refused
returns-in_err-script_of-clause-refused g c =
    let r = c.from_residual-in_err-script_of in
    let p = err_from_is_err_and r.result r.ensures.1 in
    rw (p.1, p.2) (memory_refused (g.B.Read.remaining c.args.input))
