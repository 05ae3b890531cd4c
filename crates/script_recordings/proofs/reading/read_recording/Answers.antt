use Rattle.std.proofs.Common.{◌≡◌, ◌∙◌, IfSome, None, Ok, not, sym, ap, subst}
use Rattle.std.proofs.lemmas.Result.{err_from_is_err_and}
use Rattle.rt1553_verify.specs.Reader.{left_in}
use Rattle.recorded_terminal.specs.Marks.{maybe_in}
use Rattle.script_recordings.specs.Seen.{AreRecording, AreNoRecording}
use Rattle.script_recordings.specs.Messages.{InMessage, AreInMessages}
use Rattle.script_recordings.specs.inner.Reads.{NextSeen}
use Rattle.script_recordings.proofs.ReadLaws.{HeardSoFar, heard_none, heard_more, heard_silence, heard_all, heard_fault, of_script, messages_none, messages_next}
use Rattle.script_recordings.proofs.reading.read_recording.Goals as goal

pub events-init : goal.events-init
events-init g c = (
  subst (HeardSoFar (left_in g.B.Read.remaining c.new-reader.result.script) (left_in g.B.Read.remaining c.new-reader.result.script)) (sym c.new-recording.ensures.items)
      (heard_none (left_in g.B.Read.remaining c.new-reader.result.script)),
  messages_none c.args.address c.new-reader.result.address c.new-reader.result.command c.new-recording.result.items c.new-reader.ensures.message c.new-recording.ensures.items,
)

pub events-preserved-in-Continue-branch-3 : goal.events-preserved-in-Continue-branch-3
events-preserved-in-Continue-branch-3 g c = (
  subst (HeardSoFar (left_in g.B.Read.remaining c.new-reader.result.script) (left_in g.B.Read.remaining c.next.new.self.script)) (sym c.in_ok-push-in-Some.ensures.items)
      (heard_more (left_in g.B.Read.remaining c.new-reader.result.script) (left_in g.B.Read.remaining c.events.reader.script) (left_in g.B.Read.remaining c.next.new.self.script) c.events.recording.items
      c.in-Some.marked c.events.invariant.0
      (subst (λ o. NextSeen (left_in g.B.Read.remaining c.events.reader.script) (left_in g.B.Read.remaining c.next.new.self.script) (Ok o)) c.in-Some.is c.in_ok-marked.ensures.next)),
  messages_next c.args.address c.events.reader.address c.next.new.self.address c.events.reader.command c.next.new.self.command c.events.recording.items c.push.new.self.items
      c.in-Some.marked c.events.invariant.1
      (subst (λ o. IfSome o (λ m. InMessage c.events.reader.address c.events.reader.command m × (c.next.new.self.command ≡ m.command))) c.in-Some.is c.in_ok-marked.ensures.message)
      c.next.ensures.address c.in_ok-push-in-Some.ensures.items,
)

pub events-preserved : goal.events-preserved
events-preserved g c = (
  heard_silence (left_in g.B.Read.remaining c.new-reader.result.script) (left_in g.B.Read.remaining c.events.reader.script) (left_in g.B.Read.remaining c.next.new.self.script) c.next.new.self.silence
      c.events.recording.items (c.is_none.ensures ∙ ap not c.if-is_none.false) c.events.invariant.0 (c.in_ok-marked.ensures.ended c.in-None.is),
  (
    c.next.ensures.address ∙ c.events.invariant.1.0,
    subst (AreInMessages c.args.address None c.events.recording.items) (sym (c.in_ok-marked.ensures.kept c.in-None.is)) c.events.invariant.1.1,
  ),
)

pub returns-in_err-marked-clause-refused : goal.returns-in_err-marked-clause-refused
returns-in_err-marked-clause-refused g c =
    let r = c.from_residual in
    let p = err_from_is_err_and r.result r.ensures.1 in
    rw (p.1, p.2) (of_script (g.B.Read.remaining c.args.input) (left_in g.B.Read.remaining c.new-reader.result.script) (λ said. AreNoRecording said _) c.new-reader.ensures.reads
    (heard_fault (left_in g.B.Read.remaining c.new-reader.result.script) (left_in g.B.Read.remaining c.events.reader.script) (left_in g.B.Read.remaining c.next.new.self.script)
    c.events.recording.items _ c.events.invariant.0 c.in_err-marked.ensures.next))

pub returns-then-is_none-clause-read : goal.returns-then-is_none-clause-read
returns-then-is_none-clause-read g c =
    of_script (g.B.Read.remaining c.args.input) (left_in g.B.Read.remaining c.new-reader.result.script) (λ said. AreRecording said (maybe_in c.events.recording.items)) c.new-reader.ensures.reads
    (heard_all (left_in g.B.Read.remaining c.new-reader.result.script) (left_in g.B.Read.remaining c.events.reader.script) (left_in g.B.Read.remaining c.next.new.self.script) c.next.new.self.silence
    c.events.recording.items (c.is_none.ensures ∙ ap not c.if-is_none.true) c.events.invariant.0 (c.in_ok-marked.ensures.ended c.in-None.is))
