use Rattle.std.proofs.Common.{◌∙◌, sym, []}
use Rattle.std.proofs.KnownBytes.{Appends-nil}
use Rattle.script_lines.proofs.TranscriptLaws.{unanswered}
use Rattle.bus_script.proofs.PlayLaws.{Played-one}
use Rattle.bus_script.proofs.answering.play_event.Goals as goal

pub returns-then-not-may_be_answered-clause-ok : goal.returns-then-not-may_be_answered-clause-ok
returns-then-not-may_be_answered-clause-ok g c =
    Played-one _ _ c.args.event [] c.take.ensures.takes
    (λ P h s. unanswered P h c.args.event (sym c.may_be_answered.ensures ∙ c.if-not-may_be_answered.true))
    (Appends-nil (g.W.Sink.written c.args.writer.now))
