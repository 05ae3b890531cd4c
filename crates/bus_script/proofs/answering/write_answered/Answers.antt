use Rattle.std.proofs.Common.{◌≡◌, sym, subst, arith}
use Rattle.std.proofs.lemmas.Grind.{common_steps}
use Rattle.std.proofs.lemmas.Result.{on_ok_weaker, on_err_weaker}
use Rattle.std.proofs.KnownBytes.{Appends-nil}
use Rattle.std.specs.Io.KnownBytes.{Appends}
use Rattle.bus_terminal.specs.Answer.{shown_answer}
use Rattle.byte_streams.specs.Device.{IsPartWritten}
use Rattle.script_lines.specs.Transcript.{answer_text}
use Rattle.script_lines.proofs.TranscriptLaws.{small_text}
use Rattle.bus_script.proofs.answering.write_answered.Goals as goal

pub push_answer-requires : goal.push_answer-requires
push_answer-requires g c = let few = small_text (shown_answer c.args.answer.now) c.requires in grind (arith, common_steps)

pub returns-clause-ok : goal.returns-clause-ok
returns-clause-ok g c = on_ok_weaker c.write_all.result
    (λ wrote. let line : c.as_bytes.result.now ≡ answer_text (shown_answer c.args.answer.now) = grind (arith, common_steps) in
    subst (Appends (g.W.Sink.written c.args.writer.now) (g.W.Sink.written c.write_all.new.writer)) line wrote)
    c.write_all.ensures.ok

pub returns-clause-err : goal.returns-clause-err
returns-clause-err g c = on_err_weaker c.write_all.result
    (λ wrote. let line : c.as_bytes.result.now ≡ answer_text (shown_answer c.args.answer.now) = grind (arith, common_steps) in
    subst (IsPartWritten (g.W.Sink.written c.args.writer.now) (g.W.Sink.written c.write_all.new.writer)) line wrote)
    c.write_all.ensures.err

pub returns-then-is_silent-clause-ok : goal.returns-then-is_silent-clause-ok
returns-then-is_silent-clause-ok g c =
    subst (Appends (g.W.Sink.written c.args.writer.now) (g.W.Sink.written c.args.writer.now)) (sym (c.is_silent.ensures c.if-is_silent.true)) (Appends-nil (g.W.Sink.written c.args.writer.now))
