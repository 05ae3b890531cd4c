use Rattle.std.proofs.lemmas.Result.{on_err_weaker, IfOk-weaker}
use Rattle.bus_script.proofs.FeedLaws.{then_played, then_broken}
use Rattle.bus_script.proofs.sending.play_slots.Goals as goal

pub returns-in-Ok-clause-ok : goal.returns-in-Ok-clause-ok
returns-in-Ok-clause-ok g c = IfOk-weaker c.play_slot.result _ _
    (λ piece p. then_played (c.args.terminal.now, c.args.writer.now) (c.send_words.new.terminal, c.send_words.new.writer) (c.play_slot.new.terminal, c.play_slot.new.writer) c.args.bytes.now c.args.most
    c.in-Ok.piece piece c.if-piece-eq0.true c.in-Ok.ensures.ok p)
    c.play_slot.ensures.ok

pub returns-in-Ok-clause-err : goal.returns-in-Ok-clause-err
returns-in-Ok-clause-err g c = on_err_weaker c.play_slot.result
    (λ p. then_broken (c.args.terminal.now, c.args.writer.now) (c.send_words.new.terminal, c.send_words.new.writer) (c.play_slot.new.terminal, c.play_slot.new.writer) c.args.bytes.now c.args.most
    c.in-Ok.piece c.if-piece-eq0.true c.in-Ok.ensures.ok p)
    c.play_slot.ensures.err
