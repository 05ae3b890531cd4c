use Rattle.std.proofs.Common.{arith}
use Rattle.terminal_rules.specs.declared.event.Event.TheVariants.{Slot}
use Rattle.bus_script.proofs.FeedLaws.{one_played, one_broken}
use Rattle.bus_script.proofs.sending.play_slot.Goals as goal

pub returns-in-Ok-clause-ok : goal.returns-in-Ok-clause-ok
returns-in-Ok-clause-ok g c =
    one_played (c.args.terminal.now, c.args.writer.now) (c.play_answered.new.terminal, c.play_answered.new.writer) c.args.bytes.now c.args.most 4 Slot c.of.result
    c.requires (omega arith) (c.is_slot_first.ensures c.if-not-is_slot_first.false) c.of.ensures c.in-Ok.ensures.ok

pub returns-in-Err-clause-err : goal.returns-in-Err-clause-err
returns-in-Err-clause-err g c =
    one_broken (c.args.terminal.now, c.args.writer.now) (c.play_answered.new.terminal, c.play_answered.new.writer) c.args.bytes.now c.args.most 4 Slot
    c.requires (omega arith) (c.is_slot_first.ensures c.if-not-is_slot_first.false) c.in-Err.ensures.err
