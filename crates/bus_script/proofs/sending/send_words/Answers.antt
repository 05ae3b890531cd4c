use Rattle.std.proofs.Common.{◌≡◌, ◌+◌, ◌/◌, ◌∙◌, length, take, sym, ap, subst, arith}
use Rattle.std.proofs.lemmas.Grind.{common_steps}
use Rattle.std.specs.Io.KnownBytes.{Appends}
use Rattle.terminal_rules.specs.declared.event.Event.TheVariants.{Slot}
use Rattle.bus_terminal.specs.Slots.{slots}
use Rattle.bus_script.specs.inner.Pieces.{IsPiece}
use Rattle.bus_script.proofs.SlotsLaws.{SlotsPiece, slots-play, slots-break, SlotsPiece-last}
use Rattle.bus_script.proofs.sending.send_words.Goals as goal

pub returns-then-written-lines-clause-err : goal.returns-then-written-lines-clause-err
returns-then-written-lines-clause-err g c =
    let n = c.push_words-count.result in
    let p = c.push_words-count.ensures in
    let s = p.sent (omega arith) in
    let k = c.write_front-written.result in
    let lines = c.as_bytes-lines.ensures.value ∙ c.as_str.ensures.value ∙ s.3 in
    let cut = slots-break c.args.terminal.now c.take_slots.new.self c.args.writer.now c.write_front-written.new.writer s.0 s.1 n k s.2
    (omega (arith, ap length lines)) s.4 c.take_slots.ensures
    (subst (λ xs. Appends (g.W.Sink.written c.args.writer.now) (g.W.Sink.written c.write_front-written.new.writer) (take k xs)) lines c.write_front-written.ensures.bytes) in
    (slots (k / 9), Slot, _, SlotsPiece-last c.args.bytes.now c.args.most (k / 9) (omega (arith, cut.0, p.most)) (p.lines (k / 9 + 1) (omega (arith, cut.0))), cut.1)

pub returns-clause-ok : goal.returns-clause-ok
returns-clause-ok g c =
    let n = c.push_words-count.result in
    let p = c.push_words-count.ensures in
    let s = p.sent (omega arith) in
    let lines = c.as_bytes-lines.ensures.value ∙ c.as_str.ensures.value ∙ s.3 in
    let full : take c.write_front-written.result c.as_bytes-lines.result.now ≡ c.as_bytes-lines.result.now = grind (arith, common_steps, c.write_front-written.ensures.within) in (
      slots n,
      subst (λ piece. IsPiece c.args.bytes.now c.args.most piece (slots n)) (sym c.of.ensures) (SlotsPiece c.args.bytes.now c.args.most n p.most (p.lines n (omega arith))),
      slots-play c.args.terminal.now c.take_slots-2.new.self c.args.writer.now c.write_front-written.new.writer s.0 s.1 n s.2 s.4 c.take_slots-2.ensures
          (subst (Appends (g.W.Sink.written c.args.writer.now) (g.W.Sink.written c.write_front-written.new.writer)) (full ∙ lines) c.write_front-written.ensures.bytes),
    )
