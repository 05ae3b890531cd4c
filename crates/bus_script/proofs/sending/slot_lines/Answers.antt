use Rattle.std.proofs.Common.{◌∙◌, drop, ap, subst, arith}
use Rattle.terminal_rules.specs.declared.event.Event.TheVariants.{Slot}
use Rattle.byte_streams.proofs.SinkLaws.{from_there}
use Rattle.script_lines.specs.Begins.{BeginsWith}
use Rattle.bus_script.proofs.SlotsLaws.{SlotsFirst-more, behind-slot}
use Rattle.bus_script.proofs.sending.slot_lines.Goals as goal

pub loop-count-preserved : goal.loop-count-preserved
loop-count-preserved c =
    let i = c.loop-count.invariant in
    let bytes = c.args.bytes.now in
    let n = c.loop-count.count in
    record {
      few = omega (arith, c.loop-count-test.true);
      lines = SlotsFirst-more bytes n i.lines (subst (λ xs. BeginsWith xs 4 Slot) i.rest (c.is_slot_first.ensures c.if-is_slot_first.true));
      rest = from_there 5 c.loop-count.rest.now ∙ (ap (drop 5) i.rest ∙ behind-slot n bytes);
    }
