use Rattle.std.proofs.Common.{◌*◌, ◌∙◌, ◌≤◌, drop, length, ap, subst, arith}
use Rattle.std.proofs.lemmas.Grind.{common_steps}
use Rattle.terminal_rules.specs.declared.event.Event.TheVariants.{Slot}
use Rattle.byte_streams.proofs.SinkLaws.{from_there}
use Rattle.script_lines.specs.Begins.{BeginsWith}
use Rattle.bus_script.proofs.SlotsLaws.{SlotsFirst-many, behind-slots}
use Rattle.bus_script.proofs.sending.slot_lines_at_once.Goals as goal

pub slice_bounds-rest-start : goal.slice_bounds-rest-start
slice_bounds-rest-start c =
    let last = (c.are_slots_first.ensures c.if-are_slots_first.true 3 (omega arith)).within in
    let within : 20 ≤ length c.loop-count.rest.now = grind (arith, common_steps) in within

pub slice_bounds-rest-count : goal.slice_bounds-rest-count
slice_bounds-rest-count c =
    let last = (c.are_slots_first.ensures c.if-are_slots_first.true 3 (omega arith)).within in
    let within : 20 ≤ length c.loop-count.rest.now = grind (arith, common_steps) in within

pub loop-count-preserved : goal.loop-count-preserved
loop-count-preserved c =
    let i = c.loop-count.invariant in
    let bytes = c.args.bytes.now in
    let n = c.loop-count.count in
    record {
      few = omega (arith, c.loop-count-test.true);
      lines = SlotsFirst-many bytes n 4 i.lines (λ k below. subst (λ xs. BeginsWith (drop (5 * k) xs) 4 Slot) i.rest (c.are_slots_first.ensures c.if-are_slots_first.true k below));
      rest = from_there 20 c.loop-count.rest.now ∙ (ap (drop 20) i.rest ∙ behind-slots n bytes);
    }
