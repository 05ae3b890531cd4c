use Rattle.script_lines.proofs.LineLaws.{begins_with_slot}
use Rattle.script_lines.proofs.usual.is_slot_first.Goals as goal

pub returns-then-bytes-eq10 : goal.returns-then-bytes-eq10
returns-then-bytes-eq10 c is = begins_with_slot c.args.bytes.now c.if-bytes-gt-SLOT_LINE.true c.if-bytes-eq10.true (c.are.ensures is)
