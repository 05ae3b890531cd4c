use Rattle.std.proofs.Common.{◌∙◌}
use Rattle.script_lines.proofs.LineLaws.{begins_with_gap}
use Rattle.script_lines.proofs.usual.is_gap_first.Goals as goal

pub returns-then-bytes-eq112 : goal.returns-then-bytes-eq112
returns-then-bytes-eq112 c is = begins_with_gap c.args.bytes.now c.args.bus c.if-bytes-gt-GAP_LINE.true (c.are.ensures is ∙ c.gap_lead.ensures) c.if-bytes-eq112.true c.if-bytes-eq10.true
