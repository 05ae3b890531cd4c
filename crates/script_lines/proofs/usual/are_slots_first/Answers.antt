use Rattle.std.proofs.Common.{sym, ◌∙◌}
use Rattle.script_lines.proofs.LineLaws.{begins_with_slots}
use Rattle.script_lines.proofs.usual.are_slots_first.Goals as goal

pub returns-then-are-4 : goal.returns-then-are-4
returns-then-are-4 c is = begins_with_slots c.args.bytes.now
    (sym c.four_at.ensures ∙ c.are.ensures c.if-are.true)
    (sym c.four_at-then-are.ensures ∙ c.are-then-are.ensures c.if-are-2.true)
    (sym c.four_at-then-are-2.ensures ∙ c.are-then-are-2.ensures c.if-are-3.true)
    (sym c.four_at-then-are-3.ensures ∙ c.are-then-are-3.ensures c.if-are-4.true)
    (sym c.four_at-then-are-4.ensures ∙ c.are-then-are-4.ensures is)
