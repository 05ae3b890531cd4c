use Rattle.std.proofs.Common.{sym, ◌∙◌}
use Rattle.script_lines.proofs.LineLaws.{begins_with_bits}
use Rattle.script_lines.proofs.line.LineReader.first_word.Goals as goal

pub returns : goal.returns
returns c = begins_with_bits c.args.bytes.now c.in_ok-bus.bus c.args.kind c.in_ok-bits.bits c.in_ok-bus.ensures (sym c.word.ensures ∙ c.in_ok-bits.was)
