use Rattle.std.proofs.Common.{sym, ◌∙◌, arith}
use Rattle.script_lines.proofs.DigitLaws.{behind_zero, known_more}
use Rattle.script_lines.proofs.known_digits.KnownDigits.keep.Goals as goal

pub invariant_of-self : goal.invariant_of-self
invariant_of-self c = record {
  known = known_more c.args.self.now.values c.args.byte c.in-Some.value (omega arith) (sym (behind_zero c.args.byte) ∙ sym c.read_pair.ensures ∙ c.in-Some.is) c.args.self.now.known;
}
