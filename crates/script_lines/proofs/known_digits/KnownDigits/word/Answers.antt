use Rattle.std.proofs.Common.{sym}
use Rattle.script_lines.proofs.DigitLaws.{word_of_values}
use Rattle.script_lines.proofs.known_digits.KnownDigits.word.Goals as goal

pub returns-then-s-lt16 : goal.returns-then-s-lt16
returns-then-s-lt16 c = sym (word_of_values c.args.a c.args.b c.args.c c.args.d _ _ _ _
    (c.value-p.ensures c.if-p-lt16.true) (c.value-q.ensures c.if-q-lt16.true) (c.value-r.ensures c.if-r-lt16.true) (c.value-s.ensures c.if-s-lt16.true))
