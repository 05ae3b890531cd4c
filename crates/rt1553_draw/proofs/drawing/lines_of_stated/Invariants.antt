use Rattle.std.proofs.Common.{◌≡◌, map, take}
use Rattle.rt1553_draw.proofs.drawing.lines_of_stated.Given as goal

abbrev pub invariant-loop-answer : goal.invariant-loop-answer
invariant-loop-answer l = l.lines.items ≡ map (λ answer. answer.line) (take l.answer-index l.stated)
