use Rattle.std.proofs.Common.{◌≡◌, ◌==◌, drop}
use Rattle.std.specs.List.{find}
use Rattle.rt1553_draw.proofs.expected.stated_at.Given as goal

abbrev pub invariant-loop-answer : goal.invariant-loop-answer
invariant-loop-answer l = find (λ answer. answer.line == l.line) l.stated ≡ find (λ answer. answer.line == l.line) (drop l.answer-index l.stated)
