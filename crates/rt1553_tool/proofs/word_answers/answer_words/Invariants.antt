use Rattle.std.proofs.Common.{◌≤◌, IfSome}
use Rattle.rt1553_tool.proofs.AnswerLaws.{Told}
use Rattle.rt1553_tool.proofs.word_answers.answer_words.Given as goal

abbrev pub invariant-loop-turn : goal.invariant-loop-turn
invariant-loop-turn g l = record {
  few : l.refused ≤ l._turn;
  told : IfSome (g.S.Source.left l.fn.source) (λ xs. Told (g.W.Sink.written l.fn.sink) (g.W.Sink.written l.sink) l.refused l._turn xs (g.S.Source.left l.source));
}
