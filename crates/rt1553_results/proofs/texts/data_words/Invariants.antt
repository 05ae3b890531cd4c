use Rattle.std.proofs.Common.{◌≡◌, ◌∷◌, replicate}
use Rattle.rt1553_results.proofs.texts.data_words.Given as goal

abbrev pub invariant-loop-zero : goal.invariant-loop-zero
invariant-loop-zero l = l.words.items ≡ l.first ∷ replicate l._zero 0
