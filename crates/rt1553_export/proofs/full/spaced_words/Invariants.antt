use Rattle.std.proofs.Common.{◌≡◌, take}
use Rattle.rt1553_export.specs.inner.Full.{spaced_words}
use Rattle.rt1553_export.proofs.full.spaced_words.Given as goal

abbrev pub invariant-loop-word : goal.invariant-loop-word
invariant-loop-word l = l.text.items ≡ spaced_words (take l.word-index l.words)
