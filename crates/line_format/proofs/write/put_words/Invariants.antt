use Rattle.std.proofs.Common.{◌≡◌, ◌-◌, ◌++◌, length, drop, replicate}
use Rattle.line_format.specs.Format.{spell_fields}
use Rattle.line_format.specs.Shapes.{word}
use Rattle.line_format.proofs.write.put_words.Given as goal

-- what is written, and then the words that are left, is all that is to be written
abbrev pub invariant-loop-word : goal.invariant-loop-word
invariant-loop-word l = l.out.items ++ spell_fields (replicate (length l.words - l.word-index) word) (drop l.word-index l.words) ≡ l.fn.out.items ++ spell_fields (replicate (length l.words) word) l.words
