use Rattle.std.proofs.Common.{append_assoc, ◌++◌, ◌∷◌, [], length, replicate, arith}
use Rattle.line_format.specs.Format.{spell_fields}
use Rattle.line_format.specs.Shapes.{decimal, word}
use Rattle.line_format.proofs.Writes.{words_spelled}
use Rattle.line_format.proofs.write.put_words_line.Goals as goal

pub returns : goal.returns
returns c = (
  c.args.name.now ++ (spell_fields (decimal ∷ replicate (length c.args.words.now) word) (c.args.number ∷ c.args.words.now) ++ 10 ∷ []),
  simp (c.in_ok-push-2.ensures.items, c.in_ok-put_words.ensures, c.in_ok-put_number.ensures, c.in_ok-push.ensures.items, c.in_ok-extend_from_slice.ensures.items, append_assoc),
  words_spelled c.args.name.now c.args.number c.args.words.now c.requires (λ i. let fits = c.type_inv.words i in omega arith),
)
