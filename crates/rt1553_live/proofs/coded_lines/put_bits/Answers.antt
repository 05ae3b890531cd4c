use Rattle.std.proofs.Common.{codes, length, subst}
use Rattle.std.proofs.lemmas.Result.{on_ok_weaker}
use Rattle.line_format.specs.Format.{Spells}
use Rattle.line_format.specs.Shapes.{words_line}
use Rattle.rt1553_live.specs.Numbers.{bit_numbers, bits_from}
use Rattle.rt1553_live.proofs.CodedLaws.{coded_spelled}
use Rattle.rt1553_live.proofs.NumberLaws.{bits_back}
use Rattle.rt1553_live.proofs.coded_lines.put_bits.Goals as goal

pub returns : goal.returns
returns c = on_ok_weaker c.put_words_line.result
    (λ (bytes, is, spells). (bytes, is, coded_spelled (codes "bits") 16 bits_from bit_numbers c.args.bits.now bytes (bits_back c.args.bits.now) (subst (λ ws. Spells (words_line (codes "bits") 1 (length ws)) ws bytes) c.words_of.ensures spells)))
    c.put_words_line.ensures
