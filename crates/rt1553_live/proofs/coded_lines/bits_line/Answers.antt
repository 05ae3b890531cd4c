use Rattle.std.proofs.Common.{Ok, Err, nat_eq, ap, sym, ◌∙◌}
use Rattle.std.specs.Cmp.Lexicographic.{pointwise}
use Rattle.line_format.specs.Views.{spot}
use Rattle.rt1553_live.specs.declared.bits.Bits.{Bits}
use Rattle.rt1553_live.specs.Numbers.{bit_numbers, bits_from}
use Rattle.rt1553_live.proofs.CodedLaws.{coded_err, coded_ok, coded_not}
use Rattle.rt1553_live.proofs.coded_lines.bits_line.Goals as goal

pub returns-in-Err : goal.returns-in-Err
returns-in-Err c = coded_err _ _ bits_from bit_numbers _ _ c.in-Err.ensures

pub returns-then-eq : goal.returns-then-eq
returns-then-eq c =
    coded_ok _ _ bits_from bit_numbers _ _ _ c.in-Ok.ensures (sym c.if-eq.true ∙ c.eq.ensures ∙ ap (pointwise nat_eq c.words_line.new.to) (c.words_of.ensures ∙ ap bit_numbers c.bits_from-bits.ensures))
    ∙ ap (λ (b : Bits). Ok (b, spot c.in-Ok.behind)) (sym c.bits_from-bits.ensures)

pub returns-else-eq : goal.returns-else-eq
returns-else-eq c =
    coded_not _ _ bits_from bit_numbers _ _ _ c.in-Ok.ensures (sym c.if-eq.false ∙ c.eq.ensures ∙ ap (pointwise nat_eq c.words_line.new.to) (c.words_of.ensures ∙ ap bit_numbers c.bits_from-bits.ensures))
    ∙ ap Err (sym c.wrong.ensures)
