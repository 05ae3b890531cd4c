use Rattle.std.proofs.Common.{Ok, Err, Option, nat_eq, ap, sym, ◌∙◌}
use Rattle.std.specs.Cmp.Lexicographic.{pointwise}
use Rattle.line_format.specs.Views.{spot}
use Rattle.rt1553_live.specs.declared.message.SavedMessage.{SavedMessage}
use Rattle.rt1553_live.specs.Numbers.{message_numbers, message_from}
use Rattle.rt1553_live.proofs.CodedLaws.{coded_err, coded_ok, coded_not}
use Rattle.rt1553_live.proofs.coded_lines.message_line.Goals as goal

pub returns-in-Err-clause-answer : goal.returns-in-Err-clause-answer
returns-in-Err-clause-answer c = coded_err _ _ message_from message_numbers _ _ c.in-Err.ensures

pub returns-then-eq-clause-answer : goal.returns-then-eq-clause-answer
returns-then-eq-clause-answer c =
    coded_ok _ _ message_from message_numbers _ _ _ c.in-Ok.ensures (sym c.if-eq.true ∙ c.eq.ensures ∙ ap (pointwise nat_eq c.words_line.new.to) (c.words_of.ensures.words ∙ ap message_numbers c.message_from-message.ensures.message))
    ∙ ap (λ (m : Option SavedMessage). Ok (m, spot c.in-Ok.behind)) (sym c.message_from-message.ensures.message)

pub returns-else-eq-clause-answer : goal.returns-else-eq-clause-answer
returns-else-eq-clause-answer c =
    coded_not _ _ message_from message_numbers _ _ _ c.in-Ok.ensures (sym c.if-eq.false ∙ c.eq.ensures ∙ ap (pointwise nat_eq c.words_line.new.to) (c.words_of.ensures.words ∙ ap message_numbers c.message_from-message.ensures.message))
    ∙ ap Err (sym c.wrong.ensures)
