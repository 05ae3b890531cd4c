use Rattle.std.proofs.Common.{Ok, Err, Option, nat_eq, ap, sym, ◌∙◌}
use Rattle.std.specs.Cmp.Lexicographic.{pointwise}
use Rattle.line_format.specs.Views.{spot}
use Rattle.terminal_rules.specs.History.{Replying}
use Rattle.rt1553_live.specs.Numbers.{reply_numbers, reply_from}
use Rattle.rt1553_live.proofs.CodedLaws.{coded_err, coded_ok, coded_not}
use Rattle.rt1553_live.proofs.coded_lines.reply_line.Goals as goal

pub returns-in-Err : goal.returns-in-Err
returns-in-Err c = coded_err _ _ reply_from reply_numbers _ _ c.in-Err.ensures

pub returns-then-eq : goal.returns-then-eq
returns-then-eq c =
    coded_ok _ _ reply_from reply_numbers _ _ _ c.in-Ok.ensures (sym c.if-eq.true ∙ c.eq.ensures ∙ ap (pointwise nat_eq c.words_line.new.to) (c.words_of.ensures.words ∙ ap reply_numbers c.reply_from-reply.ensures))
    ∙ ap (λ (r : Option Replying). Ok (r, spot c.in-Ok.behind)) (sym c.reply_from-reply.ensures)

pub returns-else-eq : goal.returns-else-eq
returns-else-eq c =
    coded_not _ _ reply_from reply_numbers _ _ _ c.in-Ok.ensures (sym c.if-eq.false ∙ c.eq.ensures ∙ ap (pointwise nat_eq c.words_line.new.to) (c.words_of.ensures.words ∙ ap reply_numbers c.reply_from-reply.ensures))
    ∙ ap Err (sym c.wrong.ensures)
