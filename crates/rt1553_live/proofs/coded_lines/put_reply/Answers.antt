use Rattle.std.proofs.Common.{codes, length, subst, ap, sym, ◌∙◌}
use Rattle.std.proofs.lemmas.Result.{on_ok_weaker}
use Rattle.line_format.specs.Format.{Spells}
use Rattle.line_format.specs.Shapes.{words_line}
use Rattle.terminal_state.specs.Replies.{shown_reply}
use Rattle.rt1553_live.specs.Numbers.{reply_numbers, reply_from}
use Rattle.rt1553_live.proofs.CodedLaws.{coded_spelled}
use Rattle.rt1553_live.proofs.NumberLaws.{reply_five}
use Rattle.rt1553_live.proofs.coded_lines.put_reply.Goals as goal

pub returns : goal.returns
returns c = on_ok_weaker c.put_words_line.result
    (λ (bytes, is, spells). (bytes, is, coded_spelled (codes "reply") 5 reply_from reply_numbers (shown_reply c.args.reply.now) bytes (ap reply_from (sym c.words_of.ensures.words) ∙ c.words_of.ensures.back) (subst (λ n. Spells (words_line (codes "reply") 1 n) (reply_numbers (shown_reply c.args.reply.now)) bytes) (reply_five (shown_reply c.args.reply.now)) (subst (λ ws. Spells (words_line (codes "reply") 1 (length ws)) ws bytes) c.words_of.ensures.words spells))))
    c.put_words_line.ensures
