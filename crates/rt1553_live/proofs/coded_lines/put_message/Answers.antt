use Rattle.std.proofs.Common.{codes, length, subst, ap, sym, ◌∙◌}
use Rattle.std.proofs.lemmas.Result.{on_ok_weaker}
use Rattle.line_format.specs.Format.{Spells}
use Rattle.line_format.specs.Shapes.{words_line}
use Rattle.rt1553_live.specs.Numbers.{message_numbers, message_from}
use Rattle.rt1553_live.proofs.CodedLaws.{coded_spelled}
use Rattle.rt1553_live.proofs.NumberLaws.{message_five}
use Rattle.rt1553_live.proofs.coded_lines.put_message.Goals as goal

pub returns : goal.returns
returns c = on_ok_weaker c.put_words_line.result
    (λ (bytes, is, spells). (bytes, is, coded_spelled (codes "message") 5 message_from message_numbers c.args.message.now bytes (ap message_from (sym c.words_of.ensures.words) ∙ c.words_of.ensures.back c.requires) (subst (λ n. Spells (words_line (codes "message") 1 n) (message_numbers c.args.message.now) bytes) (message_five c.args.message.now) (subst (λ ws. Spells (words_line (codes "message") 1 (length ws)) ws bytes) c.words_of.ensures.words spells))))
    c.put_words_line.ensures
