use Rattle.std.proofs.Common.{◌∙◌, ap, refl}
use Rattle.std.specs.Option.{unwrap_or}
use Rattle.rt1553_results.proofs.ExplainedLaws.{place_of_line}
use Rattle.rt1553_results.proofs.explaining.reply_told.Goals as goal

pub returns : goal.returns
returns c = record {
  place = λ n slot is low. place_of_line c.args.first.marked.line n slot is low;
  command = λ n is. c.unwrap_or-command.ensures ∙ ap (λ o. unwrap_or o 0) is;
  reply = λ words is. c.reply_of.ensures words is;
  label = c.label_of.ensures.bytes;
  possible = refl;
}
