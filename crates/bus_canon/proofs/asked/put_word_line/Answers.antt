use Rattle.std.proofs.Common.{true, arith, refl, subst, ◌≡◌}
use Rattle.std.proofs.lemmas.Result.{IfOk-weaker}
use Rattle.line_format.specs.Format.{Spells}
use Rattle.line_format.specs.Shapes.{word, number_line}
use Rattle.line_format.proofs.Writes.{number_text, number_spelled}
use Rattle.bus_canon.proofs.asked.put_word_line.Goals as goal

pub returns : goal.returns
returns c =
    let same : c.from.result ≡ c.args.number = c.from.ensures in
    IfOk-weaker c.put_number_line.result _ _
    (λ _ h. (
      number_text c.args.name.now word c.from.result,
      h,
      subst (λ n. Spells (number_line c.args.name.now word (λ _. true)) n (number_text c.args.name.now word c.from.result)) same
          (number_spelled c.args.name.now word (λ _. true) c.from.result (omega arith) refl),
    )) c.put_number_line.ensures
