use Rattle.std.proofs.Common.{◌≡◌, ◌∙◌, codes, ap, arith, subst}
use Rattle.std.proofs.lemmas.Result.{IfOk-weaker}
use Rattle.line_format.specs.Format.{Spells}
use Rattle.line_format.specs.Shapes.{decimal, number_line}
use Rattle.line_format.proofs.Writes.{number_text, number_spelled}
use Rattle.bus_canon.specs.Canon.{may_wrap}
use Rattle.bus_canon.proofs.asked.put_wrap_line.Goals as goal

pub returns : goal.returns
returns c =
    let t = c.args.tables.now in
    let same : c.from.result ≡ c.args.wrap = c.from.ensures in
    IfOk-weaker c.put_number_line.result _ _
    (λ _ h. (
      number_text (codes "wraparound") decimal c.from.result,
      h,
      subst (λ n. Spells (number_line (codes "wraparound") decimal (may_wrap t)) n (number_text (codes "wraparound") decimal c.from.result)) same
          (number_spelled (codes "wraparound") decimal (may_wrap t) c.from.result (omega (arith, c.requires.small)) (ap (may_wrap t) same ∙ c.requires.may)),
    )) c.put_number_line.ensures
