use Rattle.std.proofs.Common.{◌≡◌, ◌∙◌, ◌++◌, ◌/◌, ◌%◌, codes, decimal, sym, ap}
use Rattle.std.proofs.lemmas.Result.{IfOk-weaker}
use Rattle.bus_reports.specs.Lefts.{left_words}
use Rattle.bus_reports.proofs.left.left_text.Goals as goal

pub returns : goal.returns
returns c =
    let words : c.left_how-how.result.now ++ c.bus_told-bus.result.now ≡ left_words c.args.left.what = ap (λ bus. c.left_how-how.result.now ++ bus) c.bus_told-bus.ensures ∙ sym c.left_how-how.ensures in
    IfOk-weaker c.format.result _ _
    (λ told is. is ∙ ap (λ w. codes "leaves terminal " ++ (decimal (c.args.left.address / 10) ++ (decimal (c.args.left.address % 10) ++ (codes " " ++ w)))) words)
    c.format.ensures.ok
