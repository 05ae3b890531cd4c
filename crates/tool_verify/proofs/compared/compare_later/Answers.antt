use Rattle.std.proofs.Common.{◌∙◌}
use Rattle.tool_verify.proofs.PassingLaws.{says_later}
use Rattle.tool_verify.proofs.compared.compare_later.Goals as goal

pub returns : goal.returns
returns g c =
    let told = c.in_ok-answers.field-0 in
    says_later (g.B.Read.remaining c.args.input) c.args.normal.now told.after told.first told.warning told.answers told.silences told.stretches c.in_ok-it.it
    c.in_ok-answers.ensures.judged c.in_ok-answers.ensures.never c.in_ok-it.ensures.told (c.in_ok-it.ensures.unjudged ∙ c.unjudged_since-unjudged.ensures) c.in_ok-it.ensures.counts
