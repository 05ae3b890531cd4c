use Rattle.std.proofs.Common.{◌∙◌}
use Rattle.tool_verify.proofs.PassingLaws.{says_recorded}
use Rattle.tool_verify.proofs.compared.compare_recording.Goals as goal

pub returns : goal.returns
returns g c =
    let told = c.in_ok-answers.field-0 in
    says_recorded (g.B.Read.remaining c.args.input) c.args.normal.now told.first told.warning told.answers told.silences told.stretches c.in_ok-it.it
    c.in_ok-answers.ensures.judged c.in_ok-it.ensures.told (c.in_ok-it.ensures.unjudged ∙ c.unjudged_recorded-unjudged.ensures) c.in_ok-it.ensures.counts
