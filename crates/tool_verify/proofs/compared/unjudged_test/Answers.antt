use Rattle.std.proofs.Common.{ap, ◌∙◌}
use Rattle.tool_verify.specs.Passing.{unjudged_by}
use Rattle.tool_verify.proofs.PassingLaws.{same_reason}
use Rattle.tool_verify.proofs.compared.unjudged_test.Goals as goal

pub returns : goal.returns
returns c = c.unjudged_by.ensures ∙ (ap unjudged_by c.script_warning.ensures ∙ same_reason c.args.stated.now)
