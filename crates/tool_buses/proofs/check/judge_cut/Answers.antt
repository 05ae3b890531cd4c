use Rattle.std.proofs.Common.{◌∙◌, ap}
use Rattle.terminal_rules.specs.LookBack.{keep}
use Rattle.tool_buses.specs.EndsWell.{reasons_of_part}
use Rattle.tool_buses.proofs.check.judge_cut.Goals as goal

pub returns : goal.returns
returns g c source p cut =
    c.judgement_of.ensures c.args.on.now.normals.items c.args.on.now.bus source c.args.script.now.text.items c.args.cut.parts.items p cut
    (c.in_ok-judged.ensures p ∙ ap (keep (reasons_of_part c.args.on.now.normals.items)) c.as_slice-parts.ensures.value)
