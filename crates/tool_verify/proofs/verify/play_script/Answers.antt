use Rattle.std.proofs.Common.{subst}
use Rattle.tool_verify.specs.Passing.{IsCompared}
use Rattle.tool_verify.proofs.verify.play_script.Goals as goal

pub returns-in_ok-tell_judged-in-Ok : goal.returns-in_ok-tell_judged-in-Ok
returns-in_ok-tell_judged-in-Ok g c none =
    let it = c.in-Ok.compared in
    let says : IsCompared c.args.played.now.kind c.args.normal.now c.args.script.now.text.items it =
    subst (λ text. IsCompared c.args.played.now.kind c.args.normal.now text it) c.as_slice-text.ensures.value (c.in-Ok.ensures.whole none) in
    (it.stretches, it.after, says)
