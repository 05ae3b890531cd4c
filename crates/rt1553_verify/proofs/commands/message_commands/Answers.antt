use Rattle.std.proofs.Common.{◌∙◌, ◌+◌, ◌∷◌, drop, map, ap, rules, arith}
use Rattle.std.proofs.lemmas.List.{drop_more, drop_all}
use Rattle.rt1553_verify.specs.Verify.{told_answer}
use Rattle.rt1553_verify.proofs.CommandLaws.{event_more, no_event}
use Rattle.rt1553_verify.proofs.commands.message_commands.Goals as goal

pub loop-stated-preserved : goal.loop-stated-preserved
loop-stated-preserved c =
    let script = c.args.script.now in
    let i = c.loop-stated.stated-index in
    let s = c.stated-item.result in
    event_more c.args.address c.loop-stated.latest c.command_after-latest.result script i s c.is_next-is_told.result (map told_answer c.loop-stated.rest.now) _ _ _ _
    (drop_more script i s (omega (arith, c.loop-stated-test.true)) ∙ ap (λ x. x ∷ drop (i + 1) script) (search rules))
    c.command_after-latest.ensures c.is_next-is_told.ensures c.in_ok-push_if.ensures c.behind-rest.ensures c.loop-stated.invariant

pub returns : goal.returns
returns c =
    no_event c.args.address c.loop-stated.latest c.args.script.now c.loop-stated.stated-index (map told_answer c.loop-stated.rest.now) c.loop-stated.commands.items _
    (drop_all c.loop-stated.stated-index c.args.script.now (omega (arith, c.loop-stated-test.false))) c.loop-stated.invariant
