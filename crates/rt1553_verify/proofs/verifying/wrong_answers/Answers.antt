use Rattle.std.proofs.Common.{◌∙◌, ◌+◌, [], ◌∷◌, drop, ap, map, rules, arith}
use Rattle.std.proofs.lemmas.List.{drop_more, drop_all}
use Rattle.bus_legal.specs.Tables.{tables_say}
use Rattle.bus_legal.specs.Description.{described}
use Rattle.rt1553.proofs.EngineLaws.{set_up_alike}
use Rattle.rt1553_verify.specs.Stated.{shown}
use Rattle.rt1553_verify.proofs.VerifyLaws.{one_more, all_told, wrong_answers_from-alike}
use Rattle.rt1553_verify.proofs.verifying.wrong_answers.Goals as goal

pub loop-stated-preserved : goal.loop-stated-preserved
loop-stated-preserved c P s =
    let i = c.loop-stated.invariant P s in (
      c.stated-item.result.event ∷ i.0,
      c.in_ok-compare_answer.ensures.stands P i.0 i.1,
      one_more P i.0 c.args.script.now c.loop-stated.stated-index c.stated-item.result _ _ _ (drop_more c.args.script.now c.loop-stated.stated-index c.stated-item.result (omega (arith, c.loop-stated-test.true)) ∙ ap (λ s. s ∷ drop (c.loop-stated.stated-index + 1) c.args.script.now) (search rules)) (c.in_ok-compare_answer.ensures.told P i.0 i.1) i.2,
    )

pub returns : goal.returns
returns c P reached =
    let v = c.args.normal.now in
    let setup = c.setup-setup.result in
    let Q = described setup (tables_say v.tables) in
    let alike = set_up_alike v setup P c.setup-setup.ensures.normal c.setup-setup.ensures.parts setup.own_address reached in
    let i = c.loop-stated.invariant Q c.power_up-terminal.ensures.stands in
    all_told Q i.0 c.args.script.now c.loop-stated.stated-index _ _ (drop_all c.loop-stated.stated-index c.args.script.now (omega (arith, c.loop-stated-test.false))) i.2 ∙ wrong_answers_from-alike Q P alike [] (map shown c.args.script.now)
