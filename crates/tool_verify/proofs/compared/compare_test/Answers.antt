use Rattle.std.proofs.Common.{◌==◌, length, filter, map, ap, ◌∙◌, Ok}
use Rattle.rt1553_verify.specs.Stated.{shown, states_answer}
use Rattle.tool_verify.specs.Passing.{unjudged_test}
use Rattle.tool_verify.proofs.PassingLaws.{nothing_told, same_answers, says_so}
use Rattle.tool_verify.proofs.compared.compare_test.Goals as goal

pub returns : goal.returns
returns c P reached =
    says_so c.args.on_bus P c.args.script.now (map shown c.in_ok-stated.stated.items) (map shown c.as_slice-3.result.now) c.answers_in-answers.result (length c.in_ok-wrong.wrong.items == 0) c.unjudged_test-unjudged.result
    c.in_ok-stated.ensures.accepted (c.answers_in-answers.ensures ∙ ap (λ l. length (filter (λ s. states_answer (shown s)) l)) c.as_slice.ensures.value ∙ same_answers c.in_ok-stated.stated.items) (ap (map shown) c.as_slice-3.ensures.value ∙ c.in_ok-seen.ensures) (nothing_told c.in_ok-wrong.wrong.items _ (c.in_ok-wrong.ensures P reached))
    (c.unjudged_test-unjudged.ensures ∙ ap (λ l. unjudged_test (Ok (map shown l))) c.as_slice-2.ensures.value)
