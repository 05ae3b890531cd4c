use Rattle.std.proofs.Common.{◌∙◌, None, sym, ap}
use Rattle.std.specs.Result.{result_unwrap_or}
use Rattle.std.proofs.lemmas.Result.{on_ok_weaker}
use Rattle.rt1553_acceptance.proofs.AnswerLaws.{states-answered, plain-answered}
use Rattle.rt1553_acceptance.proofs.answering.push_answered.Goals as goal

pub returns-then-states_line : goal.returns-then-states_line
returns-then-states_line g c = λ P h stands.
    states-answered g.L.Legality.is_legal P h c.args.terminal.now c.args.text.now.items c.args.line.now (cc) stands

pub returns : goal.returns
returns g c = λ P h stands.
    on_ok_weaker c.push_answer.result
    (λ a. plain-answered g.L.Legality.is_legal P h c.push_answer.new.terminal c.args.text.now.items _ _ c.push_answer.new.text.items c.args.line.now c.unwrap_or.result
    (sym c.states_line.ensures ∙ c.if-states_line.false) c.in_ok-extend_from_slice.ensures.items c.in_ok-push.ensures.items
    (c.unwrap_or.ensures ∙ ap (λ said. result_unwrap_or said None) c.read_event.ensures) a)
    (c.push_answer.ensures P h stands)
