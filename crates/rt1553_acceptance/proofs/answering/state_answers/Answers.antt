use Rattle.std.proofs.Common.{◌≡◌, ◌≤◌, length, subst, arith}
use Rattle.bus_legal.specs.Parts.{description_in}
use Rattle.script_lines.specs.Text.{lines_of}
use Rattle.rt1553_acceptance.proofs.AnswerLaws.{answers-law}
use Rattle.rt1553_acceptance.proofs.answering.state_answers.Goals as goal

pub returns-clause-answered : goal.returns-clause-answered
returns-clause-answered c =
    let counted = subst (λ bytes. c.count_lines.result ≡ length (lines_of bytes)) c.as_slice.ensures.value c.count_lines.ensures in
    let few : length (lines_of c.in_ok-text.text.items) ≤ 1048576 = omega (arith, counted, c.if-count_lines.false) in
    let made = c.in_ok-text.ensures in
    (answers-law (description_in c.args.normal.now) c.args.script.now c.in_ok-text.text.items _ c.in_ok-read_stated.ensures.accepted made.1 made.0 few, few)
