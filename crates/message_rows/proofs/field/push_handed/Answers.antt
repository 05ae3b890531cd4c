use Rattle.std.proofs.Common.{rules, ◌≤◌, ◌∙◌, ◌-◌, length, sym, subst, arith}
use Rattle.std.proofs.lemmas.Str.{IsCharBoundary-before_ascii}
use Rattle.terminal_rules.specs.Out.{HandsOver}
use Rattle.bus_terminal.specs.Answer.{shown_handing}
use Rattle.script_lines.specs.Transcript.{hand_text}
use Rattle.script_lines.proofs.TranscriptLaws.{small_text}
use Rattle.message_rows.proofs.RowLaws.{IsHandLine, hand_line}
use Rattle.message_rows.proofs.field.push_handed.Goals as goal

pub write_answer-line-requires : goal.write_answer-line-requires
write_answer-line-requires g c = let small : length (hand_text (shown_handing c.in-Hands.hand)) ≤ 186 = small_text (HandsOver (shown_handing c.in-Hands.hand)) c.in-Hands.ensures.small in omega arith

pub range-requires-clause-end_boundary : goal.range-requires-clause-end_boundary
range-requires-clause-end_boundary g c =
    let line : IsHandLine c.as_str-line.result.now = subst IsHandLine (sym (c.as_str-line.ensures.value ∙ c.write_answer-line.ensures)) (hand_line (shown_handing c.in-Hands.hand)) in
    IsCharBoundary-before_ascii c.as_str-line.result.now (length c.as_str-line.result.now - 1) (omega (arith, line.least)) (omega (arith, line.last))

pub push_str-requires : goal.push_str-requires
push_str-requires g c =
    let small : length c.as_str-line.result.now ≤ 186 = subst (λ l. length l ≤ 186) (sym (c.as_str-line.ensures.value ∙ c.write_answer-line.ensures)) (small_text (HandsOver (shown_handing c.in-Hands.hand)) c.in-Hands.ensures.small) in
    (search rules, omega (arith, small, c.range.ensures.len, c.requires))

pub returns-in-Hands-clause-len : goal.returns-in-Hands-clause-len
returns-in-Hands-clause-len g c =
    let small : length c.as_str-line.result.now ≤ 186 = subst (λ l. length l ≤ 186) (sym (c.as_str-line.ensures.value ∙ c.write_answer-line.ensures)) (small_text (HandsOver (shown_handing c.in-Hands.hand)) c.in-Hands.ensures.small) in
    omega (arith, small, c.range.ensures.len, c.push_str.ensures.len)
