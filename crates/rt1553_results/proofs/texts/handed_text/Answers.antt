use Rattle.std.proofs.Common.{◌≡◌, ℕ, List, ◌∙◌, ap, subst, option_map, IfOk}
use Rattle.script_lines.specs.Transcript.{hand_text}
use Rattle.rt1553_results.specs.Handed.{handing_in}
use Rattle.bus_terminal.specs.Answer.{shown_handing}
use Rattle.rt1553_results.proofs.TextLaws.{hand_fits, cut_out}
use Rattle.rt1553_results.proofs.texts.handed_text.Goals as goal

pub write_answer-line-requires : goal.write_answer-line-requires
write_answer-line-requires c = hand_fits (shown_handing c.lent.result) c.lent.ensures.few

pub returns-in-Some : goal.returns-in-Some
returns-in-Some c =
    let line = c.as_bytes-line.ensures.value ∙ (c.as_str.ensures.value ∙ (c.write_answer-line.ensures ∙ ap hand_text c.lent.ensures.hand)) in
    subst (λ (t : List ℕ). IfOk c.from_slice.result (λ text. text.items ≡ t)) (cut_out c.as_bytes-line.result.now (handing_in c.in-Some.handed) _ line (ap (option_map handing_in) c.in-Some.is)) c.from_slice.ensures.items
