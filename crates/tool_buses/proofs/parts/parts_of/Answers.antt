use Rattle.std.proofs.Common.{◌≡◌, ◌∷◌, ◌+◌, ◌++◌, [], ℕ, List, option_map, take, ap, sym, subst, ◌∙◌}
use Rattle.refused_lines.specs.Sources.{line_in_file}
use Rattle.tool_buses.specs.declared.reading.SaidEvent.{SaidEvent}
use Rattle.tool_buses.specs.declared.parts.ScriptPart.{ScriptPart}
use Rattle.tool_buses.proofs.BusLefts.{CutSo, cut_goes_on, cut_again, rest_more}
use Rattle.tool_buses.proofs.parts.parts_of.Goals.{then-line-last+in_ok-push, else-line-last+in_ok-push-2+in_ok-last-2}
use Rattle.tool_buses.proofs.parts.parts_of.Goals as goal

pub loop-said-preserved : goal.loop-said-preserved
loop-said-preserved c =
    let source : ℕ → ℕ = line_in_file (option_map (λ s. s.now) c.args.sources) in
    let i = c.loop-said.said-index in
    let before : List SaidEvent = take (i + 1) c.args.said.now in
    let s : SaidEvent = c.said-item.result in
    let next : ScriptPart = c.if-line-last.last in
    let here : source s.line ≡ c.line_in_file-line.result = sym c.line_in_file-line.ensures in
    subst (λ said. CutSo source said c.if-line-last.parts.items next)
    (sym (rest_more c.args.said.now c.in-Some.more.now c.in-Some.first.now s s i c.in-Some.ensures.cases.0 c.loop-said-test.true c.said-item.is))
    (elim c.if-line-last.branch [
      | then-line-last+in_ok-push w ↦
          subst (λ ps. CutSo source (before ++ s ∷ []) ps next) (sym (ap (λ v. v.items) w.parts-is))
          (cut_goes_on source before s c.loop-said.parts.items c.loop-said.last next c.loop-said.invariant (here ∙ w.if-line-last.true)
          (ap (λ (p : ScriptPart). p.line) w.last-is) (ap (λ (p : ScriptPart). p.events.items) w.last-is ∙ w.in_ok-push.ensures.items))
      | else-line-last+in_ok-push-2+in_ok-last-2 w ↦
          subst (λ ps. CutSo source (before ++ s ∷ []) ps next) (sym (ap (λ v. v.items) w.parts-is ∙ w.in_ok-push-2.ensures.items))
          (cut_again source before s c.loop-said.parts.items c.loop-said.last next c.loop-said.invariant (λ same. w.if-line-last.false (sym here ∙ same))
          (ap (λ (p : ScriptPart). p.line) w.last-is ∙ (w.in_ok-last-2.ensures.line ∙ sym here)) (ap (λ (p : ScriptPart). p.events.items) w.last-is ∙ w.in_ok-last-2.ensures.events))
    ])
