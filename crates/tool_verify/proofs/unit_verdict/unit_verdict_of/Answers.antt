use Rattle.std.proofs.Common.{◌≡◌, ◌↔◌, true, IfOk, subst, sym}
use Rattle.std.proofs.lemmas.Result.{IfOk-weaker}
use Rattle.rt1553_report.specs.Unit.{unit_passes}
use Rattle.tool_verify.specs.UnitResults.{UnitPasses, TellsCompared, TellsExplained}
use Rattle.tool_verify.specs.declared.unit_results.JudgedResults.TheVariants.{Compared, Explained}
use Rattle.tool_verify.proofs.OutcomeLaws.{compared_passes, explained_passes}
use Rattle.tool_verify.proofs.unit_verdict.unit_verdict_of.Goals as goal

pub returns-in-Compared-clause-passes : goal.returns-in-Compared-clause-passes
returns-in-Compared-clause-passes c =
    let comparison = c.in-Compared.comparison in
    subst (λ j. IfOk c.of_comparison.result (λ unit. (unit_passes unit ≡ true) ↔ UnitPasses j)) (sym c.in-Compared.is)
    (IfOk-weaker c.of_comparison.result (TellsCompared c.args.results.now comparison) (λ unit. (unit_passes unit ≡ true) ↔ UnitPasses (Compared comparison))
    (λ unit tells. compared_passes c.args.results.now comparison unit tells) c.of_comparison.ensures)

pub returns-in-Explained-clause-passes : goal.returns-in-Explained-clause-passes
returns-in-Explained-clause-passes c =
    let explained = c.in-Explained.explained in
    subst (λ j. IfOk c.of_explanation.result (λ unit. (unit_passes unit ≡ true) ↔ UnitPasses j)) (sym c.in-Explained.is)
    (IfOk-weaker c.of_explanation.result (TellsExplained c.args.results.now explained) (λ unit. (unit_passes unit ≡ true) ↔ UnitPasses (Explained explained))
    (λ unit tells. explained_passes c.args.results.now explained unit tells) c.of_explanation.ensures)
