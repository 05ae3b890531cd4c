-- Whether a report of the results of a unit passes.
use Rattle.std.proofs.Common.{◌≡◌, ℕ, ◌==◌, ◌&&◌, Bool, true, length, Option, None, Some, option_to_list, ap, sym, ◌∙◌, refl, arith, eqb-true, eq-eqb}
use Rattle.std.specs.Prelude.{◌↔◌}
use Rattle.std.proofs.lemmas.List.{length-map}
use Rattle.bus_legal.proofs.Bools.{left_of, right_of}
use Rattle.rt1553_report.specs.Unit.{unit_passes}
use Rattle.rt1553_report.specs.declared.unit.UnitVerdict.{UnitVerdict}
use Rattle.rt1553_results.specs.Compare.{told_reply}
use Rattle.rt1553_results.specs.declared.comparison.Comparison.{Comparison}
use Rattle.rt1553_results.specs.declared.explaining.ResultsExplained.{ResultsExplained}
use Rattle.rt1553_results.specs.declared.explaining.UnexplainedReply.{UnexplainedReply}
use Rattle.rt1553_results.specs.declared.results.Results.{Results}
use Rattle.rt1553_results.proofs.CompareLaws.{none_missing, no_missing, no_told}
use Rattle.tool_verify.specs.UnitResults.{UnitPasses, TellsCompared, TellsExplained, told_difference, told_place, unexplained_place, reply_difference}
use Rattle.tool_verify.specs.declared.unit_results.JudgedResults.TheVariants.{Compared, Explained}

-- two counts that are compared with 0
zeros : (m n : ℕ) → ((m == 0) && (n == 0)) ≡ true → (m ≡ 0) × (n ≡ 0)
zeros m n e = (eqb-true m 0 (left_of (m == 0) (n == 0) e), eqb-true n 0 (right_of (m == 0) (n == 0) e))

both_true : (a b : Bool) → a ≡ true → b ≡ true → (a && b) ≡ true
both_true a b e f = search arith

both_zero : (m n : ℕ) → m ≡ 0 → n ≡ 0 → ((m == 0) && (n == 0)) ≡ true
both_zero m n e f = both_true (m == 0) (n == 0) (eq-eqb m 0 e) (eq-eqb n 0 f)

-- a report tells of no difference and of no missing result exactly if the unit passes
pub compared_passes : (results : Results) (c : Comparison) (unit : UnitVerdict) → TellsCompared results c unit → (unit_passes unit ≡ true) ↔ UnitPasses (Compared c)
compared_passes results c unit tells = (to, from)
  where
    replies : length unit.differences.items ≡ length c.wrong_replies.items
    replies = sym (length-map unit.differences.items told_difference) ∙ (ap length tells.differences ∙ length-map c.wrong_replies.items (λ r. reply_difference results (told_reply r)))

    missing : length unit.missing.items ≡ length c.missing.items
    missing = ap (λ v. length v.items) tells.missing

    to : unit_passes unit ≡ true → UnitPasses (Compared c)
    to t =
        let none = zeros (length unit.differences.items) (length unit.missing.items) t in
        (no_told c.wrong_replies.items (sym replies ∙ none.0), no_missing c.missing.items (sym missing ∙ none.1))

    from : UnitPasses (Compared c) → unit_passes unit ≡ true
    from x = both_zero _ _ (replies ∙ (sym (length-map c.wrong_replies.items told_reply) ∙ ap length x.0)) (missing ∙ none_missing c.missing.items x.1)

none_in : (o : Option UnexplainedReply) → length (option_to_list o) ≡ 0 → (let none : Option UnexplainedReply = None in o ≡ none)
none_in None e = refl
none_in (Some r) e = absurd (omega arith)

pub explained_passes : (results : Results) (e : ResultsExplained) (unit : UnitVerdict) → TellsExplained results e unit → (unit_passes unit ≡ true) ↔ UnitPasses (Explained e)
explained_passes results e unit tells = (to, from)
  where
    replies : length unit.differences.items ≡ length (option_to_list e.first)
    replies = sym (length-map unit.differences.items told_place) ∙ (ap length tells.differences ∙ length-map (option_to_list e.first) (unexplained_place results))

    missing : length unit.missing.items ≡ length e.missing.items
    missing = ap (λ v. length v.items) tells.missing

    to : unit_passes unit ≡ true → UnitPasses (Explained e)
    to t =
        let none = zeros (length unit.differences.items) (length unit.missing.items) t in
        (none_in e.first (sym replies ∙ none.0), no_missing e.missing.items (sym missing ∙ none.1))

    from : UnitPasses (Explained e) → unit_passes unit ≡ true
    from x = both_zero _ _ (replies ∙ ap (λ o. length (option_to_list o)) x.0) (missing ∙ none_missing e.missing.items x.1)
