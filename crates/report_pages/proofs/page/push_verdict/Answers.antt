use Rattle.std.proofs.Common.{◌++◌, ◌∙◌, OnOk, ap, codes, string_bytes, subst}
use Rattle.rt1553_report.proofs.TextLaws.{adds, adds_on_ok}
use Rattle.rt1553_report.specs.Pieces.{AddsPiece}
use Rattle.rt1553_report.specs.Verdict.{result_word}
use Rattle.report_pages.specs.ResultsPage.{verdict_begin, verdict_field}
use Rattle.report_pages.proofs.page.push_verdict.Goals as goal

pub returns : goal.returns
unfolding verdict_field
returns c =
    let word = c.result_word.ensures ∙ ap result_word c.verdict.ensures in
    subst (λ piece. OnOk c.push_markup-2.result (AddsPiece (string_bytes c.args.page.now) (string_bytes c.push_markup-2.new.page) piece))
    (λ j. verdict_begin (c.passes.ensures j) ++ word j ++ codes "</td>")
    (adds_on_ok c.push_markup-2.result _ _ (adds c.in_ok-push_verdict_begin.ensures c.in_ok-push_markup.ensures) c.push_markup-2.ensures)
