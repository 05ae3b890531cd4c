use Rattle.std.proofs.Common.{◌≡◌, true, sym, ◌∙◌, ap, get_or}
use Rattle.bus_word.specs.Cell.{is_allowed}
use Rattle.recording_coverage.specs.Covers.{no_counts}
use Rattle.recording_coverage.specs.Endings.{counts_of}
use Rattle.recording_coverage.proofs.CountLaws.{counts_at, counts_none}
use Rattle.recording_coverage.proofs.CellLaws.{same_test, number_small, none_has}
use Rattle.recording_coverage.specs.inner.CellNumbers.{number_of_cell}
use Rattle.recording_coverage.proofs.coverage.Coverage.counts_at.Goals as goal

pub returns-then-is_allowed : goal.returns-then-is_allowed
returns-then-is_allowed c = λ ends covers.
    let allowed : is_allowed c.args.cell ≡ true = sym c.is_allowed.ensures ∙ c.if-is_allowed.true in
    counts_at ends c.args.self.now (number_of_cell c.args.cell) c.at.result (number_small c.args.cell allowed) (c.at.ensures ∙ ap (λ n. get_or c.args.self.now.counts.items n no_counts) c.number_of_cell.ensures) covers
    ∙ (λ j. counts_of (λ d. same_test c.args.cell allowed d j) ends)

pub returns-else-is_allowed : goal.returns-else-is_allowed
returns-else-is_allowed c = λ ends covers. counts_none _ (none_has c.args.cell (sym c.is_allowed.ensures ∙ c.if-is_allowed.false)) ends
