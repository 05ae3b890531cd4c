use Rattle.std.proofs.Common.{◌++◌, ◌∷◌, [], ◌∙◌, ap, sym, filter, rules, arith, ◌≡◌, ◌-◌}
use Rattle.bus_legal.specs.Parts.{description_in}
use Rattle.recording_coverage.specs.Messages.{cell_at, cells_at}
use Rattle.recording_coverage.proofs.Lists.{row_step, row_end}
use Rattle.recording_coverage.proofs.legal.push_counts.Goals as goal

pub counts-preserved : goal.counts-preserved
counts-preserved c =
    let legal = (description_in c.args.normal.now).legal in
    row_step legal (cell_at c.args.kind c.args.s) 33 c.counts.n _ _ _ (search rules) (c.in_ok-push_if.ensures ∙ ap (λ x. c.counts.cells.items ++ filter legal (x ∷ [])) c.cell_at.ensures) c.counts.invariant

pub returns : goal.returns
unfolding cells_at
returns c =
    let stop : 33 - c.counts.n ≡ 0 = omega (arith, c.counts-test.false) in
    sym (row_end (description_in c.args.normal.now).legal (cell_at c.args.kind c.args.s) 33 c.counts.n _ stop) ∙ c.counts.invariant
