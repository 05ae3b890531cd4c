use Rattle.std.proofs.Common.{◌++◌, ◌∷◌, [], ◌∙◌, ap, sym, filter, rules, arith, ◌≡◌, ◌-◌}
use Rattle.bus_legal.specs.Parts.{description_in}
use Rattle.recording_coverage.specs.Messages.{mode_at, cells_of_codes}
use Rattle.recording_coverage.proofs.Lists.{row_step, row_end}
use Rattle.recording_coverage.proofs.legal.push_codes.Goals as goal

pub codes-preserved : goal.codes-preserved
codes-preserved c =
    let legal = (description_in c.args.normal.now).legal in
    row_step legal (mode_at c.args.broadcast) 32 c.codes.code _ _ _ (search rules) (c.in_ok-push_if.ensures ∙ ap (λ x. c.codes.cells.items ++ filter legal (x ∷ [])) c.mode_at.ensures) c.codes.invariant

pub returns : goal.returns
unfolding cells_of_codes
returns c =
    let stop : 32 - c.codes.code ≡ 0 = omega (arith, c.codes-test.false) in
    sym (row_end (description_in c.args.normal.now).legal (mode_at c.args.broadcast) 32 c.codes.code _ stop) ∙ c.codes.invariant
