use Rattle.std.proofs.Common.{◌≡◌, ◌-◌, ◌∙◌, sym, rules, arith}
use Rattle.bus_legal.specs.Parts.{description_in}
use Rattle.recording_coverage.specs.Messages.{cells_at, cells_in}
use Rattle.recording_coverage.proofs.Lists.{rows_step, rows_end}
use Rattle.recording_coverage.proofs.legal.push_kind.Goals as goal

pub subaddresses-preserved : goal.subaddresses-preserved
subaddresses-preserved c = rows_step (description_in c.args.normal.now).legal (cells_at c.args.kind) 31 c.subaddresses.s _ _ _ (search rules) c.in_ok-push_counts.ensures c.subaddresses.invariant

pub returns : goal.returns
unfolding cells_in
returns c =
    let stop : 31 - c.subaddresses.s ≡ 0 = omega (arith, c.subaddresses-test.false) in
    sym (rows_end (description_in c.args.normal.now).legal (cells_at c.args.kind) 31 c.subaddresses.s _ stop) ∙ c.subaddresses.invariant
