use Rattle.std.proofs.Common.{◌∙◌, sym, rules}
use Rattle.rt1553_differ.specs.Told.{at_place}
use Rattle.rt1553_differ.proofs.Lists.{rows_step, rows_end}
use Rattle.rt1553_differ.proofs.differing.push_rows.Goals as goal

pub loop-s-preserved : goal.loop-s-preserved
loop-s-preserved c = rows_step _ _ (at_place c.args.kind) _ _ _ _ (search rules) c.in_ok-push_row.ensures c.loop-s.invariant

pub returns : goal.returns
returns c = let left = c.loop-s-test.false in sym (rows_end _ _ (at_place c.args.kind) c.loop-s.s _ (search rules)) ∙ c.loop-s.invariant
