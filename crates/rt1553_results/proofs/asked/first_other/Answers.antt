use Rattle.rt1553_results.proofs.AskedLaws.{asked_on, asked_whole}
use Rattle.rt1553_results.proofs.asked.first_other.Goals as goal

pub loop-row-preserved : goal.loop-row-preserved
loop-row-preserved c =
    asked_on c.args.commands.now c.args.columns c.args.rows.now c.loop-row.row-index c.row-item.result c.loop-row-test.true c.row-item.is
    (c.is_other_row.ensures.same c.if-is_other_row.false) c.loop-row.invariant

pub returns : goal.returns
returns c = asked_whole c.args.commands.now c.args.columns c.args.rows.now c.loop-row.row-index c.loop-row-test.false c.loop-row.invariant
