use Rattle.bus_legal.specs.Parts.{description_in}
use Rattle.rt1553_results.specs.Handed.{answered_in}
use Rattle.rt1553_results.specs.Results.{answer}
use Rattle.rt1553_results.proofs.CompareLaws.{so_far_more, so_far_all}
use Rattle.rt1553_results.proofs.comparing.tell.Goals as goal

pub loop-row-preserved : goal.loop-row-preserved
loop-row-preserved c =
    let s = c.loop-row.invariant in
    let row = c.in-Some.row in
    let is = c.in-Some.ensures.next s.next s.left s.are_left in
    so_far_more (description_in c.args.normal.now) (answer c.args.results.now) c.loop-row.rows c.next.new.self c.loop-row.comparison c.note.new.comparison (answered_in row) row.number is.1.0 s is.0 is.1.1 is.1.2 c.in_ok-note.ensures.differ c.in_ok-note.ensures.miss c.in_ok-note.ensures.total

pub returns : goal.returns
returns c =
    let s = c.loop-row.invariant in
    so_far_all (description_in c.args.normal.now) (answer c.args.results.now) c.loop-row.rows c.loop-row.comparison s (c.in_default.ensures.next s.next s.left s.are_left)
