use Rattle.std.proofs.Common.{sym, subst, refl}
use Rattle.bus_legal.specs.Parts.{description_in}
use Rattle.rt1553_results.specs.Handed.{answered_in}
use Rattle.rt1553_results.specs.Rows.{rows_of}
use Rattle.rt1553_results.proofs.AskedLaws.{SoFarAsked, asked_more, asked_all}
use Rattle.rt1553_results.proofs.asked.commands_of.Goals as goal

pub loop-row-init : goal.loop-row-init
loop-row-init c = rw c.new-commands.ensures.items (record { left = rows_of (description_in c.args.normal.now); next = 1; are_left = c.new-rows.ensures; all = refl })

pub loop-row-preserved : goal.loop-row-preserved
loop-row-preserved c =
    let s = c.loop-row.invariant in
    let row = c.in-Some.row in
    let is = c.in-Some.ensures.next s.next s.left s.are_left in
    subst (SoFarAsked (description_in c.args.normal.now) c.next.new.self) (sym c.in_ok-push.ensures.items)
    (asked_more (description_in c.args.normal.now) c.loop-row.rows c.next.new.self c.loop-row.commands.items (answered_in row) is.1.0 s is.1.1 is.1.2)

pub returns : goal.returns
returns c =
    let s = c.loop-row.invariant in
    asked_all (description_in c.args.normal.now) c.loop-row.rows c.loop-row.commands.items s (c.in_default.ensures.next s.next s.left s.are_left)
