use Rattle.std.proofs.Common.{◌≡◌, ◌==◌, true, false, rules}
use Rattle.bus_word.specs.Cell.{cell_of}
use Rattle.bus_word.specs.Command.{subaddress_of}
use Rattle.bus_legal.specs.Parts.{description_in}
use Rattle.recording_coverage.specs.Rows.{has_legal_cell, are_none}
use Rattle.recording_coverage.proofs.RowLaws.{adds_tried, adds_none}
use Rattle.recording_coverage.proofs.rows.push_tried.Goals as goal

pub returns-in_ok-push : goal.returns-in_ok-push
returns-in_ok-push c = λ ends covers.
    let legal : has_legal_cell (description_in c.args.normal.now).legal (cell_of c.args.command) ≡ false = search rules in
    let some : are_none c.counts_of-counts.result ≡ false = search rules in
    let place : (subaddress_of c.args.command == 31) ≡ false = search rules in
    adds_tried (description_in c.args.normal.now) ends c.args.command c.counts_of-counts.result c.args.rows.now.items c.push.new.self.items place legal some (c.counts_of-counts.ensures ends covers) c.in_ok-push.ensures.items

pub returns-else-not-are_none : goal.returns-else-not-are_none
returns-else-not-are_none c = λ ends covers.
    let none : are_none c.counts_of-counts.result ≡ true = search rules in
    adds_none (description_in c.args.normal.now) ends c.args.command c.counts_of-counts.result c.args.rows.now.items none (c.counts_of-counts.ensures ends covers)
