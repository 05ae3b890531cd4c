use Rattle.std.proofs.Common.{List, ◌++◌, ◌∙◌, true, false, ap, filter}
use Rattle.bus_word.specs.declared.cell.Cell.{Cell}
use Rattle.bus_legal.specs.Parts.{description_in}
use Rattle.message_names.specs.declared.counts.MessageKind.TheVariants.{Receive, Transmit, BroadcastReceive}
use Rattle.recording_coverage.specs.Messages.{cells_in, cells_of_codes, all_cells}
use Rattle.recording_coverage.proofs.Lists.{onto}
use Rattle.recording_coverage.proofs.legal.legal_cells.Goals as goal

pub returns : goal.returns
unfolding all_cells
returns c =
    let legal = (description_in c.args.normal.now).legal in
    let l1 = c.in_ok-push_kind.ensures ∙ ap (λ xs. xs ++ filter legal (cells_in Receive)) c.new-cells.ensures.items in
    let two : List Cell = cells_in Receive ++ cells_in Transmit in
    let l2 = onto legal _ _ (cells_in Receive) (cells_in Transmit) c.in_ok-push_kind-2.ensures l1 in
    let l3 = onto legal _ _ two (cells_in BroadcastReceive) c.in_ok-push_kind-3.ensures l2 in
    let l4 = onto legal _ _ (two ++ cells_in BroadcastReceive) (cells_of_codes false) c.in_ok-push_codes.ensures l3 in
    onto legal _ _ ((two ++ cells_in BroadcastReceive) ++ cells_of_codes false) (cells_of_codes true) c.in_ok-push_codes-2.ensures l4
