use Rattle.std.proofs.Common.{◌∷◌, [], ◌++◌, ◌∙◌, false, true, ap}
use Rattle.bus_canon.specs.declared.difference.Difference.TheVariants.{Address, BroadcastOption, Acceptance, VectorWord, BitWord, Wraparound}
use Rattle.rt1553_differ.specs.declared.differing.PlaceKind.TheVariants.{Receiving, Transmitting, Broadcasting, Holding}
use Rattle.rt1553_differ.specs.Told.{at_place, of_code, told_differences, in_row, in_rows, possible}
use Rattle.rt1553_differ.proofs.Lists.{onto}
use Rattle.rt1553_differ.proofs.differing.all_told.Goals as goal

pub returns : goal.returns
unfolding possible
returns c =
    let v = c.args.p.now in
    let w = c.args.q.now in
    let l1 = c.in_ok-push_if.ensures ∙ ap (λ xs. xs ++ told_differences v w (Address ∷ [])) c.new-list.ensures.items in
    let l2 = onto v w _ _ (BroadcastOption ∷ []) _ c.in_ok-push_if-2.ensures l1 in
    let l3 = onto v w _ _ (in_rows (at_place Receiving) 1 30) _ c.in_ok-push_rows.ensures l2 in
    let l4 = onto v w _ _ (in_rows (at_place Transmitting) 1 30) _ c.in_ok-push_rows-2.ensures l3 in
    let l5 = onto v w _ _ (in_rows (at_place Broadcasting) 1 30) _ c.in_ok-push_rows-3.ensures l4 in
    let l6 = onto v w _ _ (in_row (of_code false) 0 32) _ c.in_ok-push_codes.ensures l5 in
    let l7 = onto v w _ _ (in_row (of_code true) 0 32) _ c.in_ok-push_codes-2.ensures l6 in
    let l8 = onto v w _ _ (Acceptance ∷ []) _ c.in_ok-push_if-3.ensures l7 in
    let l9 = onto v w _ _ (VectorWord ∷ []) _ c.in_ok-push_if-4.ensures l8 in
    let l10 = onto v w _ _ (BitWord ∷ []) _ c.in_ok-push_if-5.ensures l9 in
    let l11 = onto v w _ _ (in_rows (at_place Holding) 1 30) _ c.in_ok-push_rows-4.ensures l10 in
    onto v w _ _ (Wraparound ∷ []) _ c.in_ok-push_if-6.ensures l11
