use Rattle.std.proofs.Common.{arith, ◌≡◌, ◌∙◌, ◌++◌, ◌∷◌, [], ◌+◌, List, suc, take, drop, add-one, sym, subst, take_all, take-append-drop}
use Rattle.std.proofs.lemmas.Result.{err_from_is_err_and}
use Rattle.std.proofs.lemmas.List.{take_rest}
use Rattle.bus_legal.specs.Parts.{description_in}
use Rattle.terminal_recordings.specs.Later.{shut_history}
use Rattle.recorded_terminal.specs.declared.watch.Marked.{Marked}
use Rattle.recorded_terminal.specs.Follows.{shut_down}
use Rattle.recorded_terminal.specs.Marks.{maybe_in, HasManyWays}
use Rattle.recorded_terminal.proofs.WayLaws.{cut_of, take_more}
use Rattle.script_recordings.specs.inner.Settled.{SettlesOne}
use Rattle.script_recordings.proofs.SettleLaws.{SettledSoFar, one_settled, all_settled, none_left, many_settled}
use Rattle.script_recordings.proofs.settling.settle.Goals as goal

pub loop-number-preserved : goal.loop-number-preserved
loop-number-preserved c =
    let D = description_in c.args.normal.now in
    let h = shut_history D (shut_down c.args.shut) in
    let ms : List Marked = c.args.recording.now in
    let n = c.loop-number.number in
    let m : Marked = c.index-recording-number.result in
    let cut : drop n ms ≡ m ∷ drop (suc n) ms = cut_of ms n m c.loop-number-test.true c.index-recording-number.is in
    let more : take n ms ++ m ∷ [] ≡ take (n + 1) ms = sym (take_more ms n m cut) ∙ (λ j. take (sym (add-one n) j) ms) in
    subst (λ (l : List Marked). SettledSoFar D h ms l (drop (n + 1) ms) c.settle_one.new.settled.items) more
    (one_settled D h ms (take n ms) (drop (n + 1) ms) c.loop-number.settled.items c.settle_one.new.settled.items m
    (subst (λ (l : List Marked). SettledSoFar D h ms (take n ms) l c.loop-number.settled.items) (cut ∙ (λ j. m ∷ drop (sym (add-one n) j) ms)) c.loop-number.invariant)
    (subst (λ (l : List Marked). SettlesOne D h m l c.loop-number.settled.items c.settle_one.new.settled.items) (take_rest ms (n + 1)) c.in_ok-settle_one.ensures.settled))

pub returns-in_err-settle_one-clause-refused : goal.returns-in_err-settle_one-clause-refused
returns-in_err-settle_one-clause-refused c =
    let ms : List Marked = c.args.recording.now in
    let n = c.loop-number.number in
    let p = err_from_is_err_and c.from_residual.result c.from_residual.ensures.1 in
    rw (p.1, p.2) (λ same. subst (λ l. HasManyWays (maybe_in l)) (take-append-drop (n + 1) ms)
    (many_settled c.loop-number.settled.items (take (n + 1) ms) (drop (n + 1) ms) c.loop-number.invariant.seen
    (subst (λ l. HasManyWays (maybe_in (c.loop-number.settled.items ++ l))) (take_rest ms (n + 1)) (c.in_err-settle_one.ensures.refused same).1)))

pub returns-clause-settled : goal.returns-clause-settled
returns-clause-settled c =
    let D = description_in c.args.normal.now in
    let h = shut_history D (shut_down c.args.shut) in
    let ms : List Marked = c.args.recording.now in
    let n = c.loop-number.number in
    all_settled D h ms c.loop-number.settled.items
    (subst (λ (l : List Marked). SettledSoFar D h ms l [] c.loop-number.settled.items) (take_all n ms c.loop-number-test.false)
    (subst (λ (l : List Marked). SettledSoFar D h ms (take n ms) l c.loop-number.settled.items) (none_left ms n (omega (arith, c.loop-number-test.false))) c.loop-number.invariant))
