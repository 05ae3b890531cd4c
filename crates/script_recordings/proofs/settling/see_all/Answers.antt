use Rattle.std.proofs.Common.{◌≡◌, ◌∙◌, ◌++◌, ◌∷◌, [], suc, List, take, drop, ap, sym, subst, add-one, take_all, append_assoc, append-nil, take-append-drop}
use Rattle.std.proofs.lemmas.Result.{err_from_is_err_and}
use Rattle.bus_legal.specs.Tables.{tables_say}
use Rattle.recorded_terminal.specs.declared.watch.Marked.{Marked}
use Rattle.recorded_terminal.specs.Marks.{maybe_in, HasManyWays}
use Rattle.recorded_terminal.specs.Watched.{Watches}
use Rattle.recorded_terminal.proofs.GapLaws.{many_front}
use Rattle.recorded_terminal.proofs.WayLaws.{cut_of, take_more}
use Rattle.script_recordings.proofs.settling.see_all.Goals as goal

pub sightings-init : goal.sightings-init
sightings-init c P h ms watches = subst (λ (l : List Marked). Watches (λ normal. tables_say normal.tables) P h l c.args.watch.now) (sym (append-nil ms)) watches

pub sightings-preserved : goal.sightings-preserved
sightings-preserved c P h ms watches =
    let xs : List Marked = c.args.recording.now in
    let n = c.sightings.marked-index in
    let m : Marked = c.marked-item.result in
    let cut : drop n xs ≡ m ∷ drop (suc n) xs = cut_of xs n m c.sightings-test.true c.marked-item.is in
    subst (λ (l : List Marked). Watches (λ normal. tables_say normal.tables) P h l c.see.new.self)
    (append_assoc ms (take n xs) (m ∷ []) ∙ ap (λ l. ms ++ l) (sym (take_more xs n m cut) ∙ ap (λ k. take k xs) (sym (add-one n))))
    (c.in_ok-see.ensures.sees P h (ms ++ take n xs) (c.sightings.invariant P h ms watches))

pub returns-clause-sees : goal.returns-clause-sees
returns-clause-sees c P h ms watches =
    subst (λ (l : List Marked). Watches (λ normal. tables_say normal.tables) P h (ms ++ l) c.sightings.watch) (take_all c.sightings.marked-index c.args.recording.now c.sightings-test.false) (c.sightings.invariant P h ms watches)

pub returns-in_err-see-clause-refused : goal.returns-in_err-see-clause-refused
returns-in_err-see-clause-refused c =
    let xs : List Marked = c.args.recording.now in
    let n = c.sightings.marked-index in
    let m : Marked = c.marked-item.result in
    let cut : drop n xs ≡ m ∷ drop (suc n) xs = cut_of xs n m c.sightings-test.true c.marked-item.is in
    let p = err_from_is_err_and c.from_residual.result c.from_residual.ensures.1 in
    rw (p.1, p.2) (λ same P h ms watches.
    let front : List Marked = ms ++ take n xs in
    let whole : (front ++ m ∷ []) ++ drop (suc n) xs ≡ ms ++ xs =
    append_assoc front (m ∷ []) (drop (suc n) xs) ∙ (append_assoc ms (take n xs) (m ∷ drop (suc n) xs) ∙ ap (λ l. ms ++ l) (ap (λ l. take n xs ++ l) (sym cut) ∙ take-append-drop n xs)) in
    subst (λ l. HasManyWays (maybe_in l)) whole (many_front (front ++ m ∷ []) (drop (suc n) xs) (c.in_err-see.ensures.refused same P h front (c.sightings.invariant P h ms watches))))
