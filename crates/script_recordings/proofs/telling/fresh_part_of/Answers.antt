use Rattle.std.proofs.Common.{◌≡◌, ◌∙◌, ◌++◌, ◌∷◌, [], suc, List, take, drop, ap, sym, subst, add-one, take_all, append_assoc, take-append-drop}
use Rattle.std.proofs.lemmas.Result.{err_from_is_err_and}
use Rattle.bus_legal.specs.Parts.{description_in}
use Rattle.bus_legal.specs.Tables.{tables_say}
use Rattle.bus_legal.proofs.NormalLaws.{set_up_normal}
use Rattle.recorded_terminal.specs.declared.watch.Marked.{Marked}
use Rattle.recorded_terminal.specs.Marks.{maybe_in, HasManyWays}
use Rattle.recorded_terminal.specs.Judged.{CanBegin, WatchesLater}
use Rattle.recorded_terminal.proofs.GapLaws.{many_front}
use Rattle.recorded_terminal.proofs.WayLaws.{cut_of, take_more, if_ok, if_err}
use Rattle.script_recordings.proofs.SinceLaws.{can_begin}
use Rattle.script_recordings.proofs.telling.fresh_part_of.Goals as goal

pub sightings-preserved : goal.sightings-preserved
sightings-preserved c Q watches =
    let ms : List Marked = c.args.recording.now in
    let n = c.sightings.marked-index in
    let m : Marked = c.marked-item.result in
    let cut : drop n ms ≡ m ∷ drop (suc n) ms = cut_of ms n m c.sightings-test.true c.marked-item.is in
    subst (λ (l : List Marked). WatchesLater (λ normal. tables_say normal.tables) Q l c.see.new.self) (sym (take_more ms n m cut) ∙ ap (λ k. take k ms) (sym (add-one n)))
    (c.in_ok-see.ensures.sees Q (take n ms) (c.sightings.invariant Q watches))

-- what was watched, of what can be reached of the profile
watched : (c : goal.After-end) → WatchesLater (λ normal. tables_say normal.tables) (description_in c.args.normal.now) c.args.recording.now c.sightings.watch
watched c =
    let v = c.args.normal.now in
    subst (λ (l : List Marked). WatchesLater (λ normal. tables_say normal.tables) (description_in v) l c.sightings.watch) (take_all c.sightings.marked-index c.args.recording.now c.sightings-test.false)
    (c.sightings.invariant (description_in v)
    (subst (λ D. CanBegin D → WatchesLater (λ normal. tables_say normal.tables) D [] c.in_ok-watch.watch) (set_up_normal v c.setup.result c.setup.ensures.parts) c.in_ok-watch.ensures
    (can_begin v c.setup.ensures.normal)))

pub returns-clause-judged : goal.returns-clause-judged
returns-clause-judged c = if_ok c.end.result _ _ (λ judged x. x (description_in c.args.normal.now) c.args.recording.now (watched c)) c.end.ensures.judged

pub returns-clause-refused : goal.returns-clause-refused
returns-clause-refused c = if_err c.end.result _ _ (λ fault x same. x same (description_in c.args.normal.now) c.args.recording.now (watched c)) c.end.ensures.refused

pub returns-in_err-see-clause-refused : goal.returns-in_err-see-clause-refused
returns-in_err-see-clause-refused c =
    let v = c.args.normal.now in
    let ms : List Marked = c.args.recording.now in
    let n = c.sightings.marked-index in
    let m : Marked = c.marked-item.result in
    let cut : drop n ms ≡ m ∷ drop (suc n) ms = cut_of ms n m c.sightings-test.true c.marked-item.is in
    let whole : (take n ms ++ m ∷ []) ++ drop (suc n) ms ≡ ms = append_assoc (take n ms) (m ∷ []) (drop (suc n) ms) ∙ ap (λ l. take n ms ++ l) (sym cut) ∙ take-append-drop n ms in
    let before : WatchesLater (λ normal. tables_say normal.tables) (description_in v) (take n ms) c.sightings.watch =
    c.sightings.invariant (description_in v)
    (subst (λ D. CanBegin D → WatchesLater (λ normal. tables_say normal.tables) D [] c.in_ok-watch.watch) (set_up_normal v c.setup.result c.setup.ensures.parts) c.in_ok-watch.ensures
    (can_begin v c.setup.ensures.normal)) in
    let r = c.from_residual-in_err-see in
    let p = err_from_is_err_and r.result r.ensures.1 in
    rw (p.1, p.2) (λ same. subst (λ l. HasManyWays (maybe_in l)) whole (many_front (take n ms ++ m ∷ []) (drop (suc n) ms) (c.in_err-see.ensures.refused same (description_in v) (take n ms) before)))
