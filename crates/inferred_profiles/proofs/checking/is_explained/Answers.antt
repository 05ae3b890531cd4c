use Rattle.std.proofs.Common.{◌≡◌, ◌∙◌, ◌∷◌, ◌++◌, [], suc, List, ap, take, drop, subst, sym, append_assoc, take-append-drop}
use Rattle.std.proofs.lemmas.Result.{err_from_is_err_and}
use Rattle.std.proofs.lemmas.List.{take_more, take_all}
use Rattle.bus_legal.specs.Description.{Description, described}
use Rattle.bus_legal.specs.Tables.{tables_say}
use Rattle.bus_legal.proofs.NormalLaws.{set_up_normal}
use Rattle.bus_legal.specs.Parts.{description_in}
use Rattle.terminal_recordings.specs.Recordings.{IsExplained}
use Rattle.terminal_recordings.specs.MaybeGaps.{ExplainsReading}
use Rattle.recorded_terminal.specs.declared.watch.Marked.{Marked}
use Rattle.recorded_terminal.specs.Marks.{maybe_in, HasManyWays}
use Rattle.recorded_terminal.proofs.GapLaws.{many_front}
use Rattle.recorded_terminal.proofs.WayLaws.{cut_of}
use Rattle.recorded_terminal.specs.Watched.{Watches}
use Rattle.inferred_profiles.proofs.ProposalLaws.{none_of, is_none_of}
use Rattle.inferred_profiles.proofs.checking.is_explained.Goals as goal

pub sightings-preserved : goal.sightings-preserved
sightings-preserved c P watches =
    let ms : List Marked = c.args.recording.now in
    let n = c.sightings.marked-index in
    subst (λ (l : List Marked). Watches (λ normal. tables_say normal.tables) P [] l c.see.new.self)
    (ap (λ x. take n ms ++ x ∷ []) c.marked-item.is ∙ sym (take_more ms n _ c.sightings-test.true))
    (c.in_ok-see.ensures.sees P [] (take n ms) (c.sightings.invariant P watches))

pub returns-in_err-see-clause-refused : goal.returns-in_err-see-clause-refused
returns-in_err-see-clause-refused c =
    let v = c.args.normal.now in
    let ms : List Marked = c.args.recording.now in
    let n = c.sightings.marked-index in
    let m : Marked = c.marked-item.result in
    let Q : Description = described c.setup.result (tables_say v.tables) in
    let cut : drop n ms ≡ m ∷ drop (suc n) ms = cut_of ms n m c.sightings-test.true c.marked-item.is in
    let whole : (take n ms ++ m ∷ []) ++ drop (suc n) ms ≡ ms = append_assoc (take n ms) (m ∷ []) (drop (suc n) ms) ∙ ap (λ l. take n ms ++ l) (sym cut) ∙ take-append-drop n ms in
    let r = c.from_residual-in_err-see in
    let p = err_from_is_err_and r.result r.ensures.1 in
    rw (p.1, p.2) (λ same. subst (λ l. HasManyWays (maybe_in l)) whole (many_front (take n ms ++ m ∷ []) (drop (suc n) ms) (c.in_err-see.ensures.refused same Q [] (take n ms) (c.sightings.invariant Q c.in_ok-watch.ensures))))

pub returns-in_err-first-clause-refused : goal.returns-in_err-first-clause-refused
returns-in_err-first-clause-refused c =
    let v = c.args.normal.now in
    let ms : List Marked = c.args.recording.now in
    let Q : Description = described c.setup.result (tables_say v.tables) in
    let whole : take c.sightings.marked-index ms ≡ ms = take_all c.sightings.marked-index ms c.sightings-test.false in
    let watched = subst (λ (l : List Marked). Watches (λ normal. tables_say normal.tables) Q [] l c.sightings.watch) whole (c.sightings.invariant Q c.in_ok-watch.ensures) in
    let r = c.from_residual-in_err-first in
    let p = err_from_is_err_and r.result r.ensures.1 in
    rw (p.1, p.2) (λ same. c.in_err-first.ensures.refused same Q [] ms watched)

pub returns-clause-explained : goal.returns-clause-explained
returns-clause-explained c =
    let v = c.args.normal.now in
    let ms : List Marked = c.args.recording.now in
    let Q : Description = described c.setup.result (tables_say v.tables) in
    let whole : take c.sightings.marked-index ms ≡ ms = take_all c.sightings.marked-index ms c.sightings-test.false in
    let watched = subst (λ (l : List Marked). Watches (λ normal. tables_say normal.tables) Q [] l c.sightings.watch) whole (c.sightings.invariant Q c.in_ok-watch.ensures) in
    let decided = (c.in_ok-first.ensures.first Q [] ms watched).explained in
    let same : Q ≡ description_in v = set_up_normal v c.setup.result c.setup.ensures.parts in (
      λ truth. subst (λ P. ExplainsReading (IsExplained P) (maybe_in ms)) same (decided.0 (none_of c.in_ok-first.first c.is_none.result c.is_none.ensures truth)),
      λ x. is_none_of c.in_ok-first.first c.is_none.result c.is_none.ensures (decided.1 (subst (λ P. ExplainsReading (IsExplained P) (maybe_in ms)) (sym same) x)),
    )
