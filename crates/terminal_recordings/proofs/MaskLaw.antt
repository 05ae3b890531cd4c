-- The laws of recordings that leave words open.
use Rattle.std.proofs.Common.{◌≡◌, ℕ, zero, suc, ◌≤◌, take, drop, true, inl, Some, None, List, [], ◌∷◌, ◌++◌, refl, ap, sym, ◌∙◌, subst, append-nil, take-append-drop}
use Rattle.bus_word.specs.declared.cell.Cell.TheVariants.{OwnMode}
use Rattle.bus_legal.specs.Description.{Description}
use Rattle.terminal_rules.specs.declared.event.Event.{Event}
use Rattle.terminal_recordings.specs.Recordings.{Sighting, sightings_from, IsExplainedAfter, IsRecording}
use Rattle.terminal_recordings.specs.Completion.{completion_from, shown_from}
use Rattle.terminal_recordings.specs.Later.{IsExplainedLater, command_for, first_command, asks_back, BeginsAfresh, ShutDown, shutting, shut_history}
use Rattle.terminal_recordings.specs.Masks.{MaskedSighting, FitsMasked, unmasked, ExplainsSome, MaskLaw}
use Rattle.terminal_recordings.proofs.Follows.{FollowsOpen, follows_open}
use Rattle.terminal_recordings.proofs.Law.{front_of, told_explains, shown_again}
use Rattle.terminal_recordings.proofs.Leaving.{shutting_leaves, shutting_proper}
use Rattle.terminal_recordings.proofs.LaterLaw.{explained_follows}

unmasked_join : (xs ys : List MaskedSighting) → unmasked (xs ++ ys) ≡ unmasked xs ++ unmasked ys
unmasked_join [] ys = refl
unmasked_join (x ∷ xs) ys = ap (λ l. x.sighting ∷ l) (unmasked_join xs ys)

-- what is shown where events are seen as one that fits
seen_follows : (P : Description) → P.address ≤ 30 → (h es : List Event) (ms : List MaskedSighting) (later : List Sighting) → FitsMasked ms (sightings_from P h es) → FollowsOpen P h ms later
seen_follows P low h es ms later fits = follows_open P low es h h ms later fits (record { determined = refl; inhibited = λ e. e; kept = inl refl; reply = inl refl })

pub some_follows : (P : Description) → P.address ≤ 30 → (h : List Event) (ms : List MaskedSighting) (later : List Sighting) → ExplainsSome (IsExplainedAfter P h) ms → FollowsOpen P h ms later
some_follows P low h ms later (recording, fits, (es, a, e)) = seen_follows P low h es ms later (subst (FitsMasked ms) (sym e) fits)

shown_fits : (P : Description) (h : List Event) (ms : List MaskedSighting) → FollowsOpen P h ms [] → FitsMasked ms (shown_from P h (unmasked ms))
shown_fits P h ms f =
    let same : shown_from P h (unmasked ms) ≡ f.1 = ap (shown_from P h) (sym (append-nil (unmasked ms))) ∙ (f.3 ∙ append-nil f.1) in
    subst (FitsMasked ms) (sym same) f.2

fits_explains : (P : Description) (h : List Event) (ms : List MaskedSighting) → IsRecording (unmasked ms) → FitsMasked ms (shown_from P h (unmasked ms)) → ExplainsSome (IsExplainedAfter P h) ms
fits_explains P h ms r fits = (shown_from P h (unmasked ms), fits, told_explains P h (unmasked ms) (shown_from P h (unmasked ms)) r refl)

-- the first of what is shown
first_fits : (n : ℕ) (ms : List MaskedSighting) (shows : List Sighting) (rest : List Sighting → List Sighting) → rest [] ≡ [] → FitsMasked (take n ms) shows →
    FitsMasked (take n ms) (take n (shows ++ rest (unmasked (drop n ms))))
first_fits zero ms shows rest e fits = tt
first_fits (suc n) [] [] rest e fits = subst (λ (l : List Sighting). FitsMasked [] (take (suc n) l)) (sym e) tt
first_fits (suc n) [] (s ∷ shows) rest e fits = absurd fits
first_fits (suc n) (m ∷ ms) [] rest e fits = absurd fits
first_fits (suc n) (m ∷ ms) (s ∷ shows) rest e (f, fits) = (f, first_fits n ms shows rest e fits)

first_shown : (P : Description) (h : List Event) (ms : List MaskedSighting) (n : ℕ) → FollowsOpen P h (take n ms) (unmasked (drop n ms)) → FitsMasked (take n ms) (take n (shown_from P h (unmasked ms)))
first_shown P h ms n (l, shows, fits, e) =
    let all : unmasked (take n ms) ++ unmasked (drop n ms) ≡ unmasked ms = sym (unmasked_join (take n ms) (drop n ms)) ∙ ap unmasked (take-append-drop n ms) in
    subst (λ (xs : List Sighting). FitsMasked (take n ms) (take n xs)) (sym e ∙ ap (shown_from P h) all) (first_fits n ms shows (shown_from P l) refl fits)

first_explains : (P : Description) (h : List Event) (ms : List MaskedSighting) (n : ℕ) → IsRecording (unmasked ms) → FitsMasked (take n ms) (take n (shown_from P h (unmasked ms))) →
    ExplainsSome (IsExplainedAfter P h) (take n ms)
first_explains P h ms n r fits =
    let shows : List Sighting = shown_from P h (unmasked ms) in
    let told : IsExplainedAfter P h shows = told_explains P h (unmasked ms) shows r refl in
    (take n shows, fits, front_of P told.0 h (take n shows) (drop n shows) told.1 (told.2 ∙ sym (take-append-drop n shows)))

-- ---- later than power-up

first_command_fits : (P : Description) (ms : List MaskedSighting) (recording : List Sighting) → FitsMasked ms recording → first_command P recording ≡ first_command P (unmasked ms)
first_command_fits P [] [] fits = refl
first_command_fits P [] (s ∷ recording) fits = absurd fits
first_command_fits P (m ∷ ms) [] fits = absurd fits
first_command_fits P (m ∷ ms) (s ∷ recording) (f, fits) =
    λ j. elim (command_for P (f.event j)) [ None ↦ first_command_fits P ms recording fits j | Some c ↦ Some c ]

begun : (P : Description) (ms : List MaskedSighting) → P.address ≤ 30 → P.legal (OwnMode 4) ≡ true → IsRecording (unmasked ms) → BeginsAfresh P (unmasked ms) →
    ExplainsSome (IsExplainedLater P) ms → (shut : ShutDown) × ExplainsSome (IsExplainedAfter P (shut_history P shut)) ms
begun P ms low l r afresh (recording, fits, x) =
    let f = explained_follows P recording [] low l (ap (asks_back P) (first_command_fits P ms recording fits) ∙ afresh) x in
    let k : List Event = shut_history P f.0 in
    (f.0, fits_explains P k ms r (shown_fits P k ms (seen_follows P low k (completion_from P k recording) ms [] (subst (FitsMasked ms) (sym (shown_again P k recording f.1)) fits))))

begun_later : (P : Description) (ms : List MaskedSighting) → P.address ≤ 30 → P.legal (OwnMode 4) ≡ true → (shut : ShutDown) → ExplainsSome (IsExplainedAfter P (shut_history P shut)) ms →
    ExplainsSome (IsExplainedLater P) ms
begun_later P ms low l shut (recording, fits, x) = (recording, fits, (shutting P shut, shutting_proper P shut low, (shutting_leaves P shut low l).quiet, x))

pub mask_law : MaskLaw
mask_law = record {
  decided = λ P h ms low r. (
    λ x. shown_fits P h ms (some_follows P low h ms [] x),
    λ fits. fits_explains P h ms r fits,
  );
  first = λ P h ms n low r. (
    λ x. first_shown P h ms n (some_follows P low h (take n ms) (unmasked (drop n ms)) x),
    λ fits. first_explains P h ms n r fits,
  );
  later = λ P ms low l r afresh. (
    λ x. begun P ms low l r afresh x,
    λ x. begun_later P ms low l x.0 x.1,
  );
}
