use Rattle.std.proofs.Common.{◌≡◌, ◌∙◌, ◌∷◌, [], ◌++◌, suc, List, Option, Some, None, take, drop, ap, sym, refl, add-one, append-nil, take_all}
use Rattle.std.specs.Option.{option_map, option_to_list}
use Rattle.recorded_terminal.specs.declared.sighting.Sighting.{Sighting as Seen}
use Rattle.recorded_terminal.specs.Sightings.{recorded, shown_sighting}
use Rattle.recorded_terminal.specs.declared.watch.Marked.{Marked}
use Rattle.recorded_terminal.specs.Marks.{seen_in}
use Rattle.recorded_terminal.proofs.WayLaws.{cut_of, take_more}
use Rattle.recorded_terminal.proofs.WatchLaws.{seen_append}
use Rattle.recorded_terminal.proofs.telling.sightings_of.Goals as goal
use Rattle.recorded_terminal.proofs.telling.sightings_of.Goals.{in-Some+in_ok-push, in_default}

recorded_more : (xs ys : List Seen) → recorded (xs ++ ys) ≡ recorded xs ++ recorded ys
recorded_more [] ys = refl
recorded_more (x ∷ xs) ys = ap (λ l. shown_sighting x ∷ l) (recorded_more xs ys)

-- with a sighting more, or none
pushed : (xs ys : List Seen) (o : Option Seen) (m : Marked) → option_to_list (option_map shown_sighting o) ≡ seen_in (m ∷ []) → ys ≡ xs ++ option_to_list o → recorded ys ≡ recorded xs ++ seen_in (m ∷ [])
pushed xs ys o m is all = ap recorded all ∙ (recorded_more xs (option_to_list o) ∙ ap (λ l. recorded xs ++ l) (of o ∙ is))
  where
    of : (o : Option Seen) → recorded (option_to_list o) ≡ option_to_list (option_map shown_sighting o)
    of None = refl
    of (Some x) = refl

none_of : (o : Option Seen) → ((x : Seen) → o ≡ Some x → ⊥) → o ≡ None
none_of None n = refl
none_of (Some x) n = absurd (n x refl)

pub marked-preserved : goal.marked-preserved
marked-preserved c =
    let ms : List Marked = c.args.recording.now in
    let n = c.marked.marked-index in
    let m : Marked = c.marked-item.result in
    let cut : drop n ms ≡ m ∷ drop (suc n) ms = cut_of ms n m c.marked-test.true c.marked-item.is in
    let sightings = c.match-certain.sightings.items in
    let more : sightings ≡ c.marked.sightings.items ++ option_to_list c.certain.result = elim c.match-certain.branch [
      | in-Some+in_ok-push w ↦ (λ j. (w.sightings-is j).items) ∙ (w.in_ok-push.ensures.items ∙ ap (λ o. c.marked.sightings.items ++ option_to_list o) (sym w.in-Some.is))
      | in_default w ↦ (λ j. (w.sightings-is j).items) ∙ (sym (append-nil c.marked.sightings.items) ∙ ap (λ o. c.marked.sightings.items ++ option_to_list o) (sym (none_of c.certain.result w.in_default.not-Some)))
    ] in
    pushed c.marked.sightings.items sightings c.certain.result m c.certain.ensures more ∙ ap (λ l. l ++ seen_in (m ∷ [])) c.marked.invariant
    ∙ (sym (seen_append (take n ms) (m ∷ [])) ∙ (ap seen_in (sym (take_more ms n m cut)) ∙ ap (λ k. seen_in (take k ms)) (sym (add-one n))))

pub returns : goal.returns
returns c = c.marked.invariant ∙ ap seen_in (take_all c.marked.marked-index c.args.recording.now c.marked-test.false)
