-- The laws of recordings.
use Rattle.std.proofs.Common.{◌≡◌, ℕ, zero, suc, take, drop, ◌≤◌, Bool, true, false, if◌then◌else◌, inl, List, [], ◌∷◌, ◌++◌, refl, ap, sym, ◌∙◌, subst}
use Rattle.std.proofs.lemmas.List.{append-nil, take-append-drop}
use Rattle.bus_legal.specs.Description.{Description}
use Rattle.terminal_rules.specs.declared.event.Event.{Event}
use Rattle.terminal_rules.specs.Same.{AreProper}
use Rattle.terminal_rules.specs.Past.{history_after}
use Rattle.terminal_rules.specs.Out.{out, sent_in}
use Rattle.terminal_recordings.specs.Recordings.{Sighting, is_seen, sightings_from, IsExplainedAfter, IsRecording}
use Rattle.terminal_recordings.specs.Completion.{told_before, completion_from, shown_from, RecordingLaw}
use Rattle.terminal_recordings.proofs.Told.{told_proper}
use Rattle.terminal_recordings.proofs.Follows.{AlikeFor, Follows, follows}

pub proper_join : (xs ys : List Event) → AreProper xs → AreProper ys → AreProper (xs ++ ys)
proper_join [] ys a b = b
proper_join (x ∷ xs) ys (p, a) b = (p, proper_join xs ys a b)

-- what a recording tells can come
pub completion_proper : (P : Description) (h : List Event) (recording : List Sighting) → IsRecording recording → AreProper (completion_from P h recording)
completion_proper P h [] r = tt
completion_proper P h (s ∷ later) (is, r) =
    proper_join (told_before P h s later) _ (told_proper P h s later is.bits) (is.proper, completion_proper P (s.event ∷ history_after (told_before P h s later) h) later r)

-- a behaviour that explains a recording explains each front of it, as far as it goes
abbrev pub Front : Description → List Event → List Sighting → Type 0
Front P h front = (es : List Event) × AreProper es × (sightings_from P h es ≡ front)

pub front_of : (P : Description) (es h : List Event) (front later : List Sighting) → AreProper es → sightings_from P h es ≡ front ++ later → Front P h front
front_of P es h [] later a e = ([], tt, refl)
front_of P [] h (s ∷ front) later a e = cc
front_of P (x ∷ es) h (s ∷ front) later (p, a) e =
    by_seen (is_seen x) refl e (λ q. front_of P es (x ∷ h) front later a q) (λ q. front_of P es (x ∷ h) (s ∷ front) later a q)
  where
    shows : List Sighting → Bool → List Sighting
    shows rest t = if t then record { event = x; sent = sent_in (out P h x) } ∷ rest else rest

    by_seen : (t : Bool) → is_seen x ≡ t → shows (sightings_from P (x ∷ h) es) t ≡ s ∷ (front ++ later) →
        (sightings_from P (x ∷ h) es ≡ front ++ later → Front P (x ∷ h) front) →
        (sightings_from P (x ∷ h) es ≡ s ∷ (front ++ later) → Front P (x ∷ h) (s ∷ front)) → Front P h (s ∷ front)
    by_seen true u e next skip =
        let f : Front P (x ∷ h) front = next cc in
        let head : record { event = x; sent = sent_in (out P h x) } ≡ s = cc in
        (x ∷ f.0, (p, f.1), ap (shows (sightings_from P (x ∷ h) f.0)) u ∙ (λ j. head j ∷ f.2 j))
    by_seen false u e next skip =
        let f : Front P (x ∷ h) (s ∷ front) = skip e in
        (x ∷ f.0, (p, f.1), ap (shows (sightings_from P (x ∷ h) f.0)) u ∙ f.2)

fronts : (P : Description) (h : List Event) (front later : List Sighting) → IsExplainedAfter P h (front ++ later) → IsExplainedAfter P h front
fronts P h front later (es, a, e) = front_of P es h front later a e

at_once : (P : Description) (h : List Event) (recording : List Sighting) → AlikeFor P h h recording
at_once P h recording = record { determined = refl; inhibited = λ e. e; kept = inl refl; reply = inl refl }

-- what is shown of it, where it is explained
explained_follows : (P : Description) → P.address ≤ 30 → (h : List Event) (front later : List Sighting) → IsExplainedAfter P h front → Follows P h front later
explained_follows P low h front later (es, a, e) =
    subst (λ (f : List Sighting). Follows P h f later) e (follows P low es h h later (at_once P h (sightings_from P h es ++ later)))

pub shown_again : (P : Description) (k : List Event) (recording : List Sighting) → Follows P k recording [] → shown_from P k recording ≡ recording
shown_again P k recording f = ap (shown_from P k) (sym (append-nil recording)) ∙ (f.1 ∙ append-nil recording)

pub told_explains : (P : Description) (h : List Event) (recording shows : List Sighting) → IsRecording recording → shown_from P h recording ≡ shows → IsExplainedAfter P h shows
told_explains P h recording shows r e = (completion_from P h recording, completion_proper P h recording r, e)

pub explained_shown : (P : Description) → P.address ≤ 30 → (h : List Event) (recording : List Sighting) → IsExplainedAfter P h recording → shown_from P h recording ≡ recording
explained_shown P low h recording x = shown_again P h recording (explained_follows P low h recording [] x)

-- the first of a front and what comes after it
take_front : (n : ℕ) (xs : List Sighting) (f : List Sighting → List Sighting) → f [] ≡ [] → take n (take n xs ++ f (drop n xs)) ≡ take n xs
take_front zero xs f e = refl
take_front (suc n) [] f e = ap (take (suc n)) e
take_front (suc n) (x ∷ xs) f e = λ j. x ∷ take_front n xs f e j

pub shown_first : (P : Description) (k : List Event) (recording : List Sighting) (n : ℕ) → Follows P k (take n recording) (drop n recording) → take n (shown_from P k recording) ≡ take n recording
shown_first P k recording n (l, e) =
    ap (λ xs. take n (shown_from P k xs)) (sym (take-append-drop n recording))
    ∙ (ap (take n) e ∙ take_front n recording (shown_from P l) refl)

-- and what is so shown is explained
pub first_explained : (P : Description) (h : List Event) (recording : List Sighting) (n : ℕ) → IsRecording recording → take n (shown_from P h recording) ≡ take n recording →
    IsExplainedAfter P h (take n recording)
first_explained P h recording n r e =
    fronts P h (take n recording) (drop n (shown_from P h recording))
    (told_explains P h recording (take n recording ++ drop n (shown_from P h recording)) r
    (sym (take-append-drop n (shown_from P h recording)) ∙ ap (λ xs. xs ++ drop n (shown_from P h recording)) e))

pub recording_law : RecordingLaw
recording_law = record {
  decided = λ P h recording low r. (
    explained_shown P low h recording,
    λ e. told_explains P h recording recording r e,
  );
  first = λ P h recording n low r. (
    λ x. shown_first P h recording n (explained_follows P low h (take n recording) (drop n recording) x),
    λ e. first_explained P h recording n r e,
  );
  fronts = fronts;
}
