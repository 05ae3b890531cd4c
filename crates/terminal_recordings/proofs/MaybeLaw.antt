-- The laws of recordings with gaps that may have come.
use Rattle.std.proofs.Common.{◌≡◌, ◌↔◌, ℕ, ◌≤◌, true, ◌⊎◌, inl, inr, Option, List, [], ◌∷◌, ◌++◌, map, refl, ap, sym, ◌∙◌, subst, Some, None}
use Rattle.bus_word.specs.declared.word.Bus.{Bus}
use Rattle.bus_legal.specs.Description.{Description}
use Rattle.terminal_recordings.proofs.Summary.{summary, reported_last}
use Rattle.terminal_recordings.proofs.Follows.{FollowsOpen, then_open, unsent}
use Rattle.terminal_recordings.proofs.Told.{shown_step}
use Rattle.terminal_recordings.proofs.GapShows.{gap_shows_nothing}
use Rattle.terminal_rules.specs.declared.event.Event.{Event}
use Rattle.terminal_rules.specs.declared.event.Event.TheVariants.{Gap}
use Rattle.terminal_rules.specs.Reply.{reply_now}
use Rattle.terminal_rules.specs.Past.{past, history_after}
use Rattle.terminal_rules.specs.Out.{out, sent_in}
use Rattle.terminal_recordings.specs.Recordings.{Sighting, IsExplainedAfter, IsSighting, IsRecording}
use Rattle.terminal_recordings.specs.Completion.{status_sent, data_sent, next_status, flags_set, next_set, told_before, shown_from}
use Rattle.terminal_recordings.specs.MaybeGaps.{MaybeSighting, Seen, MaybeGap, gap_on, FirstThen, IsReadingOf, ExplainsReading, IsExplainedSomehow, IsMaybeRecording, gap_does_nothing, certainly, told_history, sent_then, after_seen, HaveMet, MaybeLaw}
use Rattle.terminal_recordings.specs.Later.{no_gaps, BeginsAfresh, command_for, first_command, asks_back}
use Rattle.terminal_recordings.proofs.SlotStep.{sent_or}
use Rattle.terminal_recordings.proofs.MaskLaw.{mask_law, some_follows}
use Rattle.terminal_recordings.specs.Masks.{MaskedSighting, FitsWord, FitsMasked, unmasked, ExplainsSome}
use Rattle.terminal_recordings.proofs.Law.{recording_law, told_explains}
use Rattle.terminal_recordings.proofs.Runs.{quiet_stays}
use Rattle.terminal_recordings.proofs.Pause.{fresh_begins, fresh_explained}
use Rattle.terminal_recordings.proofs.GapLaw.{IsShown, shown_alike, gap_sighting, without_gap}

-- the readings are recordings
first_is : (s : MaskedSighting) (Rest : List MaskedSighting → Type 0) → IsSighting s.sighting → ((recording : List MaskedSighting) → Rest recording → IsRecording (unmasked recording)) → (recording : List MaskedSighting) → FirstThen s Rest recording → IsRecording (unmasked recording)
first_is s Rest is rest [] x = absurd x
first_is s Rest is rest (t ∷ later) (p, x) = (subst (λ (u : MaskedSighting). IsSighting u.sighting) (sym p) is, rest later x)

reading_is : (ms : List MaybeSighting) (recording : List MaskedSighting) → IsMaybeRecording ms → IsReadingOf ms recording → IsRecording (unmasked recording)
reading_is [] recording is x = subst (λ (r : List MaskedSighting). IsRecording (unmasked r)) (sym x) tt
reading_is (Seen s ∷ ms) recording is x = first_is s (IsReadingOf ms) is.0 (λ r y. reading_is ms r is.1 y) recording x
reading_is (MaybeGap b ∷ ms) recording is (inl x) = reading_is ms recording is x
reading_is (MaybeGap b ∷ ms) recording is (inr x) = first_is (gap_on b) (IsReadingOf ms) (gap_sighting b) (λ r y. reading_is ms r is y) recording x

-- in all of them the next status word is the same
first_status : (s : MaskedSighting) (Rest : List MaskedSighting → Type 0) (o : Option ℕ) → ((recording : List MaskedSighting) → Rest recording → next_status (unmasked recording) ≡ o) →
    (recording : List MaskedSighting) → FirstThen s Rest recording → next_status (unmasked recording) ≡ sent_or (status_sent s.sighting.sent) o
first_status s Rest o rest [] x = absurd x
first_status s Rest o rest (t ∷ later) (p, x) = λ j. sent_or (status_sent (p j).sighting.sent) (rest later x j)

same_status : (ms : List MaybeSighting) (recording : List MaskedSighting) → IsReadingOf ms recording → next_status (unmasked recording) ≡ next_status (certainly ms)
same_status [] recording x = ap (λ (r : List MaskedSighting). next_status (unmasked r)) x
same_status (Seen s ∷ ms) recording x = first_status s (IsReadingOf ms) (next_status (certainly ms)) (λ r y. same_status ms r y) recording x
same_status (MaybeGap b ∷ ms) recording (inl x) = same_status ms recording x
same_status (MaybeGap b ∷ ms) recording (inr x) = first_status (gap_on b) (IsReadingOf ms) (next_status (certainly ms)) (λ r y. same_status ms r y) recording x

-- before more sightings too
status_before : (xs later : List Sighting) → next_status (xs ++ later) ≡ sent_or (next_status xs) (next_status later)
status_before [] later = refl
status_before (x ∷ xs) later = (λ j. sent_or (status_sent x.sent) (status_before xs later j)) ∙ twice (status_sent x.sent) (next_status xs) (next_status later)
  where
    twice : (o p q : Option ℕ) → sent_or o (sent_or p q) ≡ sent_or (sent_or o p) q
    twice None p q = refl
    twice (Some c) p q = refl

-- so what is told before a sighting is too
same_told : (P : Description) (h : List Event) (s : MaskedSighting) (ms : List MaybeSighting) (reading : List MaskedSighting) (later : List Sighting) → IsReadingOf ms reading →
    told_before P h s.sighting (unmasked reading ++ later) ≡ told_before P h s.sighting (certainly ms ++ later)
same_told P h s ms reading later x =
    let same : next_status (unmasked reading ++ later) ≡ next_status (certainly ms ++ later) =
    status_before (unmasked reading) later ∙ ((λ j. sent_or (same_status ms reading x j) (next_status later)) ∙ sym (status_before (certainly ms) later)) in
    λ j. flags_set (sent_or (status_sent s.sighting.sent) (same j)) ++ next_set (reply_now (past P h)) (data_sent s.sighting.sent)

-- what is shown of a front fits it, before more sightings
abbrev IsOpen : Description → List Event → List Sighting → List MaskedSighting → Type 0
IsOpen P h later recording = FollowsOpen P h recording later

recording_join : (xs ys : List Sighting) → IsRecording xs → IsRecording ys → IsRecording (xs ++ ys)
recording_join [] ys r q = q
recording_join (x ∷ xs) ys (is, r) q = (is, recording_join xs ys r q)

explained_open : (P : Description) → P.address ≤ 30 → (h : List Event) (recording : List MaskedSighting) (later : List Sighting) → ExplainsSome (IsExplainedAfter P h) recording → IsOpen P h later recording
explained_open P low h recording later x = some_follows P low h recording later x

open_explained : (P : Description) (h : List Event) (recording : List MaskedSighting) (later : List Sighting) → IsRecording (unmasked recording) → IsRecording later → IsOpen P h later recording →
    ExplainsSome (IsExplainedAfter P h) recording
open_explained P h recording later r q (l, shows, fits, e) = (
  shows,
  fits,
  recording_law.fronts P h shows (shown_from P l later) (told_explains P h (unmasked recording ++ later) (shows ++ shown_from P l later) (recording_join (unmasked recording) later r q) e),
)

-- by its first sighting
open_cons : (P : Description) (h : List Event) (s : MaskedSighting) (rest : List MaskedSighting) (later : List Sighting) → IsSighting s.sighting → IsOpen P h later (s ∷ rest) →
    FitsWord s.any_word s.sighting.sent (sent_then P h s (unmasked rest ++ later)) × IsOpen P (after_seen P h s (unmasked rest ++ later)) later rest
open_cons P h s rest later is (l, [], fits, e) = absurd fits
open_cons P h s rest later is (l, t ∷ shows, (fit, fits), e) =
    let step : shown_from P h (s.sighting ∷ (unmasked rest ++ later)) ≡ record { event = s.sighting.event; sent = sent_then P h s (unmasked rest ++ later) } ∷ shown_from P (after_seen P h s (unmasked rest ++ later)) (unmasked rest ++ later) =
    shown_step P h s.sighting (unmasked rest ++ later) is.seen in
    let both : record { event = s.sighting.event; sent = sent_then P h s (unmasked rest ++ later) } ∷ shown_from P (after_seen P h s (unmasked rest ++ later)) (unmasked rest ++ later) ≡ t ∷ (shows ++ shown_from P l later) =
    sym step ∙ e in
    let head : record { event = s.sighting.event; sent = sent_then P h s (unmasked rest ++ later) } ≡ t = cc in
    let tail : shown_from P (after_seen P h s (unmasked rest ++ later)) (unmasked rest ++ later) ≡ shows ++ shown_from P l later = cc in
    (subst (λ (u : Sighting). FitsWord s.any_word s.sighting.sent u.sent) (sym head) fit.sent, (l, shows, fits, tail))

-- ---- a sighting, and then the rest

first_open : (P : Description) (h : List Event) (s : MaskedSighting) (ms : List MaybeSighting) (later : List Sighting) → P.address ≤ 30 → IsSighting s.sighting → IsMaybeRecording ms → IsRecording later →
    (recording : List MaskedSighting) → FirstThen s (IsReadingOf ms) recording → ExplainsSome (IsExplainedAfter P h) recording →
    FitsWord s.any_word s.sighting.sent (sent_then P h s (certainly ms ++ later)) × IsExplainedSomehow P (after_seen P h s (certainly ms ++ later)) ms
first_open P h s ms later low is are r [] x e = absurd x
first_open P h s ms later low is are r (t ∷ rest) (p, x) e =
    let c = open_cons P h s rest later is (explained_open P low h (s ∷ rest) later (subst (λ (u : MaskedSighting). ExplainsSome (IsExplainedAfter P h) (u ∷ rest)) p e)) in
    let told : told_before P h s.sighting (unmasked rest ++ later) ≡ told_before P h s.sighting (certainly ms ++ later) = same_told P h s ms rest later x in (
      subst (λ (es : List Event). FitsWord s.any_word s.sighting.sent (sent_in (out P (history_after es h) s.sighting.event))) told c.0,
      (rest, x, open_explained P (after_seen P h s (certainly ms ++ later)) rest later (reading_is ms rest are x) r (subst (λ (es : List Event). IsOpen P (s.sighting.event ∷ history_after es h) later rest) told c.1)),
    )

then_open_reading : (P : Description) (h : List Event) (s : MaskedSighting) (ms : List MaybeSighting) (later : List Sighting) → P.address ≤ 30 → IsSighting s.sighting → IsMaybeRecording ms → IsRecording later →
    FitsWord s.any_word s.sighting.sent (sent_then P h s (certainly ms ++ later)) → IsExplainedSomehow P (after_seen P h s (certainly ms ++ later)) ms →
    (recording : List MaskedSighting) × FirstThen s (IsReadingOf ms) recording × ExplainsSome (IsExplainedAfter P h) recording
then_open_reading P h s ms later low is are r sent (rest, x, e) =
    let again : told_before P h s.sighting (unmasked rest ++ later) ≡ told_before P h s.sighting (certainly ms ++ later) = same_told P h s ms rest later x in (
      s ∷ rest,
      (refl, x),
      open_explained P h (s ∷ rest) later (is, reading_is ms rest are x) r
          (then_open P h s rest later is.seen
          (subst (λ (es : List Event). FitsWord s.any_word s.sighting.sent (sent_in (out P (history_after es h) s.sighting.event))) (sym again) sent)
          (subst (λ (es : List Event). IsOpen P (s.sighting.event ∷ history_after es h) later rest) (sym again) (explained_open P low (after_seen P h s (certainly ms ++ later)) rest later e))),
    )

seen_whole : (P : Description) → P.address ≤ 30 → (h : List Event) (s : MaskedSighting) (ms : List MaybeSighting) (later : List Sighting) → IsMaybeRecording (Seen s ∷ ms) → IsRecording later →
    FitsWord s.any_word s.sighting.sent (sent_then P h s (certainly ms ++ later)) × IsExplainedSomehow P (after_seen P h s (certainly ms ++ later)) ms → IsExplainedSomehow P h (Seen s ∷ ms)
seen_whole P low h s ms later is r (sent, x) = then_open_reading P h s ms later low is.0 is.1 r sent x

-- a reading without the gap is one of the rest
without : (P : Description) (h : List Event) (b : Bus) (ms : List MaybeSighting) → IsExplainedSomehow P h ms → IsExplainedSomehow P h (MaybeGap b ∷ ms)
without P h b ms x = (x.0, inl x.1, x.2)

gap_silent : (P : Description) (h : List Event) (b : Bus) (later : List Sighting) → sent_then P h (gap_on b) later ≡ None
gap_silent P h b later = unsent P (told_history P h (gap_on b) later) (Gap b) refl

gap_parts : (P : Description) → P.address ≤ 30 → (h : List Event) (b : Bus) (ms : List MaybeSighting) (later : List Sighting) → IsMaybeRecording ms → IsRecording later → IsExplainedSomehow P h (MaybeGap b ∷ ms) →
    IsExplainedSomehow P h ms ⊎ IsExplainedSomehow P (after_seen P h (gap_on b) (certainly ms ++ later)) ms
gap_parts P low h b ms later is r (recording, inl x, e) = inl (recording, x, e)
gap_parts P low h b ms later is r (recording, inr x, e) = inr (first_open P h (gap_on b) ms later low (gap_sighting b) is r recording x e).1

gap_whole : (P : Description) → P.address ≤ 30 → (h : List Event) (b : Bus) (ms : List MaybeSighting) (later : List Sighting) → IsMaybeRecording ms → IsRecording later →
    IsExplainedSomehow P h ms ⊎ IsExplainedSomehow P (after_seen P h (gap_on b) (certainly ms ++ later)) ms → IsExplainedSomehow P h (MaybeGap b ∷ ms)
gap_whole P low h b ms later is r (inl x) = without P h b ms x
gap_whole P low h b ms later is r (inr x) =
    let f = then_open_reading P h (gap_on b) ms later low (gap_sighting b) is r (gap_silent P h b (certainly ms ++ later)) x in (f.0, inr f.1, f.2)

-- ---- a reading that is shown

abbrev ShownReading : Description → List Event → List MaybeSighting → Type 0
ShownReading P h ms = (recording : List MaskedSighting) × IsReadingOf ms recording × IsShown P h recording

-- explained is shown
explained_shown : (P : Description) → P.address ≤ 30 → (h : List Event) (ms : List MaybeSighting) → IsMaybeRecording ms → IsExplainedSomehow P h ms → ShownReading P h ms
explained_shown P low h ms is x = (x.0, x.1, (mask_law.decided P h x.0 low (reading_is ms x.0 is x.1)).0 x.2)

shown_explained : (P : Description) → P.address ≤ 30 → (h : List Event) (ms : List MaybeSighting) → IsMaybeRecording ms → ShownReading P h ms → IsExplainedSomehow P h ms
shown_explained P low h ms is x = (x.0, x.1, (mask_law.decided P h x.0 low (reading_is ms x.0 is x.1)).1 x.2)

-- a gap that does nothing is left out
gap_left : (P : Description) → P.address ≤ 30 → (h : List Event) (b : Bus) (ms : List MaybeSighting) → gap_does_nothing P h b ≡ true →
    (recording : List MaskedSighting) → FirstThen (gap_on b) (IsReadingOf ms) recording → IsShown P h recording → ShownReading P h ms
gap_left P low h b ms e [] x shown = absurd x
gap_left P low h b ms e (t ∷ later) (p, x) shown = (later, x, without_gap P low h b later e (subst (λ (u : MaskedSighting). IsShown P h (u ∷ later)) p shown))

left_out : (P : Description) → P.address ≤ 30 → (h : List Event) (b : Bus) (ms : List MaybeSighting) → IsMaybeRecording ms → gap_does_nothing P h b ≡ true → IsExplainedSomehow P h (MaybeGap b ∷ ms) → IsExplainedSomehow P h ms
unfolding explained_shown
left_out P low h b ms is e (recording, inl x, f) = (recording, x, f)
left_out P low h b ms is e (recording, inr x, f) =
    let r = explained_shown P low h (MaybeGap b ∷ ms) is (recording, inr x, f) in
    shown_explained P low h ms is (gap_left P low h b ms e recording x r.2)

-- ---- histories that have met

met_summary : (P : Description) (h k : List Event) → HaveMet P h k → summary P (past P h) ≡ summary P (past P k)
met_summary P h k m = λ j. record {
  determined = record { run = λ b. m.run b j; message = λ b. m.message b j; off = λ b. m.off b j; last = reported_last P (m.last j) };
  inhibited = m.inhibited j;
  kept = m.kept j;
  reply = m.reply j;
}

-- ---- fronts

-- a reading of the whole is a reading of a front, and then more
abbrev FrontOf : List MaybeSighting → List MaskedSighting → Type 0
FrontOf front recording = (first : List MaskedSighting) × (rest : List MaskedSighting) × IsReadingOf front first × (recording ≡ first ++ rest)

first_front : (s : MaskedSighting) (front : List MaybeSighting) (Rest : List MaskedSighting → Type 0) → ((recording : List MaskedSighting) → Rest recording → FrontOf front recording) →
    (recording : List MaskedSighting) → FirstThen s Rest recording → (first : List MaskedSighting) × (rest : List MaskedSighting) × FirstThen s (IsReadingOf front) first × (recording ≡ first ++ rest)
first_front s front Rest next [] x = absurd x
first_front s front Rest next (t ∷ later) (p, x) = let f = next later x in (t ∷ f.0, f.1, (p, f.2), ap (λ l. t ∷ l) f.3)

front_reading : (front later : List MaybeSighting) (recording : List MaskedSighting) → IsReadingOf (front ++ later) recording → FrontOf front recording
front_reading [] later recording x = ([], recording, refl, refl)
front_reading (Seen s ∷ front) later recording x = first_front s front (IsReadingOf (front ++ later)) (λ r y. front_reading front later r y) recording x
front_reading (MaybeGap b ∷ front) later recording (inl x) = let f = front_reading front later recording x in (f.0, f.1, inl f.2, f.3)
front_reading (MaybeGap b ∷ front) later recording (inr x) =
    let f = first_front (gap_on b) front (IsReadingOf (front ++ later)) (λ r y. front_reading front later r y) recording x in (f.0, f.1, inr f.2, f.3)

fits_front : (front rest : List MaskedSighting) (recording : List Sighting) → FitsMasked (front ++ rest) recording → (first : List Sighting) × (later : List Sighting) × FitsMasked front first × (recording ≡ first ++ later)
fits_front [] rest recording f = ([], recording, tt, refl)
fits_front (m ∷ front) rest [] f = absurd f
fits_front (m ∷ front) rest (s ∷ recording) (f, fs) = let g = fits_front front rest recording fs in (s ∷ g.0, g.1, (f, g.2), ap (λ l. s ∷ l) g.3)

front_explained : (P : Description) (h : List Event) (front later : List MaybeSighting) → IsExplainedSomehow P h (front ++ later) → IsExplainedSomehow P h front
front_explained P h front later x =
    let f = front_reading front later x.0 x.1 in
    let fits : FitsMasked (f.0 ++ f.1) x.2.0 = subst (λ (r : List MaskedSighting). FitsMasked r x.2.0) f.3 x.2.1 in
    let g = fits_front f.0 f.1 x.2.0 fits in
    (f.0, f.2, (g.0, g.2, recording_law.fronts P h g.0 g.1 (subst (λ (r : List Sighting). IsExplainedAfter P h r) g.3 x.2.2)))

-- ---- one that begins later than power-up

abbrev command_or : Description → Event → Option ℕ → Option ℕ
command_or P e later = elim (command_for P e) [ None ↦ later | Some c ↦ Some c ]

first_command_of : (P : Description) (s : MaskedSighting) (Rest : List MaskedSighting → Type 0) (o : Option ℕ) → ((recording : List MaskedSighting) → Rest recording → first_command P (unmasked recording) ≡ o) →
    (recording : List MaskedSighting) → FirstThen s Rest recording → first_command P (unmasked recording) ≡ command_or P s.sighting.event o
first_command_of P s Rest o rest [] x = absurd x
first_command_of P s Rest o rest (t ∷ later) (p, x) = λ j. command_or P (p j).sighting.event (rest later x j)

same_command : (P : Description) (ms : List MaybeSighting) (recording : List MaskedSighting) → IsReadingOf ms recording → first_command P (unmasked recording) ≡ first_command P (certainly ms)
same_command P [] recording x = ap (λ (r : List MaskedSighting). first_command P (unmasked r)) x
same_command P (Seen s ∷ ms) recording x = first_command_of P s (IsReadingOf ms) (first_command P (certainly ms)) (λ r y. same_command P ms r y) recording x
same_command P (MaybeGap b ∷ ms) recording (inl x) = same_command P ms recording x
same_command P (MaybeGap b ∷ ms) recording (inr x) = first_command_of P (gap_on b) (IsReadingOf ms) (first_command P (certainly ms)) (λ r y. same_command P ms r y) recording x

reads_afresh : (P : Description) (ms : List MaybeSighting) (recording : List MaskedSighting) → IsReadingOf ms recording → BeginsAfresh P (certainly ms) → BeginsAfresh P (unmasked recording)
reads_afresh P ms recording x a = ap (asks_back P) (same_command P ms recording x) ∙ a

-- one in which all came is its only reading
all_came : (ms : List MaskedSighting) → IsReadingOf (map Seen ms) ms
all_came [] = refl
all_came (s ∷ ms) = (refl, all_came ms)

only_came : (ms reading : List MaskedSighting) → IsReadingOf (map Seen ms) reading → reading ≡ ms
only_came [] reading x = x
only_came (s ∷ ms) [] x = absurd x
only_came (s ∷ ms) (t ∷ reading) (p, x) = λ j. p j ∷ only_came ms reading x j

pub whole_reading : (E : List Sighting → Type 0) (ms : List MaskedSighting) → ExplainsReading E (map Seen ms) ↔ ExplainsSome E ms
whole_reading E ms = (λ x. subst (ExplainsSome E) (only_came ms x.0 x.1) x.2, λ x. (ms, all_came ms, x))

pub maybe_law : MaybeLaw
maybe_law = record {
  same_answers = gap_shows_nothing;
  left_out = λ P h b ms low is e. (λ x. left_out P low h b ms is e x, λ x. without P h b ms x);
  decided = λ P h ms low is. (λ x. explained_shown P low h ms is x, λ x. shown_explained P low h ms is x);
  none = λ P h. ([], refl, ([], tt, ([], tt, refl)));
  seen = λ P h s ms later low is r. (λ x. first_open P h s ms later low is.0 is.1 r x.0 x.1 x.2, λ x. seen_whole P low h s ms later is r x);
  gap = λ P h b ms later low is r. (λ x. gap_parts P low h b ms later is r x, λ x. gap_whole P low h b ms later is r x);
  met = λ P h k ms low is m x. let r = explained_shown P low h ms is x in shown_explained P low k ms is (r.0, r.1, shown_alike P low h k r.0 (met_summary P h k m) r.2);
  quiet = quiet_stays;
  fronts = front_explained;
  later = λ P ms low l is a. (
    λ x. let s = (mask_law.later P x.0 low l (reading_is ms x.0 is x.1) (reads_afresh P ms x.0 x.1 a)).0 x.2 in (s.0, (x.0, x.1, s.1)),
    λ s. (s.1.0, s.1.1, (mask_law.later P s.1.0 low l (reading_is ms s.1.0 is s.1.1) (reads_afresh P ms s.1.0 s.1.1 a)).1 (s.0, s.1.2)),
  );
  afresh = λ P ms part e. (fresh_begins P ms part no_gaps e, λ x. fresh_explained P ms part e x);
}
