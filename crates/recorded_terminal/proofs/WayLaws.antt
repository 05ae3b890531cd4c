-- Laws of the ways that a recording can have gone.
use Rattle.std.proofs.Common.{◌≡◌, ◌∙◌, ℕ, zero, suc, ◌≤◌, ◌<◌, arith, Bool, true, false, not, ◌&&◌, ◌||◌, if◌then◌else◌, length, take, drop, get_or, set, ◌==◌, eqb-true, Result, Ok, Err, IfOk, IfErr, ◌⊎◌, inl, inr, Option, None, List, [], ◌∷◌, ◌++◌, refl, sym, ap, subst, add-one, length-append}
use Rattle.std.specs.List.{AllByRecursion}
use Rattle.std.proofs.Math.Seq.{drop-cons}
use Rattle.std.specs.Bool.{beq}
use Rattle.std.proofs.lemmas.Bool.{and_parts}
use Rattle.bus_word.specs.declared.status.StatusParts.{StatusParts}
use Rattle.bus_word.specs.declared.word.Bus.{Bus}
use Rattle.bus_word.specs.declared.word.Bus.TheVariants.{A, B}
use Rattle.bus_word.specs.declared.cell.Cell.{Cell}
use Rattle.bus_legal.specs.Description.{Description}
use Rattle.bus_terminal.specs.declared.answer.Sent.{Sent}
use Rattle.terminal_rules.specs.declared.event.Event.{Event}
use Rattle.terminal_rules.specs.declared.event.Event.TheVariants.{Word, Noise, Gap, Write, Vector, Bit, Flag as FlagIs, Slot}
use Rattle.terminal_rules.specs.declared.event.Flag.TheVariants.{Service, Busy, Subsystem, Terminal}
use Rattle.terminal_rules.specs.History.{run}
use Rattle.terminal_rules.specs.Reply.{reply_now}
use Rattle.terminal_rules.specs.Open.{Open, Idle, Collects, Waits, Resumes}
use Rattle.terminal_rules.specs.SinceReset.{off_now}
use Rattle.terminal_rules.specs.Steps.{replies_on}
use Rattle.terminal_state.specs.Buses.{on_bus}
use Rattle.terminal_state.specs.Registers.{registers_now}
use Rattle.terminal_state.specs.declared.buses.OnBuses.{OnBuses}
use Rattle.terminal_state.specs.declared.registers.Registers.{Registers}
use Rattle.bus_terminal.specs.Waiting.{awaited, awaited_in}
use Rattle.terminal_rules.specs.Past.{past, open_at, history_after}
use Rattle.terminal_rules.specs.Same.{IsProper, AreProper}
use Rattle.terminal_rules.specs.Out.{Sending, out, sent_in}
use Rattle.terminal_recordings.specs.Recordings.{Sighting, is_seen, AreUnseen, HasBits, IsSighting, IsRecording, sightings_from}
use Rattle.terminal_recordings.specs.Completion.{data_sent, next_status, flag_shown, flags_set, next_set}
use Rattle.terminal_recordings.specs.Masks.{MaskedSighting, FitsWord, FitsSighting, FitsMasked}
use Rattle.terminal_recordings.specs.MaybeGaps.{MaybeSighting, Seen, MaybeGap, gap_on, IsReadingOf, IsExplainedSomehow, IsMaybeRecording, certainly, gap_does_nothing, no_entry, waits, HaveMet, after_seen}
use Rattle.terminal_recordings.proofs.Told.{summary_quiet, told_quiet, told_proper, sightings_quiet, sightings_more}
use Rattle.terminal_recordings.proofs.Follows.{unsent}
use Rattle.terminal_recordings.proofs.Tests.{is_sighting}
use Rattle.terminal_recordings.proofs.Law.{proper_join}
use Rattle.terminal_recordings.proofs.MaybeLaw.{maybe_law}
use Rattle.recorded_terminal.specs.declared.watch.Marked.{Marked}
use Rattle.recorded_terminal.specs.declared.way.Way.{Way}
use Rattle.recorded_terminal.specs.SentWords.{word_shown}
use Rattle.recorded_terminal.specs.Sightings.{shown_sighting}
use Rattle.recorded_terminal.specs.Follows.{told_by, AreTold, ShowTheSame}
use Rattle.recorded_terminal.specs.Marks.{masked, maybe, maybe_of, maybe_in, most_ways, IsMaybeGapOn, IsSeen}
use Rattle.recorded_terminal.specs.Ways.{AnyOf, EachBy, AreQuiet, quiet_with, WayIsAt, told_then, WaySees, EachSees, WayTakesGap, WaysHaveMet, IsWay, Goes, CanGoOn, AnyCanGoOn, AreWays, masked_with}
use Rattle.recorded_terminal.specs.inner.Kept.{KeepTheSame, IsIdleAt}
use Rattle.recorded_terminal.specs.inner.Steps.{Keeps, SentFirst, LeftOf, AreToldNext, Splits, StepsTo, LeavesNone}
use Rattle.recorded_terminal.proofs.GapLaws.{room_seen, room_open}
use Rattle.recorded_terminal.proofs.TellLaws.{history_join}

-- ---- lists

pub any_map : {X : Type 0} (F G : X → Type 0) (xs : List X) → ((x : X) → F x → G x) → AnyOf F xs → AnyOf G xs
any_map F G [] f x = x
any_map F G (y ∷ xs) f (inl x) = inl (f y x)
any_map F G (y ∷ xs) f (inr x) = inr (any_map F G xs f x)

pub all_map : {X : Type 0} (F G : X → Type 0) (xs : List X) → ((x : X) → F x → G x) → AllByRecursion F xs → AllByRecursion G xs
all_map F G [] f x = x
all_map F G (y ∷ xs) f (x, rest) = (f y x, all_map F G xs f rest)

pub all_join : {X : Type 0} (F : X → Type 0) (xs ys : List X) → AllByRecursion F xs → AllByRecursion F ys → AllByRecursion F (xs ++ ys)
all_join F [] ys a b = b
all_join F (x ∷ xs) ys (f, a) b = (f, all_join F xs ys a b)

pub all_first : {X : Type 0} (F : X → Type 0) (xs ys : List X) → AllByRecursion F (xs ++ ys) → AllByRecursion F xs
all_first F [] ys a = tt
all_first F (x ∷ xs) ys (f, a) = (f, all_first F xs ys a)

pub all_last : {X : Type 0} (F : X → Type 0) (xs ys : List X) → AllByRecursion F (xs ++ ys) → AllByRecursion F ys
all_last F [] ys a = a
all_last F (x ∷ xs) ys (f, a) = all_last F xs ys a

pub any_first : {X : Type 0} (F : X → Type 0) (xs ys : List X) → AnyOf F xs → AnyOf F (xs ++ ys)
any_first F [] ys x = absurd x
any_first F (y ∷ xs) ys (inl x) = inl x
any_first F (y ∷ xs) ys (inr x) = inr (any_first F xs ys x)

pub any_last : {X : Type 0} (F : X → Type 0) (xs ys : List X) → AnyOf F ys → AnyOf F (xs ++ ys)
any_last F [] ys x = x
any_last F (y ∷ xs) ys x = inr (any_last F xs ys x)

pub any_parts : {X : Type 0} (F : X → Type 0) (xs ys : List X) → AnyOf F (xs ++ ys) → AnyOf F xs ⊎ AnyOf F ys
any_parts F [] ys x = inr x
any_parts F (y ∷ xs) ys (inl x) = inl (inl x)
any_parts F (y ∷ xs) ys (inr x) = elim (any_parts F xs ys x) [ inl z ↦ inl (inr z) | inr z ↦ inr z ]

any_both : {X : Type 0} (F G H : X → Type 0) (xs : List X) → ((x : X) → F x → G x → H x) → AnyOf F xs → AllByRecursion G xs → AnyOf H xs
any_both F G H [] f x a = x
any_both F G H (y ∷ xs) f (inl x) a = inl (f y x a.0)
any_both F G H (y ∷ xs) f (inr x) a = inr (any_both F G H xs f x a.1)

pub one_longer : {X : Type 0} (xs : List X) (x : X) → length (xs ++ x ∷ []) ≡ suc (length xs)
one_longer xs x = length-append xs (x ∷ []) ∙ add-one (length xs)

-- ---- readings

reading_join : (xs ys : List MaybeSighting) (r s : List MaskedSighting) → IsReadingOf xs r → IsReadingOf ys s → IsReadingOf (xs ++ ys) (r ++ s)
reading_join [] ys r s x y = subst (λ (l : List MaskedSighting). IsReadingOf ys (l ++ s)) (sym x) y
reading_join (Seen a ∷ xs) ys [] s x y = absurd x
reading_join (Seen a ∷ xs) ys (t ∷ r) s (p, x) y = (p, reading_join xs ys r s x y)
reading_join (MaybeGap b ∷ xs) ys r s (inl x) y = inl (reading_join xs ys r s x y)
reading_join (MaybeGap b ∷ xs) ys [] s (inr x) y = absurd x
reading_join (MaybeGap b ∷ xs) ys (t ∷ r) s (inr (p, x)) y = inr (p, reading_join xs ys r s x y)

nothing_more : (r : List MaskedSighting) → r ++ [] ≡ r
nothing_more [] = refl
nothing_more (x ∷ r) = ap (λ l. x ∷ l) (nothing_more r)

pub maybe_append : (ms ns : List Marked) → maybe_in (ms ++ ns) ≡ maybe_in ms ++ maybe_in ns
maybe_append [] ns = refl
maybe_append (m ∷ ms) ns = ap (λ l. maybe m ∷ l) (maybe_append ms ns)

-- what came for certain in two lists
pub certainly_append : (xs ys : List MaybeSighting) → certainly (xs ++ ys) ≡ certainly xs ++ certainly ys
certainly_append [] ys = refl
certainly_append (Seen s ∷ xs) ys = ap (λ l. s.sighting ∷ l) (certainly_append xs ys)
certainly_append (MaybeGap b ∷ xs) ys = certainly_append xs ys

pub fits_join : (ms ns : List MaskedSighting) (xs ys : List Sighting) → FitsMasked ms xs → FitsMasked ns ys → FitsMasked (ms ++ ns) (xs ++ ys)
fits_join [] ns [] ys f g = g
fits_join [] ns (x ∷ xs) ys f g = absurd f
fits_join (m ∷ ms) ns [] ys f g = absurd f
fits_join (m ∷ ms) ns (x ∷ xs) ys (f, fits) g = (f, fits_join ms ns xs ys fits g)

-- what a mark says is a sighting that can be
pub mark_is : (m : Marked) → IsSighting (shown_sighting m.sighting)
mark_is m = is_sighting (shown_sighting m.sighting) m.sighting.seen m.sighting.bits

pub one_recording : (m : Marked) (more : List MaybeSighting) → IsMaybeRecording more → IsMaybeRecording (maybe m ∷ more)
one_recording m more is = by m.sighting.event m.is_maybe
  where
    by : (e : Event) (t : Bool) → IsMaybeRecording (maybe_of e t (masked m) ∷ more)
    by (Gap b) true = is
    by (Gap b) false = (mark_is m, is)
    by (Word b w) t = (mark_is m, is)
    by (Noise b) t = (mark_is m, is)
    by (Write p v) t = (mark_is m, is)
    by (Vector v) t = (mark_is m, is)
    by (Bit v) t = (mark_is m, is)
    by (FlagIs f v) t = (mark_is m, is)
    by Slot t = (mark_is m, is)

pub are_recording : (ms : List Marked) → IsMaybeRecording (maybe_in ms)
are_recording [] = tt
are_recording (m ∷ ms) = one_recording m (maybe_in ms) (are_recording ms)

pub certain_recording : (ms : List MaybeSighting) → IsMaybeRecording ms → IsRecording (certainly ms)
certain_recording [] is = tt
certain_recording (Seen s ∷ ms) is = (is.0, certain_recording ms is.1)
certain_recording (MaybeGap b ∷ ms) is = certain_recording ms is

-- ---- a way with one sighting more

-- what is told can come, and none of it is seen
are_told : (P : Description) (k : List Event) (status : Option ℕ) (sent : Option Sending) → HasBits sent → AreTold (told_by P k status sent)
are_told P k status sent bits =
    let s : Sighting = record { event = Slot; sent = sent } in
    let unseen = told_quiet P k s [] in
    let proper = told_proper P k s [] bits in
    ((refl, (refl, (refl, (refl, unseen.1.1.1.1)))), (tt, (tt, (tt, (tt, proper.1.1.1.1)))))

-- what is then seen
seen_one : (P : Description) (h events told : List Event) (e : Event) → AreUnseen told → is_seen e ≡ true →
    sightings_from P h (events ++ (told ++ e ∷ [])) ≡ sightings_from P h events ++ (record { event = e; sent = sent_in (out P (history_after told (history_after events h)) e) } ∷ [])
seen_one P h events told e unseen seen =
    let s : Sighting = record { event = e; sent = sent_in (out P (history_after told (history_after events h)) e) } in
    sightings_more P events h (told ++ e ∷ [])
    ∙ (ap (λ l. sightings_from P h events ++ l) (sightings_quiet P told (history_after events h) (e ∷ []) unseen)
    ∙ (λ j. sightings_from P h events ++ (if seen j then s ∷ [] else [])))

way_more : (P : Description) (h : List Event) (ms : List Marked) (k : List Event) (status : Option ℕ) (sent : Option Sending) (e : Event) (x : MaskedSighting) (more : List MaybeSighting) → HasBits sent → is_seen e ≡ true → IsProper e →
    IsReadingOf more (x ∷ []) → FitsSighting x (record { event = e; sent = sent_in (out P (told_then P k status sent) e) }) → IsWay P h ms k →
    (events : List Event) × AreProper events × (history_after events h ≡ e ∷ told_then P k status sent) × (reading : List MaskedSighting) × IsReadingOf (maybe_in ms ++ more) reading × FitsMasked reading (sightings_from P h events)
way_more P h ms k status sent e x more bits seen proper reads fits w =
    let told : List Event = told_by P k status sent in
    let are : AreTold told = are_told P k status sent bits in
    let there : history_after told (history_after w.events h) ≡ told_then P k status sent = ap (history_after told) w.history in (
      w.events ++ (told ++ e ∷ []),
      proper_join w.events (told ++ e ∷ []) w.proper (proper_join told (e ∷ []) are.1 (proper, tt)),
      history_join w.events (told ++ e ∷ []) h ∙ (history_join told (e ∷ []) (history_after w.events h) ∙ ap (λ l. e ∷ l) there),
      w.reading ++ x ∷ [],
      reading_join (maybe_in ms) more w.reading (x ∷ []) w.reads reads,
      subst (FitsMasked (w.reading ++ x ∷ [])) (sym (seen_one P h w.events told e are.0 seen))
          (fits_join w.reading (x ∷ []) (sightings_from P h w.events) _ w.fits (subst (λ (l : List Event). FitsSighting x (record { event = e; sent = sent_in (out P l e) })) (sym there) fits, tt)),
    )

-- with the word that is sent it is explained, whatever was seen
way_explains : (P : Description) (h : List Event) (ms : List Marked) (k : List Event) (status : Option ℕ) (m : Marked) (sent : Option Sent) →
    word_shown sent ≡ sent_in (out P (told_then P k status (word_shown m.sighting.sent)) m.sighting.event) → IsWay P h ms k → IsExplainedSomehow P h (maybe_in ms ++ Seen (masked_with m sent) ∷ [])
way_explains P h ms k status m sent is w =
    let s : IsSighting (shown_sighting m.sighting) = mark_is m in
    let v = way_more P h ms k status (word_shown m.sighting.sent) m.sighting.event (masked_with m sent) (Seen (masked_with m sent) ∷ []) s.bits s.seen s.proper (refl, refl) (record { event = refl; sent = sym is }) w in
    (v.3, v.4, (sightings_from P h v.0, v.5, (v.0, v.1, refl)))

-- a way explains what was seen
pub way_explained : (P : Description) (h : List Event) (ms : List Marked) (k : List Event) → IsWay P h ms k → IsExplainedSomehow P h (maybe_in ms)
way_explained P h ms k w = (w.reading, w.reads, (sightings_from P h w.events, w.fits, (w.events, w.proper, refl)))

way_of : (P : Description) (h : List Event) (ms : List Marked) (m : Marked) (more : List MaybeSighting) (l : List Event) → maybe m ∷ [] ≡ more →
    (events : List Event) × AreProper events × (history_after events h ≡ l) × (reading : List MaskedSighting) × IsReadingOf (maybe_in ms ++ more) reading × FitsMasked reading (sightings_from P h events) → IsWay P h (ms ++ m ∷ []) l
way_of P h ms m more l is v = record {
  events = v.0;
  proper = v.1;
  history = v.2;
  reading = v.3;
  reads = subst (λ (l : List MaybeSighting). IsReadingOf l v.3) (sym (maybe_append ms (m ∷ []) ∙ ap (λ l. maybe_in ms ++ l) is)) v.4;
  fits = v.5;
}

-- a gap that may have come, and didn't
way_without : (P : Description) (h : List Event) (ms : List Marked) (m : Marked) (b : Bus) (k : List Event) → IsMaybeGapOn b m → IsWay P h ms k → IsWay P h (ms ++ m ∷ []) k
way_without P h ms m b k is w = way_of P h ms m (MaybeGap b ∷ []) k (ap (λ x. x ∷ []) is) (
  w.events,
  w.proper,
  w.history,
  w.reading,
  subst (IsReadingOf (maybe_in ms ++ MaybeGap b ∷ [])) (nothing_more w.reading) (reading_join (maybe_in ms) (MaybeGap b ∷ []) w.reading [] w.reads (inl refl)),
  w.fits,
)

-- and did
way_with : (P : Description) (h : List Event) (ms : List Marked) (m : Marked) (b : Bus) (status : Option ℕ) (k : List Event) → IsMaybeGapOn b m → IsWay P h ms k → IsWay P h (ms ++ m ∷ []) (Gap b ∷ told_then P k status None)
way_with P h ms m b status k is w =
    way_of P h ms m (MaybeGap b ∷ []) (Gap b ∷ told_then P k status None) (ap (λ x. x ∷ []) is)
    (way_more P h ms k status None (Gap b) (gap_on b) (MaybeGap b ∷ []) tt refl tt (inr (refl, refl)) (record { event = refl; sent = unsent P (told_then P k status None) (Gap b) refl }) w)

way_seen : (P : Description) (h : List Event) (ms : List Marked) (m : Marked) (status : Option ℕ) (k : List Event) → IsSeen m →
    FitsWord m.any_word (word_shown m.sighting.sent) (sent_in (out P (told_then P k status (word_shown m.sighting.sent)) m.sighting.event)) → IsWay P h ms k →
    IsWay P h (ms ++ m ∷ []) (m.sighting.event ∷ told_then P k status (word_shown m.sighting.sent))
way_seen P h ms m status k is fits w =
    let s : IsSighting (shown_sighting m.sighting) = mark_is m in
    way_of P h ms m (Seen (masked m) ∷ []) (m.sighting.event ∷ told_then P k status (word_shown m.sighting.sent)) (ap (λ x. x ∷ []) is)
    (way_more P h ms k status (word_shown m.sighting.sent) m.sighting.event (masked m) (Seen (masked m) ∷ []) s.bits s.seen s.proper (refl, refl) (record { event = refl; sent = fits }) w)

-- ---- ways that stand somewhere

goes_seen : {L : Type 0} (is_legal : L → Cell → Bool) (P : Description) (h : List Event) (ms : List Marked) (m : Marked) (status : Option ℕ) (w v : Way L) → IsSeen m → WaySees is_legal status m w v → Goes is_legal P h ms w → v.is_left ≡ true →
    Goes is_legal P h (ms ++ m ∷ []) v
goes_seen is_legal P h ms m status w v is sees (k, at, way) left =
    (m.sighting.event ∷ told_then P k status (word_shown m.sighting.sent), sees.stands P k at, way_seen P h ms m status k is (subst (FitsWord m.any_word (word_shown m.sighting.sent)) (sees.sent P k at) (sees.left.0 left)) way)

-- by status words that show the same flags the same is told
then_same : (P : Description) (k : List Event) (one other : Option ℕ) (sent : Option Sending) → ShowTheSame one other → told_then P k one sent ≡ told_then P k other sent
then_same P k one other sent same = λ j. history_after (flags j ++ next_set (reply_now (past P k)) (data_sent sent)) k
  where
    flags : flags_set one ≡ flags_set other
    flags = λ j. FlagIs Service (same Service j) ∷ FlagIs Busy (same Busy j) ∷ FlagIs Subsystem (same Subsystem j) ∷ FlagIs Terminal (same Terminal j) ∷ []

-- the status word that is told shows what the next does
next_told : (status : Option ℕ) (m : Marked) (more : List MaybeSighting) (later : List Sighting) (x : MaybeSighting) → maybe m ≡ x → AreToldNext status m more later → ShowTheSame (next_status (certainly (x ∷ more) ++ later)) status
next_told status m more later x is n = λ f. ap (λ y. flag_shown (next_status (certainly (y ∷ more) ++ later)) f) (sym is) ∙ n.next f

on_seen : {L : Type 0} (is_legal : L → Cell → Bool) (P : Description) → P.address ≤ 30 → (m : Marked) (status : Option ℕ) (more : List MaybeSighting) (later : List Sighting) (w v : Way L) → IsSeen m → WaySees is_legal status m w v → AreToldNext status m more later →
    CanGoOn is_legal P (maybe m ∷ more) w → (v.is_left ≡ true) × CanGoOn is_legal P more v
on_seen is_legal P low m status more later w v is sees n (k, at, e) =
    let seen = (maybe_law.seen P k (masked m) more later low (mark_is m, n.are_more) n.are_later).0 (subst (λ (x : MaybeSighting). IsExplainedSomehow P k (x ∷ more)) is e) in
    let told = subst
    (λ (t : List Event). FitsWord m.any_word (word_shown m.sighting.sent) (sent_in (out P t m.sighting.event)) × IsExplainedSomehow P (m.sighting.event ∷ t) more)
    (then_same P k (next_status (certainly (Seen (masked m) ∷ more) ++ later)) status (word_shown m.sighting.sent) (next_told status m more later (Seen (masked m)) is n)) seen in
    (sees.left.1 (subst (FitsWord m.any_word (word_shown m.sighting.sent)) (sym (sees.sent P k at)) told.0), (m.sighting.event ∷ told_then P k status (word_shown m.sighting.sent), sees.stands P k at, told.1))

-- each of them, with a sighting
each_goes : {L : Type 0} (is_legal : L → Cell → Bool) (P : Description) (h : List Event) (ms : List Marked) (m : Marked) (status : Option ℕ) (ws vs : List (Way L)) → IsSeen m → EachSees is_legal status m ws vs → AllByRecursion (Goes is_legal P h ms) ws →
    AllByRecursion (λ v. v.is_left ≡ true → Goes is_legal P h (ms ++ m ∷ []) v) vs
each_goes is_legal P h ms m status [] [] is sees goes = tt
each_goes is_legal P h ms m status [] (v ∷ vs) is sees goes = absurd sees
each_goes is_legal P h ms m status (w ∷ ws) [] is sees goes = absurd sees
each_goes is_legal P h ms m status (w ∷ ws) (v ∷ vs) is sees goes =
    (λ left. goes_seen is_legal P h ms m status w v is sees.0 goes.0 left, each_goes is_legal P h ms m status ws vs is sees.1 goes.1)

each_on : {L : Type 0} (is_legal : L → Cell → Bool) (P : Description) → P.address ≤ 30 → (m : Marked) (status : Option ℕ) (more : List MaybeSighting) (later : List Sighting) (ws vs : List (Way L)) → IsSeen m → EachSees is_legal status m ws vs →
    AreToldNext status m more later → AnyCanGoOn is_legal P (maybe m ∷ more) ws → AnyOf (λ v. (v.is_left ≡ true) × CanGoOn is_legal P more v) vs
each_on is_legal P low m status more later [] [] is sees n x = absurd x
each_on is_legal P low m status more later [] (v ∷ vs) is sees n x = absurd sees
each_on is_legal P low m status more later (w ∷ ws) [] is sees n x = absurd sees
each_on is_legal P low m status more later (w ∷ ws) (v ∷ vs) is sees n (inl x) = inl (on_seen is_legal P low m status more later w v is sees.0 n x)
each_on is_legal P low m status more later (w ∷ ws) (v ∷ vs) is sees n (inr x) = inr (each_on is_legal P low m status more later ws vs is sees.1 n x)

each_few : {L : Type 0} (is_legal : L → Cell → Bool) (m : Marked) (status : Option ℕ) (ws vs : List (Way L)) → EachSees is_legal status m ws vs → length vs ≡ length ws
each_few is_legal m status [] [] sees = refl
each_few is_legal m status [] (v ∷ vs) sees = absurd sees
each_few is_legal m status (w ∷ ws) [] sees = absurd sees
each_few is_legal m status (w ∷ ws) (v ∷ vs) sees = ap suc (each_few is_legal m status ws vs sees.1)

-- some way is left, or none is
pub steps_seen : {L : Type 0} (is_legal : L → Cell → Bool) (P : Description) (h : List Event) (ms : List Marked) (m : Marked) (status : Option ℕ) (ws vs us : List (Way L)) → P.address ≤ 30 → IsSeen m → AreWays is_legal P h ms ws →
    EachSees is_legal status m ws vs → LeftOf is_legal vs us → (us ≡ [] → ⊥) → StepsTo is_legal P h ms m status ws us
steps_seen is_legal P h ms m status ws vs us low is ways sees left some = record {
  ways = record {
    goes = left.goes P h (ms ++ m ∷ []) (each_goes is_legal P h ms m status ws vs is sees ways.goes);
    some = some;
    few = omega (arith, left.few, ways.few, each_few is_legal m status ws vs sees, room_seen ms m is);
    most = omega (arith, left.few, ways.most, each_few is_legal m status ws vs sees);
  };
  goes_on = λ more later n x. left.goes_on P more (each_on is_legal P low m status more later ws vs is sees n x);
}

none_goes_on : {L : Type 0} (is_legal : L → Cell → Bool) (P : Description) (more : List MaybeSighting) (us : List (Way L)) → us ≡ [] → AnyCanGoOn is_legal P more us → ⊥
none_goes_on is_legal P more us none x = subst (λ l. AnyCanGoOn is_legal P more l) none x

first_explains : {L : Type 0} (is_legal : L → Cell → Bool) (P : Description) (h : List Event) (ms : List Marked) (m : Marked) (status : Option ℕ) (ws vs : List (Way L)) (sent : Option Sent) → AreWays is_legal P h ms ws → EachSees is_legal status m ws vs →
    SentFirst vs sent → IsExplainedSomehow P h (maybe_in ms ++ Seen (masked_with m sent) ∷ [])
first_explains is_legal P h ms m status [] vs sent ways sees first = absurd (ways.some refl)
first_explains is_legal P h ms m status (w ∷ ws) [] sent ways sees first = absurd sees
first_explains is_legal P h ms m status (w ∷ ws) (v ∷ vs) sent ways sees first =
    let g = ways.goes.0 in way_explains P h ms g.0 status m sent (ap word_shown first ∙ sees.0.sent P g.0 g.1) g.2

pub ends_seen : {L : Type 0} (is_legal : L → Cell → Bool) (P : Description) (h : List Event) (ms : List Marked) (m : Marked) (status : Option ℕ) (ws vs us : List (Way L)) (sent : Option Sent) → P.address ≤ 30 → IsSeen m → AreWays is_legal P h ms ws →
    EachSees is_legal status m ws vs → LeftOf is_legal vs us → us ≡ [] → SentFirst vs sent → LeavesNone is_legal P h ms m status ws sent
ends_seen is_legal P h ms m status ws vs us sent low is ways sees left none first = record {
  possible = first_explains is_legal P h ms m status ws vs sent ways sees first;
  never = λ more later n x. none_goes_on is_legal P more us none (left.goes_on P more (each_on is_legal P low m status more later ws vs is sees n x));
}

-- ---- those that are left

pub left_more : {L : Type 0} (is_legal : L → Cell → Bool) (olds news : List (Way L)) (w c : Way L) → LeftOf is_legal olds news → w.is_left ≡ true → ((P : Description) (h : List Event) → WayIsAt is_legal P h w → WayIsAt is_legal P h c) →
    LeftOf is_legal (olds ++ w ∷ []) (news ++ c ∷ [])
left_more is_legal olds news w c left is copies = record {
  goes = λ P h ms x.
      let g = (all_last (λ v. v.is_left ≡ true → Goes is_legal P h ms v) olds (w ∷ []) x).0 is in
      all_join (Goes is_legal P h ms) news (c ∷ []) (left.goes P h ms (all_first (λ v. v.is_left ≡ true → Goes is_legal P h ms v) olds (w ∷ []) x)) ((g.0, copies P g.0 g.1, g.2), tt);
  goes_on = λ P more x. elim (any_parts (λ v. (v.is_left ≡ true) × CanGoOn is_legal P more v) olds (w ∷ []) x) [
    | inl y ↦ any_first (CanGoOn is_legal P more) news (c ∷ []) (left.goes_on P more y)
    | inr y ↦ any_last (CanGoOn is_legal P more) news (c ∷ []) (elim y [ inl z ↦ inl (z.1.0, copies P z.1.0 z.1.1, z.1.2) | inr z ↦ absurd z ])
  ];
  few = omega (arith, left.few, one_longer olds w, one_longer news c);
}

pub left_out : {L : Type 0} (is_legal : L → Cell → Bool) (olds news : List (Way L)) (w : Way L) → LeftOf is_legal olds news → w.is_left ≡ false → LeftOf is_legal (olds ++ w ∷ []) news
left_out is_legal olds news w left is = record {
  goes = λ P h ms x. left.goes P h ms (all_first (λ v. v.is_left ≡ true → Goes is_legal P h ms v) olds (w ∷ []) x);
  goes_on = λ P more x. elim (any_parts (λ v. (v.is_left ≡ true) × CanGoOn is_legal P more v) olds (w ∷ []) x) [
    | inl y ↦ left.goes_on P more y
    | inr y ↦ elim y [ inl z ↦ (let wrong : true ≡ false = sym z.0 ∙ is in absurd (cc)) | inr z ↦ absurd z ]
  ];
  few = omega (arith, left.few, one_longer olds w);
}

pub all_left : {L : Type 0} (is_legal : L → Cell → Bool) (ws : List (Way L)) → AllByRecursion (λ w. w.is_left ≡ true) ws → LeftOf is_legal ws ws
all_left {L = L} is_legal ws all = record {
  goes = λ P h ms x. each ws P h ms all x;
  goes_on = λ P more x. any_map (λ v. (v.is_left ≡ true) × CanGoOn is_legal P more v) (CanGoOn is_legal P more) ws (λ v y. y.1) x;
  few = omega arith;
}
  where
    each : (ws : List (Way L)) (P : Description) (h : List Event) (ms : List Marked) → AllByRecursion (λ w. w.is_left ≡ true) ws → AllByRecursion (λ w. w.is_left ≡ true → Goes is_legal P h ms w) ws → AllByRecursion (Goes is_legal P h ms) ws
    each [] P h ms a x = tt
    each (w ∷ ws) P h ms a x = (x.0 a.0, each ws P h ms a.1 x.1)

-- ---- a gap that may have come

-- where all that is kept is kept, and what a way explains is explained
kept_goes : {L : Type 0} (is_legal : L → Cell → Bool) (F : Way L → Type 0) (olds : List (Way L)) (w : Way L) (news : List (Way L)) → Keeps is_legal olds w news → AllByRecursion F olds → F w → AllByRecursion F news
kept_goes {L = L} is_legal F olds w news (inl (e, room)) a f = subst (λ (l : List (Way L)). AllByRecursion F l) (sym e) (all_join F olds (w ∷ []) a (f, tt))
kept_goes {L = L} is_legal F olds w news (inr k) a f = subst (λ (l : List (Way L)). AllByRecursion F l) (sym k.0) a

kept_on : {L : Type 0} (is_legal : L → Cell → Bool) (F : Way L → Type 0) (olds : List (Way L)) (w : Way L) (news : List (Way L)) → Keeps is_legal olds w news → AnyOf F olds → AnyOf F news
kept_on {L = L} is_legal F olds w news (inl (e, room)) x = subst (λ (l : List (Way L)). AnyOf F l) (sym e) (any_first F olds (w ∷ []) x)
kept_on {L = L} is_legal F olds w news (inr k) x = subst (λ (l : List (Way L)). AnyOf F l) (sym k.0) x

meets_on : {L : Type 0} (is_legal : L → Cell → Bool) (P : Description) (h : List Event) (ms : List Marked) (more : List MaybeSighting) (olds : List (Way L)) (w : Way L) (news : List (Way L)) → P.address ≤ 30 → IsMaybeRecording more → Keeps is_legal olds w news →
    AllByRecursion (Goes is_legal P h ms) olds → CanGoOn is_legal P more w → AnyCanGoOn is_legal P more news
meets_on {L = L} is_legal P h ms more olds w news low is (inl (e, room)) goes x = subst (λ (l : List (Way L)). AnyCanGoOn is_legal P more l) (sym e) (any_last (CanGoOn is_legal P more) olds (w ∷ []) (inl x))
meets_on {L = L} is_legal P h ms more olds w news low is (inr k) goes x =
    subst (λ (l : List (Way L)). AnyCanGoOn is_legal P more l) (sym k.0)
    (any_both (WaysHaveMet is_legal w) (Goes is_legal P h ms) (CanGoOn is_legal P more) olds
    (λ v met g. (g.0, g.1, maybe_law.met P x.0 g.0 more low is (met P x.0 g.0 x.1 g.1) x.2)) k.1 goes)

keeps_some : {L : Type 0} (is_legal : L → Cell → Bool) (olds : List (Way L)) (w : Way L) (news : List (Way L)) → Keeps is_legal olds w news → news ≡ [] → ⊥
keeps_some is_legal [] w news (inl (e, room)) none = let wrong : w ∷ [] ≡ [] = sym e ∙ none in cc
keeps_some is_legal (v ∷ olds) w news (inl (e, room)) none = let wrong : v ∷ (olds ++ w ∷ []) ≡ [] = sym e ∙ none in cc
keeps_some is_legal [] w news (inr k) none = k.1
keeps_some is_legal (v ∷ olds) w news (inr k) none = let wrong : v ∷ olds ≡ [] = sym k.0 ∙ none in cc

pub kept_few : {L : Type 0} (is_legal : L → Cell → Bool) (olds : List (Way L)) (w : Way L) (news : List (Way L)) → Keeps is_legal olds w news → length news ≤ suc (length olds)
kept_few is_legal olds w news (inl (e, room)) = omega (arith, ap length e, one_longer olds w)
kept_few is_legal olds w news (inr k) = omega (arith, ap length k.0)

kept_most : {L : Type 0} (is_legal : L → Cell → Bool) (olds : List (Way L)) (w : Way L) (news : List (Way L)) → Keeps is_legal olds w news → length olds ≤ most_ways → length news ≤ most_ways
kept_most is_legal olds w news (inl (e, room)) most = omega (arith, ap length e, one_longer olds w)
kept_most is_legal olds w news (inr k) most = omega (arith, ap length k.0)

-- a way on which the gap would do nothing
pub split_passes : {L : Type 0} (is_legal : L → Cell → Bool) (b : Bus) (status : Option ℕ) (olds all news : List (Way L)) (w c : Way L) → Splits is_legal b status olds all → ((P : Description) (h : List Event) → WayIsAt is_legal P h w → gap_does_nothing P h b ≡ true) →
    ((P : Description) (h : List Event) → WayIsAt is_legal P h w → WayIsAt is_legal P h c) → Keeps is_legal all c news → Splits is_legal b status (olds ++ w ∷ []) news
split_passes is_legal b status olds all news w c s passes copies keeps = record {
  goes = λ P h ms m is x.
      let g = (all_last (Goes is_legal P h ms) olds (w ∷ []) x).0 in
      kept_goes is_legal (Goes is_legal P h (ms ++ m ∷ [])) all c news keeps (s.goes P h ms m is (all_first (Goes is_legal P h ms) olds (w ∷ []) x)) (g.0, copies P g.0 g.1, way_without P h ms m b g.0 is g.2);
  goes_on = λ P h ms m more later low is n goes x.
      let before = all_first (Goes is_legal P h ms) olds (w ∷ []) goes in
      elim (any_parts (CanGoOn is_legal P (MaybeGap b ∷ more)) olds (w ∷ []) x) [
        | inl y ↦ kept_on is_legal (CanGoOn is_legal P more) all c news keeps (s.goes_on P h ms m more later low is n before y)
        | inr y ↦ elim y [
          | inl z ↦ meets_on is_legal P h (ms ++ m ∷ []) more all c news low n.are_more keeps (s.goes P h ms m is before) (z.0, copies P z.0 z.1, (maybe_law.left_out P z.0 b more low n.are_more (passes P z.0 z.1)).0 z.2)
          | inr z ↦ absurd z
        ]
      ];
  some = λ s. keeps_some is_legal all c news keeps;
  few = omega (arith, s.few, one_longer olds w, kept_few is_legal all c news keeps);
  most = λ most. kept_most is_legal all c news keeps (s.most (omega (arith, one_longer olds w)));
}

-- and one on which it would do something
pub split_both : {L : Type 0} (is_legal : L → Cell → Bool) (b : Bus) (status : Option ℕ) (olds all mid news : List (Way L)) (w v c : Way L) → Splits is_legal b status olds all → WayTakesGap is_legal b status w v →
    ((P : Description) (h : List Event) → WayIsAt is_legal P h w → WayIsAt is_legal P h c) → Keeps is_legal all v mid → Keeps is_legal mid c news → Splits is_legal b status (olds ++ w ∷ []) news
split_both is_legal b status olds all mid news w v c s takes copies first second = record {
  goes = λ P h ms m is x.
      let g = (all_last (Goes is_legal P h ms) olds (w ∷ []) x).0 in
      let there : AllByRecursion (Goes is_legal P h (ms ++ m ∷ [])) mid =
      kept_goes is_legal (Goes is_legal P h (ms ++ m ∷ [])) all v mid first (s.goes P h ms m is (all_first (Goes is_legal P h ms) olds (w ∷ []) x)) (Gap b ∷ told_then P g.0 status None, takes P g.0 g.1, way_with P h ms m b status g.0 is g.2) in
      kept_goes is_legal (Goes is_legal P h (ms ++ m ∷ [])) mid c news second there (g.0, copies P g.0 g.1, way_without P h ms m b g.0 is g.2);
  goes_on = λ P h ms m more later low is n goes x.
      let before = all_first (Goes is_legal P h ms) olds (w ∷ []) goes in
      let g = (all_last (Goes is_legal P h ms) olds (w ∷ []) goes).0 in
      let on_all : AllByRecursion (Goes is_legal P h (ms ++ m ∷ [])) all = s.goes P h ms m is before in
      let on_mid : AllByRecursion (Goes is_legal P h (ms ++ m ∷ [])) mid =
      kept_goes is_legal (Goes is_legal P h (ms ++ m ∷ [])) all v mid first on_all (Gap b ∷ told_then P g.0 status None, takes P g.0 g.1, way_with P h ms m b status g.0 is g.2) in
      elim (any_parts (CanGoOn is_legal P (MaybeGap b ∷ more)) olds (w ∷ []) x) [
        | inl y ↦ kept_on is_legal (CanGoOn is_legal P more) mid c news second (kept_on is_legal (CanGoOn is_legal P more) all v mid first (s.goes_on P h ms m more later low is n before y))
        | inr y ↦ elim y [
          | inl z ↦ elim ((maybe_law.gap P z.0 b more later low n.are_more n.are_later).0 z.2) [
            | inl e ↦ meets_on is_legal P h (ms ++ m ∷ []) more mid c news low n.are_more second on_mid (z.0, copies P z.0 z.1, e)
            | inr e ↦ kept_on is_legal (CanGoOn is_legal P more) mid c news second
                (meets_on is_legal P h (ms ++ m ∷ []) more all v mid low n.are_more first on_all (Gap b ∷ told_then P z.0 status None, takes P z.0 z.1, with_gap P z.0 m more later is n e))
          ]
          | inr z ↦ absurd z
        ]
      ];
  some = λ s. keeps_some is_legal mid c news second;
  few = omega (arith, s.few, one_longer olds w, kept_few is_legal all v mid first, kept_few is_legal mid c news second);
  most = λ most. kept_most is_legal mid c news second (kept_most is_legal all v mid first (s.most (omega (arith, one_longer olds w))));
}
  where
    with_gap : (P : Description) (k : List Event) (m : Marked) (more : List MaybeSighting) (later : List Sighting) → IsMaybeGapOn b m → AreToldNext status m more later →
        IsExplainedSomehow P (after_seen P k (gap_on b) (certainly more ++ later)) more → IsExplainedSomehow P (Gap b ∷ told_then P k status None) more
    with_gap P k m more later is n e = subst (λ (t : List Event). IsExplainedSomehow P (Gap b ∷ t) more) (then_same P k (next_status (certainly (MaybeGap b ∷ more) ++ later)) status None (next_told status m more later (MaybeGap b) is n)) e

-- all of them pass it
pub all_split : {L : Type 0} (is_legal : L → Cell → Bool) (b : Bus) (status : Option ℕ) (ws : List (Way L)) → AllByRecursion (λ w. (P : Description) (h : List Event) → WayIsAt is_legal P h w → gap_does_nothing P h b ≡ true) ws → Splits is_legal b status ws ws
all_split is_legal b status ws passes = record {
  goes = λ P h ms m is x. all_map (Goes is_legal P h ms) (Goes is_legal P h (ms ++ m ∷ [])) ws (λ w g. (g.0, g.1, way_without P h ms m b g.0 is g.2)) x;
  goes_on = λ P h ms m more later low is n goes x.
      any_both (CanGoOn is_legal P (MaybeGap b ∷ more)) (λ w. (P : Description) (h : List Event) → WayIsAt is_legal P h w → gap_does_nothing P h b ≡ true) (CanGoOn is_legal P more) ws
      (λ w y pass. (y.0, y.1, (maybe_law.left_out P y.0 b more low n.are_more (pass P y.0 y.1)).0 y.2)) x passes;
  some = λ s. s;
  few = omega arith;
  most = λ most. most;
}

pub steps_split : {L : Type 0} (is_legal : L → Cell → Bool) (P : Description) (h : List Event) (ms : List Marked) (m : Marked) (b : Bus) (status : Option ℕ) (ws vs : List (Way L)) → P.address ≤ 30 → IsMaybeGapOn b m → AreWays is_legal P h ms ws →
    Splits is_legal b status ws vs → StepsTo is_legal P h ms m status ws vs
steps_split is_legal P h ms m b status ws vs low is ways s = record {
  ways = record {
    goes = s.goes P h ms m is ways.goes;
    some = s.some ways.some;
    few = omega (arith, s.few, ways.few, room_open ms m b is);
    most = s.most ways.most;
  };
  goes_on = λ more later n x. s.goes_on P h ms m more later low is n ways.goes (subst (λ (y : MaybeSighting). AnyCanGoOn is_legal P (y ∷ more) ws) is x);
}

-- ---- where a way stands

-- with one sighting more the buses are quiet as before, but for its own
pub quiet_more : (P : Description) (h : List Event) (status : Option ℕ) (sent : Option Sending) (e : Event) (quiet : OnBuses) → AreQuiet quiet P h → AreQuiet (quiet_with e quiet) P (e ∷ told_then P h status sent)
quiet_more P h status sent e quiet are = λ b. on b
  where
    l : List Event
    l = told_then P h status sent

    unseen : AreUnseen (told_by P h status sent)
    unseen = (refl, (refl, (refl, (refl, (told_quiet P h (record { event = Slot; sent = sent }) []).1.1.1.1))))

    before : (b : Bus) → on_bus b quiet ≡ true → run (past P l) b ≡ []
    before b q = ap (λ s. s.determined.run b) (summary_quiet P (told_by P h status sent) h unseen) ∙ are b q

    on : (b : Bus) → on_bus b (quiet_with e quiet) ≡ true → run (past P (e ∷ l)) b ≡ []
    on A q = maybe_law.quiet P l e A quiet.a (before A) q
    on B q = maybe_law.quiet P l e B quiet.b (before B) q

not_waiting : (o : Open) → awaited_in o ≡ None → waits o ≡ false
not_waiting Idle e = refl
not_waiting (Collects c after) e = refl
not_waiting (Waits c a) e = cc
not_waiting (Resumes c after) e = refl

pub passes : {L : Type 0} (is_legal : L → Cell → Bool) (P : Description) (h : List Event) (b : Bus) (w : Way L) → WayIsAt is_legal P h w → on_bus b w.quiet ≡ true → awaited P h b ≡ None → gap_does_nothing P h b ≡ true
passes is_legal P h b w at quiet none =
    (λ j. replies_on (past P h) b || (no_entry (at.quiet b quiet j) && not (not_waiting (open_at P h b) none j))) ∙ either (replies_on (past P h) b)
  where
    either : (t : Bool) → t || true ≡ true
    either true = refl
    either false = refl

pub met : (P : Description) (h k : List Event) (r s : Registers) → IsIdleAt P h → IsIdleAt P k → r ≡ registers_now P (past P h) → s ≡ registers_now P (past P k) → KeepTheSame r s → HaveMet P h k
met P h k r s i j q p a = record {
  run = λ b. i.run b ∙ sym (j.run b);
  message = λ b. i.free.message b ∙ sym (j.free.message b);
  off = λ b. off b;
  last = ap (λ r. r.last) (sym q) ∙ (a.last ∙ ap (λ r. r.last) p);
  inhibited = ap (λ r. r.inhibited) (sym q) ∙ (a.inhibited ∙ ap (λ r. r.inhibited) p);
  kept = ap (λ r. r.kept) (sym q) ∙ (a.kept ∙ ap (λ r. r.kept) p);
  reply = i.free.reply ∙ sym j.free.reply;
}
  where
    off : (b : Bus) → off_now (past P h) b ≡ off_now (past P k) b
    off A = ap (λ r. r.off.a) (sym q) ∙ (a.off_a ∙ ap (λ r. r.off.a) p)
    off B = ap (λ r. r.off.b) (sym q) ∙ (a.off_b ∙ ap (λ r. r.off.b) p)

-- ---- ways one after the other

-- the first so many have become others by a step, and those behind them are as they were
abbrev pub ChangedBelow : {A : Type 0} → (A → A → Type 0) → ℕ → List A → List A → Type 0
ChangedBelow By n [] [] = Unit {0}
ChangedBelow By zero (x ∷ xs) (y ∷ ys) = (y ≡ x) × ChangedBelow By zero xs ys
ChangedBelow By (suc n) (x ∷ xs) (y ∷ ys) = By x y × ChangedBelow By n xs ys
ChangedBelow By n _ _ = ⊥

pub none_changed : {A : Type 0} (By : A → A → Type 0) (xs : List A) → ChangedBelow By 0 xs xs
none_changed By [] = tt
none_changed By (x ∷ xs) = (refl, none_changed By xs)

pub one_changed : {A : Type 0} (By : A → A → Type 0) (n : ℕ) (olds news : List A) (o s : A) → n < length news → ChangedBelow By n olds news → By (get_or news n o) s → ChangedBelow By (suc n) olds (set news n s)
one_changed By n [] [] o s l b x = absurd (omega (arith, l))
one_changed By n [] (v ∷ vs) o s l b x = absurd b
one_changed By zero (w ∷ ws) [] o s l b x = absurd b
one_changed By (suc n) (w ∷ ws) [] o s l b x = absurd b
one_changed By zero (w ∷ ws) (v ∷ vs) o s l b x = (subst (λ u. By u s) b.0 x, b.1)
one_changed By (suc n) (w ∷ ws) (v ∷ vs) o s l b x = (b.0, one_changed By n ws vs o s (omega (arith, l)) b.1 x)

pub all_changed : {A : Type 0} (By : A → A → Type 0) (n : ℕ) (olds news : List A) → length news ≤ n → ChangedBelow By n olds news → EachBy By olds news
all_changed By n [] [] l b = tt
all_changed By n [] (v ∷ vs) l b = absurd b
all_changed By zero (w ∷ ws) [] l b = absurd b
all_changed By (suc n) (w ∷ ws) [] l b = absurd b
all_changed By zero (w ∷ ws) (v ∷ vs) l b = absurd (omega (arith, l))
all_changed By (suc n) (w ∷ ws) (v ∷ vs) l b = (b.0, all_changed By n ws vs (omega (arith, l)) b.1)

-- what holds of all holds of the next
pub next_unchanged : {A : Type 0} (By : A → A → Type 0) (F : A → Type 0) (n : ℕ) (olds news : List A) (o : A) → n < length news → ChangedBelow By n olds news → AllByRecursion F olds → F (get_or news n o)
next_unchanged By F n [] [] o l b x = absurd (omega (arith, l))
next_unchanged By F n [] (v ∷ vs) o l b x = absurd b
next_unchanged By F zero (w ∷ ws) [] o l b x = absurd b
next_unchanged By F (suc n) (w ∷ ws) [] o l b x = absurd b
next_unchanged By F zero (w ∷ ws) (v ∷ vs) o l b x = subst F (sym b.0) x.0
next_unchanged By F (suc n) (w ∷ ws) (v ∷ vs) o l b x = next_unchanged By F n ws vs o (omega (arith, l)) b.1 x.1

pub any_here : {X : Type 0} (F : X → Type 0) (xs : List X) (n : ℕ) (x : X) → drop n xs ≡ x ∷ drop (suc n) xs → F x → AnyOf F xs
any_here F [] zero x e f = absurd (cc)
any_here F [] (suc n) x e f = absurd (cc)
any_here F (y ∷ xs) zero x e f = let same : y ≡ x = cc in inl (subst F (sym same) f)
any_here F (y ∷ xs) (suc n) x e f = inr (any_here F xs n x e f)

-- one more of them
pub take_more : {X : Type 0} (ms : List X) (n : ℕ) (x : X) → drop n ms ≡ x ∷ drop (suc n) ms → take (suc n) ms ≡ take n ms ++ x ∷ []
take_more [] zero x e = absurd (cc)
take_more [] (suc n) x e = absurd (cc)
take_more (m ∷ ms) zero x e = let same : m ≡ x = cc in λ j. same j ∷ []
take_more (m ∷ ms) (suc n) x e = ap (λ l. m ∷ l) (take_more ms n x e)

-- the next, by its place
pub cut_of : {X : Type 0} (ms : List X) (n : ℕ) (x : X) → n < length ms → x ≡ get_or ms n x → drop n ms ≡ x ∷ drop (suc n) ms
cut_of ms n x m e = drop-cons ms n x m ∙ ap (λ y. y ∷ drop (suc n) ms) (sym e)

-- as many as before
pub each_some : {L : Type 0} (is_legal : L → Cell → Bool) (status : Option ℕ) (m : Marked) (ws vs : List (Way L)) → EachSees is_legal status m ws vs → (ws ≡ [] → ⊥) → vs ≡ [] → ⊥
each_some is_legal status m [] vs sees some none = some refl
each_some is_legal status m (w ∷ ws) [] sees some none = sees
each_some is_legal status m (w ∷ ws) (v ∷ vs) sees some none = cc

-- what was written back
pub taken : {X : Type 0} (n : ℕ) (xs ys : List X) → n ≡ length xs → take n (xs ++ ys) ≡ xs
taken n xs ys e = (λ j. take (e j) (xs ++ ys)) ∙ front xs
  where
    front : (xs : List _) → take (length xs) (xs ++ ys) ≡ xs
    front [] = refl
    front (x ∷ xs) = ap (λ l. x ∷ l) (front xs)

-- kept statuses whose bits are the same
pub same_parts : (p q : StatusParts) → beq p.error q.error && (beq p.service q.service && (beq p.broadcast q.broadcast && (beq p.busy q.busy && (beq p.subsystem q.subsystem && (beq p.accept q.accept && beq p.terminal q.terminal))))) ≡ true → p ≡ q
same_parts p q e =
    let a = and_parts (beq p.error q.error) _ e in
    let b = and_parts (beq p.service q.service) _ a.1 in
    let c = and_parts (beq p.broadcast q.broadcast) _ b.1 in
    let d = and_parts (beq p.busy q.busy) _ c.1 in
    let f = and_parts (beq p.subsystem q.subsystem) _ d.1 in
    let g = and_parts (beq p.accept q.accept) (beq p.terminal q.terminal) f.1 in
    λ j. record {
      error = same_bool p.error q.error a.0 j;
      service = same_bool p.service q.service b.0 j;
      broadcast = same_bool p.broadcast q.broadcast c.0 j;
      busy = same_bool p.busy q.busy d.0 j;
      subsystem = same_bool p.subsystem q.subsystem f.0 j;
      accept = same_bool p.accept q.accept g.0 j;
      terminal = same_bool p.terminal q.terminal g.1 j;
    }
  where
    same_bool : (a b : Bool) → beq a b ≡ true → a ≡ b
    same_bool true true e = refl
    same_bool false false e = refl
    same_bool true false e = cc
    same_bool false true e = cc

-- a list without elements
pub empty_of : {X : Type 0} (xs : List X) → (length xs == 0) ≡ true → xs ≡ []
empty_of [] e = refl
empty_of (x ∷ xs) e = let none : suc (length xs) ≡ 0 = eqb-true (suc (length xs)) 0 e in absurd (cc)

pub not_empty : {X : Type 0} (xs : List X) → (length xs == 0) ≡ false → xs ≡ [] → ⊥
not_empty xs e none = let wrong : true ≡ false = sym (λ j. length (none j) == 0) ∙ e in cc

-- what holds of a result holds of it so
pub if_err : {A E : Type 0} (r : Result A E) (F G : E → Type 0) → ((e : E) → F e → G e) → IfErr r F → IfErr r G
if_err (Ok a) F G f x = tt
if_err (Err e) F G f x = f e x

pub if_ok : {X E : Type 0} (r : Result X E) (F G : X → Type 0) → ((x : X) → F x → G x) → IfOk r F → IfOk r G
if_ok (Ok x) F G f y = f x y
if_ok (Err e) F G f y = tt
