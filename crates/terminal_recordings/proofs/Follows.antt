-- What is shown of a recording that a behaviour of the subsystem explains, whatever comes after it: that recording itself, and of one
-- that leaves words open, one that fits it.
use Rattle.std.proofs.Common.{◌≡◌, ℕ, ◌≤◌, Bool, true, false, ◌==◌, if◌then◌else◌, Option, Some, None, List, [], ◌∷◌, ◌++◌, map, refl, ap, sym, ◌∙◌, subst}
use Rattle.bus_word.specs.declared.word.Kind.TheVariants.{Dat}
use Rattle.bus_word.specs.Word.{is_command_sync}
use Rattle.bus_legal.specs.Description.{Description}
use Rattle.terminal_rules.specs.declared.event.Event.{Event}
use Rattle.terminal_rules.specs.declared.event.Event.TheVariants.{Word, Noise, Gap, Write, Vector, Bit, Flag as FlagIs, Slot}
use Rattle.terminal_rules.specs.History.{Replying}
use Rattle.terminal_rules.specs.Reply.{reply_now, is_slot}
use Rattle.terminal_rules.specs.Ends.{ends_now}
use Rattle.terminal_rules.specs.Status.{kept_now}
use Rattle.terminal_rules.specs.Past.{past, history_after}
use Rattle.terminal_rules.specs.Out.{Handing, Sending, handing_over, hands, sending, reply_word, out, sent_in}
use Rattle.terminal_rules.proofs.Reach.Answers.{NextCan, reply_can}
use Rattle.terminal_recordings.specs.Recordings.{Sighting, is_seen, sightings_from}
use Rattle.terminal_recordings.specs.Completion.{status_sent, data_sent, next_status, flag_shown, flags_set, word_set, next_set, told_before, shown_from}
use Rattle.terminal_recordings.specs.Masks.{MaskedSighting, FitsWord, FitsMasked, unmasked}
use Rattle.terminal_recordings.proofs.Summary.{Summary, summary, quiet_law}
use Rattle.terminal_recordings.proofs.Alike.{Alike}
use Rattle.terminal_recordings.proofs.Step.{heard_alike}
use Rattle.terminal_recordings.proofs.SlotStep.{sent_or, sent_of, WordsAlike, SlotAlike, number_of, same_later, data_sent_of, slot_alike, open_slot_alike}
use Rattle.terminal_recordings.proofs.Told.{told_quiet, told_flags, summary_quiet, shown_step, word_given}

-- of a front and what comes later just the front is shown_of, and then what comes later, after some history
abbrev pub Follows : Description → List Event → List Sighting → List Sighting → Type 0
Follows P k front later = (l : List Event) × (shown_from P k (front ++ later) ≡ front ++ shown_from P l later)

-- and where the front leaves words open, a recording that fits it
abbrev pub FollowsOpen : Description → List Event → List MaskedSighting → List Sighting → Type 0
FollowsOpen P k front later = (l : List Event) × (shows : List Sighting) × FitsMasked front shows × (shown_from P k (unmasked front ++ later) ≡ shows ++ shown_from P l later)

-- the second history, where the flags are those that this recording shows
abbrev pub AlikeFor : Description → List Event → List Event → List Sighting → Type 0
AlikeFor P h k recording = Alike (flag_shown (next_status recording)) (summary P (past P h)) (summary P (past P k))

no_word : (o : Option Handing) → sent_in (handing_over o) ≡ None
no_word None = refl
no_word (Some handing) = refl

-- no word is sent but in a slot
pub unsent : (P : Description) (h : List Event) (e : Event) → is_slot e ≡ false → sent_in (out P h e) ≡ None
unsent P h (Word b w) n = refl
unsent P h (Noise b) n = refl
unsent P h (Gap b) n = no_word (hands P (ends_now P (past P h) (Gap b)))
unsent P h (Write q v) n = refl
unsent P h (Vector v) n = refl
unsent P h (Bit v) n = refl
unsent P h (FlagIs f v) n = refl
unsent P h Slot n = cc

-- one sighting, and then the rest
pub then_follows : (P : Description) (h k : List Event) (e : Event) (front later : List Sighting) → is_seen e ≡ true →
    (let s : Sighting = record { event = e; sent = sent_in (out P h e) } in
    let l : List Event = history_after (told_before P k s (front ++ later)) k in
    sent_in (out P h e) ≡ sent_in (out P l e) → Follows P (e ∷ l) front later → Follows P k (s ∷ front) later)
then_follows P h k e front later seen same rest =
    (rest.0, shown_step P k (record { event = e; sent = sent_in (out P h e) }) (front ++ later) seen ∙ (λ j. record { event = e; sent = sym same j } ∷ rest.1 j))

pub then_open : (P : Description) (k : List Event) (m : MaskedSighting) (front : List MaskedSighting) (later : List Sighting) → is_seen m.sighting.event ≡ true →
    (let l : List Event = history_after (told_before P k m.sighting (unmasked front ++ later)) k in
    FitsWord m.any_word m.sighting.sent (sent_in (out P l m.sighting.event)) → FollowsOpen P (m.sighting.event ∷ l) front later → FollowsOpen P k (m ∷ front) later)
then_open P k m front later seen fits rest =
    let l : List Event = history_after (told_before P k m.sighting (unmasked front ++ later)) k in
    let s : Sighting = record { event = m.sighting.event; sent = sent_in (out P l m.sighting.event) } in (
      rest.0,
      s ∷ rest.1,
      (record { event = refl; sent = fits }, rest.2),
      shown_step P k m.sighting (unmasked front ++ later) seen ∙ ap (λ l. s ∷ l) rest.3,
    )

-- the second history with what is told
told_alike : (P : Description) (h k : List Event) (s : Sighting) (later : List Sighting) → AlikeFor P h k (s ∷ later) → AlikeFor P h (history_after (told_before P k s later) k) (s ∷ later)
told_alike P h k s later a =
    subst (λ (t : Summary). Alike (flag_shown (next_status (s ∷ later))) (summary P (past P h)) t) (sym (summary_quiet P (told_before P k s later) k (told_quiet P k s later))) a

-- where no word is sent, none is stated
none_stated : (any : Bool) (stated : Option Sending) → FitsWord any stated None → stated ≡ None
none_stated false stated fits = sym fits
none_stated true None fits = absurd fits
none_stated true (Some word) fits = absurd fits

-- what is to be shown of one sighting of an event, and then the rest
abbrev OpenStep : Description → List Event → List Event → MaskedSighting → List MaskedSighting → List Sighting → Event → Type 0
OpenStep P h k m front later e =
    is_seen e ≡ true → FitsWord m.any_word m.sighting.sent (sent_in (out P h e)) → AlikeFor P h k (m.sighting ∷ (unmasked front ++ later)) →
    ((l : List Event) → AlikeFor P (e ∷ h) l (unmasked front ++ later) → FollowsOpen P l front later) → FollowsOpen P k (m ∷ front) later

-- a word, noise or a gap
heard_here : (P : Description) (h k : List Event) (m : MaskedSighting) (front : List MaskedSighting) (later : List Sighting) → is_slot m.sighting.event ≡ false → OpenStep P h k m front later m.sighting.event
heard_here P h k m front later n seen fits a next =
    let s : Sighting = m.sighting in
    let e : Event = s.event in
    let rest : List Sighting = unmasked front ++ later in
    let l : List Event = history_after (told_before P k s rest) k in
    let silent : FitsWord m.any_word s.sent None = subst (FitsWord m.any_word s.sent) (unsent P h e n) fits in
    let none : s.sent ≡ None = none_stated m.any_word s.sent silent in
    let after : Alike (flag_shown (next_status (s ∷ rest))) (summary P (past P (e ∷ h))) (summary P (past P (e ∷ l))) =
    heard_alike P h l e (flag_shown (next_status (s ∷ rest))) seen n (told_alike P h k s rest a) (told_flags P k s rest) in
    then_open P k m front later seen (subst (FitsWord m.any_word s.sent) (sym (unsent P l e n)) silent)
    (next (e ∷ l) (subst (λ (o : Option ℕ). Alike (flag_shown o) (summary P (past P (e ∷ h))) (summary P (past P (e ∷ l)))) (ap (λ o. sent_or (status_sent o) (next_status rest)) none) after))

heard_follows : (P : Description) (h k : List Event) (m : MaskedSighting) (front : List MaskedSighting) (later : List Sighting) (e : Event) → e ≡ m.sighting.event → is_slot e ≡ false → OpenStep P h k m front later e
heard_follows P h k m front later e same n = subst (OpenStep P h k m front later) (sym same) (heard_here P h k m front later (ap is_slot (sym same) ∙ n))

-- the data words that are told are those that are sent
told_words : (P : Description) → P.address ≤ 30 → (h k : List Event) (s : Sighting) (later : List Sighting) → sent_in (out P h Slot) ≡ s.sent →
    AlikeFor P h k (s ∷ later) → WordsAlike P (past P h) (past P (history_after (told_before P k s later) k))
told_words P low h k s later seen a r e n =
    let v : ℕ = reply_word P (past P h) r.cell r.number in
    let word : sent_of P (past P h) (reply_now (past P h)) ≡ Some (sending r.bus Dat v) = data_sent_of P h r e n in
    let same : reply_now (past P h) ≡ reply_now (past P k) =
    same_later (kept_now P (past P h)).busy _ (reply_now (past P h)) (reply_now (past P k)) a.reply (ap (λ o. number_of o == 0) e ∙ n) in
    let given : next_set (reply_now (past P k)) (data_sent s.sent) ≡ word_set r.cell r.number v = (λ j. next_set ((sym same ∙ e) j) (data_sent ((sym seen ∙ word) j))) in
    let can : NextCan P (Some r) = subst (λ (o : Option Replying). NextCan P o) e (reply_can P low h) in
    let l : List Event = history_after (flags_set (next_status (s ∷ later))) k in
    ap (λ ws. reply_word P (past P (history_after ws l)) r.cell r.number) given
    ∙ word_given P h l r.cell r.number v can.cell can.number n (sym (ap (λ d. d.last) a.determined)) refl

-- a slot: what is stated of it fits what is sent in it, and histories stay alike
slot_stays : (P : Description) → P.address ≤ 30 → (h k : List Event) (s : Sighting) (any : Bool) (rest : List Sighting) → FitsWord any s.sent (sent_in (out P h Slot)) → AlikeFor P h k (s ∷ rest) →
    (let l : List Event = history_after (told_before P k s rest) k in
    FitsWord any s.sent (sent_in (out P l Slot)) × AlikeFor P (Slot ∷ h) (Slot ∷ l) rest)
slot_stays P low h k s false rest fits a =
    let l : List Event = history_after (told_before P k s rest) k in
    let status : next_status (s ∷ rest) ≡ sent_or (status_sent (sent_in (out P h Slot))) (next_status rest) = ap (λ o. sent_or (status_sent o) (next_status rest)) (sym fits) in
    let both : SlotAlike P h l (next_status rest) =
    slot_alike P h l (next_status rest)
    (subst (λ (o : Option ℕ). Alike (flag_shown o) (summary P (past P h)) (summary P (past P l))) status (told_alike P h k s rest a))
    (λ x. told_flags P k s rest x ∙ ap (λ o. flag_shown o x) status)
    (told_words P low h k s rest fits a) in
    (sym both.0 ∙ fits, both.1)
slot_stays P low h k s true rest fits a = by_stated s.sent refl fits
  where
    l : List Event
    l = history_after (told_before P k s rest) k

    by_stated : (o : Option Sending) → s.sent ≡ o → FitsWord true o (sent_in (out P h Slot)) → FitsWord true s.sent (sent_in (out P l Slot)) × AlikeFor P (Slot ∷ h) (Slot ∷ l) rest
    by_stated None e f = absurd (f)
    by_stated (Some stated) e f = by_sent (sent_in (out P h Slot)) refl f
      where
        by_sent : (o : Option Sending) → sent_in (out P h Slot) ≡ o → FitsWord true (Some stated) o → FitsWord true s.sent (sent_in (out P l Slot)) × AlikeFor P (Slot ∷ h) (Slot ∷ l) rest
        by_sent None q g = absurd (g)
        by_sent (Some sent) q g =
            let status : next_status (s ∷ rest) ≡ next_status rest = ap (λ o. sent_or (status_sent o) (next_status rest)) e ∙ ap (λ kind. sent_or (if is_command_sync kind then Some stated.bits else None) (next_status rest)) g.first in
            let both =
            open_slot_alike P h l (next_status rest) stated
            (subst (λ (o : Option ℕ). Alike (flag_shown o) (summary P (past P h)) (summary P (past P l))) status (told_alike P h k s rest a))
            (λ x. told_flags P k s rest x ∙ ap (λ o. flag_shown o x) status) f in
            (subst (λ (o : Option Sending). FitsWord true o (sent_in (out P l Slot))) (sym e) both.0, both.1)

slot_follows : (P : Description) → P.address ≤ 30 → (h k : List Event) (m : MaskedSighting) (front : List MaskedSighting) (later : List Sighting) → Slot ≡ m.sighting.event → OpenStep P h k m front later Slot
slot_follows P low h k m front later same seen fits a next =
    let rest : List Sighting = unmasked front ++ later in
    let l : List Event = history_after (told_before P k m.sighting rest) k in
    let both = slot_stays P low h k m.sighting m.any_word rest fits a in
    then_open P k m front later (ap is_seen (sym same) ∙ seen)
    (subst (λ (e : Event). FitsWord m.any_word m.sighting.sent (sent_in (out P l e))) same both.0)
    (subst (λ (e : Event). FollowsOpen P (e ∷ l) front later) same (next (Slot ∷ l) both.1))

quiet_follows : (P : Description) (h k : List Event) (e : Event) (recording : List Sighting) → is_seen e ≡ false → AlikeFor P h k recording → AlikeFor P (e ∷ h) k recording
quiet_follows P h k e recording u a = subst (λ (t : Summary). Alike (flag_shown (next_status recording)) t (summary P (past P k))) (sym (quiet_law P (past P h) e u)) a

pub follows_open : (P : Description) → P.address ≤ 30 → (es h k : List Event) (ms : List MaskedSighting) (later : List Sighting) → FitsMasked ms (sightings_from P h es) → AlikeFor P h k (unmasked ms ++ later) →
    FollowsOpen P k ms later
follows_open P low [] h k [] later fits a = (k, [], tt, refl)
follows_open P low [] h k (m ∷ ms) later fits a = absurd fits
follows_open P low (Word b w ∷ es) h k [] later fits a = absurd fits
follows_open P low (Word b w ∷ es) h k (m ∷ ms) later f a = heard_follows P h k m ms later (Word b w) f.0.event refl refl f.0.sent a (λ l b'. follows_open P low es (Word b w ∷ h) l ms later f.1 b')
follows_open P low (Noise b ∷ es) h k [] later fits a = absurd fits
follows_open P low (Noise b ∷ es) h k (m ∷ ms) later f a = heard_follows P h k m ms later (Noise b) f.0.event refl refl f.0.sent a (λ l b'. follows_open P low es (Noise b ∷ h) l ms later f.1 b')
follows_open P low (Gap b ∷ es) h k [] later fits a = absurd fits
follows_open P low (Gap b ∷ es) h k (m ∷ ms) later f a = heard_follows P h k m ms later (Gap b) f.0.event refl refl f.0.sent a (λ l b'. follows_open P low es (Gap b ∷ h) l ms later f.1 b')
follows_open P low (Slot ∷ es) h k [] later fits a = absurd fits
follows_open P low (Slot ∷ es) h k (m ∷ ms) later f a = slot_follows P low h k m ms later f.0.event refl f.0.sent a (λ l b'. follows_open P low es (Slot ∷ h) l ms later f.1 b')
follows_open P low (Write q v ∷ es) h k ms later fits a = follows_open P low es (Write q v ∷ h) k ms later fits (quiet_follows P h k (Write q v) (unmasked ms ++ later) refl a)
follows_open P low (Vector v ∷ es) h k ms later fits a = follows_open P low es (Vector v ∷ h) k ms later fits (quiet_follows P h k (Vector v) (unmasked ms ++ later) refl a)
follows_open P low (Bit v ∷ es) h k ms later fits a = follows_open P low es (Bit v ∷ h) k ms later fits (quiet_follows P h k (Bit v) (unmasked ms ++ later) refl a)
follows_open P low (FlagIs f v ∷ es) h k ms later fits a = follows_open P low es (FlagIs f v ∷ h) k ms later fits (quiet_follows P h k (FlagIs f v) (unmasked ms ++ later) refl a)

-- ---- a recording that leaves nothing open

abbrev whole : List Sighting → List MaskedSighting
whole xs = map (λ s. record { sighting = s; any_word = false }) xs

whole_is : (xs : List Sighting) → unmasked (whole xs) ≡ xs
whole_is [] = refl
whole_is (x ∷ xs) = ap (λ l. x ∷ l) (whole_is xs)

whole_fits : (xs : List Sighting) → FitsMasked (whole xs) xs
whole_fits [] = tt
whole_fits (x ∷ xs) = (record { event = refl; sent = refl }, whole_fits xs)

whole_alone : (xs ys : List Sighting) → FitsMasked (whole xs) ys → ys ≡ xs
whole_alone [] [] fits = refl
whole_alone [] (y ∷ ys) fits = absurd fits
whole_alone (x ∷ xs) [] fits = absurd fits
whole_alone (x ∷ xs) (y ∷ ys) (f, fits) = λ j. record { event = f.event j; sent = f.sent j } ∷ whole_alone xs ys fits j

pub follows : (P : Description) → P.address ≤ 30 → (es h k : List Event) (later : List Sighting) → AlikeFor P h k (sightings_from P h es ++ later) → Follows P k (sightings_from P h es) later
follows P low es h k later a =
    let front : List Sighting = sightings_from P h es in
    let f : FollowsOpen P k (whole front) later = follows_open P low es h k (whole front) later (whole_fits front) (subst (λ (l : List Sighting). AlikeFor P h k (l ++ later)) (sym (whole_is front)) a) in (
      f.0,
      ap (λ l. shown_from P k (l ++ later)) (sym (whole_is front)) ∙ (f.3 ∙ ap (λ l. l ++ shown_from P f.0 later) (whole_alone front f.1 f.2)),
    )
