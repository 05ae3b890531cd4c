-- What is shown of a recording that begins at a quiet place, after another quiet history where the same is left.
use Rattle.std.proofs.Common.{◌≡◌, ℕ, ◌≤◌, Bool, true, false, if◌then◌else◌, Option, Some, None, List, [], ◌∷◌, ◌++◌, refl, ap, sym, ◌∙◌, subst}
use Rattle.bus_word.specs.declared.word.Bus.{Bus}
use Rattle.bus_word.specs.declared.word.Raw.{Raw}
use Rattle.bus_legal.specs.Description.{Description}
use Rattle.terminal_rules.specs.declared.event.Event.{Event}
use Rattle.terminal_rules.specs.declared.event.Event.TheVariants.{Word, Noise, Gap, Write, Vector, Bit, Flag as FlagIs, Slot}
use Rattle.terminal_rules.specs.Starts.{is_for_terminal}
use Rattle.terminal_rules.specs.Past.{past, history_after}
use Rattle.terminal_rules.specs.Out.{out, sent_in}
use Rattle.terminal_recordings.specs.Recordings.{Sighting, is_seen, sightings_from}
use Rattle.terminal_recordings.specs.Completion.{next_status, flag_shown, told_before}
use Rattle.terminal_recordings.specs.Later.{first_command, asks_back}
use Rattle.terminal_recordings.proofs.Summary.{Summary, summary, quiet_law}
use Rattle.terminal_recordings.proofs.Told.{told_quiet, summary_quiet}
use Rattle.terminal_recordings.proofs.Follows.{Follows, unsent, then_follows, follows}
use Rattle.terminal_recordings.proofs.Fresh.{fresh_silent, IsNotFor, FreshAlike, AreFreshAlike, alike_stays, alike_starts}

-- the second history with what is told
told_alike : (P : Description) (h k : List Event) (s : Sighting) (later : List Sighting) → AreFreshAlike P h k → AreFreshAlike P h (history_after (told_before P k s later) k)
told_alike P h k s later a =
    subst (λ (t : Summary). FreshAlike P (summary P (past P h)) t) (sym (summary_quiet P (told_before P k s later) k (told_quiet P k s later))) a

-- the first with an event of the subsystem
quiet_alike : (P : Description) (h k : List Event) (e : Event) → is_seen e ≡ false → AreFreshAlike P h k → AreFreshAlike P (e ∷ h) k
quiet_alike P h k e u a = subst (λ (t : Summary). FreshAlike P t (summary P (past P k))) (sym (quiet_law P (past P h) e u)) a

-- one sighting that is no word for the terminal
stays_follows : (P : Description) (h k : List Event) (e : Event) (front later : List Sighting) → is_seen e ≡ true → IsNotFor P e → AreFreshAlike P h k →
    ((l : List Event) → AreFreshAlike P h l → sent_in (out P h e) ≡ sent_in (out P l e)) →
    ((l : List Event) → AreFreshAlike P (e ∷ h) l → Follows P l front later) → Follows P k (record { event = e; sent = sent_in (out P h e) } ∷ front) later
stays_follows P h k e front later seen n a same next =
    let s : Sighting = record { event = e; sent = sent_in (out P h e) } in
    let l : List Event = history_after (told_before P k s (front ++ later)) k in
    let both : AreFreshAlike P h l = told_alike P h k s (front ++ later) a in
    then_follows P h k e front later seen (same l both) (next (e ∷ l) (alike_stays P h l e n both))

-- a word that is one
starts_follows : (P : Description) → P.address ≤ 30 → (h k : List Event) (b : Bus) (w : Raw) (es : List Event) (later : List Sighting) → is_for_terminal P w ≡ true →
    asks_back P (Some w.bits) ≡ false → AreFreshAlike P h k → Follows P k (sightings_from P h (Word b w ∷ es)) later
starts_follows P low h k b w es later m q a =
    let e : Event = Word b w in
    let front : List Sighting = sightings_from P (e ∷ h) es in
    let s : Sighting = record { event = e; sent = sent_in (out P h e) } in
    let l : List Event = history_after (told_before P k s (front ++ later)) k in
    then_follows P h k e front later refl refl
    (follows P low es (e ∷ h) (e ∷ l) later (alike_starts P h l b w (flag_shown (next_status (front ++ later))) m q (told_alike P h k s (front ++ later) a)))

abbrev first_of_two : Bool → ℕ → Option ℕ → Option ℕ
first_of_two t c o = elim (if t then Some c else None) as (λ m. Option ℕ) [ None ↦ o | Some c ↦ Some c ]

word_follows : (P : Description) → P.address ≤ 30 → (h k : List Event) (b : Bus) (w : Raw) (es : List Event) (later : List Sighting) → AreFreshAlike P h k →
    asks_back P (first_command P (sightings_from P h (Word b w ∷ es))) ≡ false →
    ((l : List Event) → AreFreshAlike P (Word b w ∷ h) l → asks_back P (first_command P (sightings_from P (Word b w ∷ h) es)) ≡ false → Follows P l (sightings_from P (Word b w ∷ h) es) later) →
    Follows P k (sightings_from P h (Word b w ∷ es)) later
word_follows P low h k b w es later a q next = by_word (is_for_terminal P w) refl
  where
    rest : Option ℕ
    rest = first_command P (sightings_from P (Word b w ∷ h) es)

    by_word : (t : Bool) → is_for_terminal P w ≡ t → Follows P k (sightings_from P h (Word b w ∷ es)) later
    by_word true m = starts_follows P low h k b w es later m (ap (λ t. asks_back P (first_of_two t w.bits rest)) (sym m) ∙ q) a
    by_word false m =
        stays_follows P h k (Word b w) (sightings_from P (Word b w ∷ h) es) later refl m a (λ l c. refl)
        (λ l c. next l c (ap (λ t. asks_back P (first_of_two t w.bits rest)) (sym m) ∙ q))

pub follows_later : (P : Description) → P.address ≤ 30 → (es h k : List Event) (later : List Sighting) → AreFreshAlike P h k → asks_back P (first_command P (sightings_from P h es)) ≡ false →
    Follows P k (sightings_from P h es) later
follows_later P low [] h k later a q = (k, refl)
follows_later P low (Word b w ∷ es) h k later a q = word_follows P low h k b w es later a q (λ l c r. follows_later P low es (Word b w ∷ h) l later c r)
follows_later P low (Noise b ∷ es) h k later a q =
    stays_follows P h k (Noise b) (sightings_from P (Noise b ∷ h) es) later refl tt a (λ l c. refl) (λ l c. follows_later P low es (Noise b ∷ h) l later c q)
follows_later P low (Gap b ∷ es) h k later a q =
    stays_follows P h k (Gap b) (sightings_from P (Gap b ∷ h) es) later refl tt a (λ l c. unsent P h (Gap b) refl ∙ sym (unsent P l (Gap b) refl))
    (λ l c. follows_later P low es (Gap b ∷ h) l later c q)
follows_later P low (Slot ∷ es) h k later a q =
    stays_follows P h k Slot (sightings_from P (Slot ∷ h) es) later refl tt a (λ l c. fresh_silent P h c.left ∙ sym (fresh_silent P l c.right))
    (λ l c. follows_later P low es (Slot ∷ h) l later c q)
follows_later P low (Write p v ∷ es) h k later a q = follows_later P low es (Write p v ∷ h) k later (quiet_alike P h k (Write p v) refl a) q
follows_later P low (Vector v ∷ es) h k later a q = follows_later P low es (Vector v ∷ h) k later (quiet_alike P h k (Vector v) refl a) q
follows_later P low (Bit v ∷ es) h k later a q = follows_later P low es (Bit v ∷ h) k later (quiet_alike P h k (Bit v) refl a) q
follows_later P low (FlagIs f v ∷ es) h k later a q = follows_later P low es (FlagIs f v ∷ h) k later (quiet_alike P h k (FlagIs f v) refl a) q
