-- A gap that does nothing: all that is seen later is as it would be without it.
use Rattle.std.proofs.Common.{◌≡◌, ℕ, ◌≤◌, Bool, true, false, not, ◌&&◌, ◌||◌, if◌then◌else◌, ◌⊎◌, inl, inr, Option, Some, None, List, [], ◌∷◌, ◌++◌, refl, ap, sym, ◌∙◌, subst, append-nil}
use Rattle.bus_word.specs.declared.word.Bus.{Bus}
use Rattle.bus_word.specs.declared.word.Bus.TheVariants.{A, B}
use Rattle.bus_word.specs.declared.cell.Cell.TheVariants.{OwnMode}
use Rattle.bus_word.specs.Mode.{last_command}
use Rattle.bus_legal.specs.Description.{Description}
use Rattle.terminal_rules.specs.declared.event.Event.{Event}
use Rattle.terminal_rules.specs.declared.event.Event.TheVariants.{Gap}
use Rattle.terminal_rules.specs.declared.event.Flag.TheVariants.{Busy}
use Rattle.terminal_rules.specs.Buses.{other}
use Rattle.terminal_rules.specs.LookBack.{or_else}
use Rattle.terminal_rules.specs.History.{Noted, Entry, Nothing, is_gap_on, run}
use Rattle.terminal_rules.specs.Open.{Idle, is_on, first_message, open_of, open_now, awaited_of, is_latest, before_gap}
use Rattle.terminal_rules.specs.Reply.{reply_now, reply_bus}
use Rattle.terminal_rules.specs.Flags.{flag_now}
use Rattle.terminal_rules.specs.Ends.{at_gap, unless_ignored, ends_now}
use Rattle.terminal_rules.specs.SinceReset.{is_reset, inhibited_now}
use Rattle.terminal_rules.specs.Status.{kept_now}
use Rattle.terminal_rules.specs.Turn.{done_cell}
use Rattle.terminal_rules.specs.Steps.{replies_on, unless_reset}
use Rattle.terminal_rules.specs.Past.{note, past, history_after}
use Rattle.terminal_rules.specs.Out.{out, sent_in}
use Rattle.terminal_rules.proofs.OpenLaw.{after_event}
use Rattle.terminal_recordings.specs.Recordings.{Sighting, IsSighting}
use Rattle.terminal_recordings.specs.Completion.{next_status, flag_shown, told_before, completion_from, shown_from}
use Rattle.terminal_recordings.specs.MaybeGaps.{gap_on, no_entry, waits, gap_does_nothing}
use Rattle.terminal_recordings.proofs.Endings.{if_busy, effects}
use Rattle.terminal_recordings.proofs.Summary.{Determined, Summary, determined, summary, reported_last, run_after, determined_after, determined_law, inhibited_law, kept_law, kept_new, reply_law, reply_new, answered, reset_of, reset_of_law}
use Rattle.terminal_recordings.proofs.Alike.{Alike}
use Rattle.terminal_recordings.proofs.Told.{summary_quiet, told_quiet, shown_step}
use Rattle.terminal_recordings.proofs.Follows.{AlikeFor, FollowsOpen, follows_open}
use Rattle.terminal_recordings.specs.Masks.{MaskedSighting, FitsWord, FitsMasked, unmasked}

-- where the run is empty and nothing waits, no message is in progress
idle_of : (l : Bool) (r : List Entry) (t : Option (ℕ × ℕ)) → no_entry r ≡ true → waits (open_of r (first_message l r) t) ≡ false → open_of r (first_message l r) t ≡ Idle
idle_of l (x ∷ r) t e n = cc
idle_of true [] None e n = refl
idle_of false [] None e n = refl
idle_of true [] (Some t) e n = cc
idle_of false [] (Some t) e n = cc

none_of : (r : List Entry) → no_entry r ≡ true → r ≡ []
none_of [] e = refl
none_of (x ∷ r) e = cc

-- the gap is ignored, or it is a second one where no message is in progress
abbrev pub Quiet : Bool → Determined → Bus → Type 0
Quiet i d b = (i ≡ true) ⊎ ((d.run b ≡ []) × (d.message b ≡ Idle))

split : (i r w : Bool) → i || (r && not w) ≡ true → (i ≡ true) ⊎ ((r ≡ true) × (w ≡ false))
split true r w e = inl refl
split false true false e = inr (refl, refl)
split false true true e = cc
split false false w e = cc

pub quiet_gap : (P : Description) (h : List Event) (b : Bus) → gap_does_nothing P h b ≡ true → Quiet (replies_on (past P h) b) (determined P (past P h)) b
quiet_gap P h b e =
    elim (split (replies_on (past P h) b) (no_entry (run (past P h) b)) (waits (open_now P (past P h) b)) e) [
      | inl i ↦ inl i
      | inr q ↦ inr (none_of (run (past P h) b) q.0, idle_of (is_latest (past P h) b) (run (past P h) b) (awaited_of P b (is_latest (past P h) b) (before_gap (past P h) b)) q.0 q.1)
    ]

-- such a gap ends nothing
pub ends_none : (P : Description) (busy i : Bool) (d : Determined) (b : Bus) → Quiet i d b → unless_ignored i (at_gap P busy (d.message b)) ≡ Nothing
ends_none P busy true d b q = refl
ends_none P busy false d b (inl e) = cc
ends_none P busy false d b (inr q) = ap (at_gap P busy) q.1

-- and changes nothing of what is determined
run_same : (i : Bool) (d : Determined) (b c : Bus) → Quiet i d b → (if i then d.run c else run_after c (Gap b) false (d.run c)) ≡ d.run c
run_same true d b c q = refl
run_same false d b c (inl e) = cc
run_same false d A A (inr q) = sym q.0
run_same false d A B (inr q) = refl
run_same false d B A (inr q) = refl
run_same false d B B (inr q) = sym q.0

message_same : (P : Description) (i : Bool) (d : Determined) (b c : Bus) → Quiet i d b → (if i then d.message c else after_event P c (Gap b) false (d.message c)) ≡ d.message c
message_same P true d b c q = refl
message_same P false d b c (inl e) = cc
message_same P false d A A (inr q) = (λ j. after_event P A (Gap A) false (q.1 j)) ∙ sym q.1
message_same P false d A B (inr q) = refl
message_same P false d B A (inr q) = refl
message_same P false d B B (inr q) = (λ j. after_event P B (Gap B) false (q.1 j)) ∙ sym q.1

off_same : (t v : Bool) → or_else (let o : Option Bool = None in if t then o else None) v ≡ v
off_same true v = refl
off_same false v = refl

reported_twice : (P : Description) (c : ℕ) → reported_last P (reported_last P c) ≡ reported_last P c
reported_twice P c = by_legal (P.legal (OwnMode last_command))
  where
    by_legal : (t : Bool) → (if t then (if t then c else 0) else 0) ≡ (if t then c else 0)
    by_legal true = refl
    by_legal false = refl

determined_same : (P : Description) (i : Bool) (d : Determined) (b : Bus) → reported_last P d.last ≡ d.last → Quiet i d b → determined_after P (Gap b) i false false (effects P Nothing) d ≡ d
determined_same P i d b l q = λ j. record {
  run = λ c. run_same i d b c q j;
  message = λ c. message_same P i d b c q j;
  off = λ c. off_same (is_gap_on (other c) (Gap b)) (d.off c) j;
  last = l j;
}

pub summary_same : (P : Description) (h : List Event) (b : Bus) → gap_does_nothing P h b ≡ true → summary P (past P (Gap b ∷ h)) ≡ summary P (past P h)
summary_same P h b e =
    let n : List Noted = past P h in
    let q : Quiet (replies_on n b) (determined P n) b = quiet_gap P h b e in
    let ends : ends_now P n (Gap b) ≡ Nothing = ends_none P (flag_now n Busy) (replies_on n b) (determined P n) b q in
    let reset : is_reset (note P n (Gap b)) ≡ false = reset_of_law P h (Gap b) ∙ (λ j. reset_of (Gap b) (effects P (if_busy (ends j))) (determined P n) (reply_now n)) in
    let d : determined P (past P (Gap b ∷ h)) ≡ determined P n =
    determined_law P n (Gap b)
    ∙ ((λ j. determined_after P (Gap b) (replies_on n b) false (reset j) (effects P (if_busy (ends j))) (determined P n))
    ∙ determined_same P (replies_on n b) (determined P n) b (reported_twice P _) q) in
    let i : inhibited_now (past P (Gap b ∷ h)) ≡ inhibited_now n = inhibited_law P n (Gap b) ∙ (λ j. unless_reset (reset j) false (effects P (if_busy (ends j))).inhibits (inhibited_now n)) in
    let k : kept_now P (past P (Gap b ∷ h)) ≡ kept_now P n = kept_law P n (Gap b) ∙ (λ j. kept_new P (flag_now n) None (reset j) (inhibited_now n) (if_busy (ends j)) (kept_now P n)) in
    let r : reply_now (past P (Gap b ∷ h)) ≡ reply_now n = reply_law P n (Gap b) ∙ (λ j. reply_new (Gap b) false (answered (determined P n) (Gap b) (ends j)) (done_cell (ends j)) (reply_now n)) in
    λ j. record { determined = d j; inhibited = i j; kept = k j; reply = r j }

-- what is shown of a recording, where it fits
abbrev pub IsShown : Description → List Event → List MaskedSighting → Type 0
IsShown P h recording = FitsMasked recording (shown_from P h (unmasked recording))

-- it is so after all histories with the same summary
pub shown_alike : (P : Description) → P.address ≤ 30 → (h k : List Event) (recording : List MaskedSighting) → summary P (past P h) ≡ summary P (past P k) → IsShown P h recording → IsShown P k recording
shown_alike P low h k recording same shown =
    let at_once : AlikeFor P h h (unmasked recording ++ []) = record { determined = refl; inhibited = λ e. e; kept = inl refl; reply = inl refl } in
    let alike : AlikeFor P h k (unmasked recording ++ []) = subst (λ (t : Summary). Alike (flag_shown (next_status (unmasked recording ++ []))) (summary P (past P h)) t) same at_once in
    let f : FollowsOpen P k recording [] = follows_open P low (completion_from P h (unmasked recording)) h k recording [] shown alike in
    subst (FitsMasked recording) (sym (ap (shown_from P k) (sym (append-nil (unmasked recording))) ∙ (f.3 ∙ append-nil f.1))) f.2

-- by its first sighting
pub shown_cons : (P : Description) (h : List Event) (s : MaskedSighting) (later : List MaskedSighting) → IsSighting s.sighting → IsShown P h (s ∷ later) →
    (let l : List Event = history_after (told_before P h s.sighting (unmasked later)) h in
    FitsWord s.any_word s.sighting.sent (sent_in (out P l s.sighting.event)) × IsShown P (s.sighting.event ∷ l) later)
shown_cons P h s later is shown =
    let x = subst (FitsMasked (s ∷ later)) (shown_step P h s.sighting (unmasked later) is.seen) shown in
    (x.0.sent, x.1)

pub gap_sighting : (b : Bus) → IsSighting (gap_on b).sighting
gap_sighting b = record { seen = refl; proper = tt; bits = tt }

-- a gap that does nothing may be left out of a recording
abbrev does_nothing_in : Summary → Bus → Bool
does_nothing_in s b = is_on b (reply_bus s.reply) || (no_entry (s.determined.run b) && not (waits (s.determined.message b)))

still_nothing : (P : Description) (h : List Event) (b : Bus) (later : List Sighting) → gap_does_nothing P h b ≡ true →
    (let l : List Event = history_after (told_before P h (gap_on b).sighting later) h in
    summary P (past P (Gap b ∷ l)) ≡ summary P (past P h))
still_nothing P h b later e =
    let l : List Event = history_after (told_before P h (gap_on b).sighting later) h in
    let same : summary P (past P l) ≡ summary P (past P h) = summary_quiet P (told_before P h (gap_on b).sighting later) h (told_quiet P h (gap_on b).sighting later) in
    let nothing : gap_does_nothing P l b ≡ true = (λ j. does_nothing_in (same j) b) ∙ e in
    summary_same P l b nothing ∙ same

pub without_gap : (P : Description) → P.address ≤ 30 → (h : List Event) (b : Bus) (later : List MaskedSighting) → gap_does_nothing P h b ≡ true → IsShown P h (gap_on b ∷ later) → IsShown P h later
without_gap P low h b later e shown = shown_alike P low _ h later (still_nothing P h b (unmasked later) e) (shown_cons P h (gap_on b) later (gap_sighting b) shown).1
