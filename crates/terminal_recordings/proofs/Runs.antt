-- The run of a bus is empty from a gap there to the next word or noise, also where a reply has the terminal ignore them.
use Rattle.std.proofs.Common.{◌≡◌, suc, Bool, true, false, nat_le, if◌then◌else◌, Option, Some, None, List, [], ◌∷◌, refl, ap, sym, ◌∙◌}
use Rattle.bus_word.specs.declared.word.Bus.{Bus}
use Rattle.bus_word.specs.declared.word.Bus.TheVariants.{A, B}
use Rattle.bus_legal.specs.Description.{Description}
use Rattle.terminal_rules.specs.declared.event.Event.{Event}
use Rattle.terminal_rules.specs.declared.event.Event.TheVariants.{Word, Noise, Gap, Write, Vector, Bit, Flag as FlagIs, Slot}
use Rattle.terminal_rules.specs.declared.event.Flag.TheVariants.{Busy}
use Rattle.terminal_rules.specs.Buses.{same_bus}
use Rattle.terminal_rules.specs.History.{Noted, Entry, Ending, Replying, run}
use Rattle.terminal_rules.specs.Open.{is_on, open_now}
use Rattle.terminal_rules.specs.Reply.{reply_now, reply_bus, ignores}
use Rattle.terminal_rules.specs.Flags.{flag_now}
use Rattle.terminal_rules.specs.Starts.{starts_now}
use Rattle.terminal_rules.specs.Ends.{at_gap, unless_ignored, ends_now}
use Rattle.terminal_rules.specs.SinceReset.{off_now}
use Rattle.terminal_rules.specs.Turn.{is_answered, done_cell}
use Rattle.terminal_rules.specs.Past.{note, past}
use Rattle.terminal_rules.specs.Steps.{replies_on, sent_one, begun_if, dropped_if}
use Rattle.terminal_recordings.specs.MaybeGaps.{is_quiet_after}
use Rattle.terminal_recordings.proofs.Summary.{run_after, determined_law, reply_law}

-- the run with an event
run_with : (P : Description) (h : List Noted) (c : Bus) (e : Event) → run (note P h e ∷ h) c ≡ (if ignores (reply_now h) e then run h c else run_after c e (starts_now P h e) (run h c))
run_with P h c e = ap (λ d. d.run c) (determined_law P h e)

-- a word, noise or a gap leaves it empty where they are ignored or on the other bus
word_leaves : (c b : Bus) (e : Event) (o : Option Bus) (s : Bool) (l : List Entry) → is_on c o ≡ true → l ≡ [] → (same_bus c b ≡ false → run_after c e s l ≡ l) → (if is_on b o then l else run_after c e s l) ≡ []
word_leaves A A e o s l on q other = (λ j. if on j then l else run_after A e s l) ∙ q
word_leaves B B e o s l on q other = (λ j. if on j then l else run_after B e s l) ∙ q
word_leaves A B e o s l on q other = by (is_on B o)
  where
    by : (t : Bool) → (if t then l else run_after A e s l) ≡ []
    by true = q
    by false = other refl ∙ q
word_leaves B A e o s l on q other = by (is_on A o)
  where
    by : (t : Bool) → (if t then l else run_after B e s l) ≡ []
    by true = q
    by false = other refl ∙ q

on_other : (c b : Bus) (s : Bool) (x : Entry) (l : List Entry) → same_bus c b ≡ false → (if same_bus c b then x ∷ l else l) ≡ l
on_other c b s x l e = λ j. if e j then x ∷ l else l

dropped : (c : Bus) (s : Bool) (r : Option Replying) → is_on c (reply_bus (dropped_if s r)) ≡ true → is_on c (reply_bus r) ≡ true
dropped c true r e = cc
dropped c false r e = e

sent : (c : Bus) (r : Option Replying) → is_on c (reply_bus (sent_one r)) ≡ true → is_on c (reply_bus r) ≡ true
sent c None e = e
sent c (Some r) e = by (nat_le (suc r.number) _) e
  where
    by : (t : Bool) → (let o : Option Replying = if t then Some (record r { number = suc r.number }) else None in is_on c (reply_bus o)) ≡ true → same_bus c r.bus ≡ true
    by true e = e
    by false e = cc

-- a gap that begins the reply leaves none
gap_begins : (c b : Bus) (i off : Bool) (x : Ending) (l : List Entry) → is_answered off (unless_ignored i x) ≡ true → same_bus c b ≡ true → (if i then l else run_after c (Gap b) false l) ≡ []
gap_begins c b true off x l a e = cc
gap_begins c b false off x l a e = λ j. let none : List Entry = [] in if e j then none else l

gap_leaves : (c b : Bus) (i : Bool) (l : List Entry) → l ≡ [] → (if i then l else run_after c (Gap b) false l) ≡ []
gap_leaves c b true l q = q
gap_leaves A A false l q = refl
gap_leaves B B false l q = refl
gap_leaves A B false l q = q
gap_leaves B A false l q = q

by_answer : (P : Description) (h : List Event) (b c : Bus) (a : Bool) → is_answered (off_now (past P h) b) (ends_now P (past P h) (Gap b)) ≡ a →
    is_on c (reply_bus (begun_if a b (done_cell (ends_now P (past P h) (Gap b))) (reply_now (past P h)))) ≡ true → (replies_on (past P h) c ≡ true → run (past P h) c ≡ []) → run (past P (Gap b ∷ h)) c ≡ []
by_answer P h b c true a e before =
    run_with P (past P h) c (Gap b) ∙ gap_begins c b (replies_on (past P h) b) (off_now (past P h) b) (at_gap P (flag_now (past P h) Busy) (open_now P (past P h) b)) (run (past P h) c) a e
by_answer P h b c false a e before = run_with P (past P h) c (Gap b) ∙ gap_leaves c b (replies_on (past P h) b) (run (past P h) c) (before e)

-- while a reply is in progress on a bus
reply_run : (P : Description) (h : List Event) (c : Bus) → replies_on (past P h) c ≡ true → run (past P h) c ≡ []
reply_run P [] c e = cc
reply_run P (Word b w ∷ h) c e =
    let on : replies_on (past P h) c ≡ true = dropped c (starts_now P (past P h) (Word b w)) (reply_now (past P h)) (sym (ap (λ r. is_on c (reply_bus r)) (reply_law P (past P h) (Word b w))) ∙ e) in
    run_with P (past P h) c (Word b w)
    ∙ word_leaves c b (Word b w) (reply_bus (reply_now (past P h))) (starts_now P (past P h) (Word b w)) (run (past P h) c) on (reply_run P h c on) (on_other c b true _ (run (past P h) c))
reply_run P (Noise b ∷ h) c e =
    let on : replies_on (past P h) c ≡ true = sym (ap (λ r. is_on c (reply_bus r)) (reply_law P (past P h) (Noise b))) ∙ e in
    run_with P (past P h) c (Noise b) ∙ word_leaves c b (Noise b) (reply_bus (reply_now (past P h))) false (run (past P h) c) on (reply_run P h c on) (on_other c b true _ (run (past P h) c))
reply_run P (Gap b ∷ h) c e =
    by_answer P h b c (is_answered (off_now (past P h) b) (ends_now P (past P h) (Gap b))) refl (sym (ap (λ r. is_on c (reply_bus r)) (reply_law P (past P h) (Gap b))) ∙ e) (λ on. reply_run P h c on)
reply_run P (Slot ∷ h) c e =
    run_with P (past P h) c Slot ∙ reply_run P h c (sent c (reply_now (past P h)) (sym (ap (λ r. is_on c (reply_bus r)) (reply_law P (past P h) Slot)) ∙ e))
reply_run P (Write q v ∷ h) c e = run_with P (past P h) c (Write q v) ∙ reply_run P h c (sym (ap (λ r. is_on c (reply_bus r)) (reply_law P (past P h) (Write q v))) ∙ e)
reply_run P (Vector v ∷ h) c e = run_with P (past P h) c (Vector v) ∙ reply_run P h c (sym (ap (λ r. is_on c (reply_bus r)) (reply_law P (past P h) (Vector v))) ∙ e)
reply_run P (Bit v ∷ h) c e = run_with P (past P h) c (Bit v) ∙ reply_run P h c (sym (ap (λ r. is_on c (reply_bus r)) (reply_law P (past P h) (Bit v))) ∙ e)
reply_run P (FlagIs f v ∷ h) c e = run_with P (past P h) c (FlagIs f v) ∙ reply_run P h c (sym (ap (λ r. is_on c (reply_bus r)) (reply_law P (past P h) (FlagIs f v))) ∙ e)

-- so it is after a gap there, and stays so
gap_empties : (P : Description) (h : List Event) (c b : Bus) (q : Bool) → (q ≡ true → run (past P h) c ≡ []) → is_quiet_after (Gap b) c q ≡ true → (i : Bool) → replies_on (past P h) b ≡ i →
    (if i then run (past P h) c else run_after c (Gap b) false (run (past P h) c)) ≡ []
gap_empties P h A A q quiet e true on = reply_run P h A on
gap_empties P h B B q quiet e true on = reply_run P h B on
gap_empties P h A A q quiet e false on = refl
gap_empties P h B B q quiet e false on = refl
gap_empties P h A B q quiet e true on = quiet e
gap_empties P h B A q quiet e true on = quiet e
gap_empties P h A B q quiet e false on = quiet e
gap_empties P h B A q quiet e false on = quiet e

other_keeps : (c b : Bus) (i : Bool) (x : Entry) (q : Bool) (l : List Entry) → (q ≡ true → l ≡ []) → (if same_bus c b then false else q) ≡ true → (if i then l else if same_bus c b then x ∷ l else l) ≡ []
other_keeps A A i x q l quiet e = cc
other_keeps B B i x q l quiet e = cc
other_keeps A B true x q l quiet e = quiet e
other_keeps B A true x q l quiet e = quiet e
other_keeps A B false x q l quiet e = quiet e
other_keeps B A false x q l quiet e = quiet e

pub quiet_stays : (P : Description) (h : List Event) (e : Event) (c : Bus) (q : Bool) → (q ≡ true → run (past P h) c ≡ []) → is_quiet_after e c q ≡ true → run (past P (e ∷ h)) c ≡ []
quiet_stays P h (Word b w) c q quiet e = run_with P (past P h) c (Word b w) ∙ other_keeps c b (replies_on (past P h) b) _ q (run (past P h) c) quiet e
quiet_stays P h (Noise b) c q quiet e = run_with P (past P h) c (Noise b) ∙ other_keeps c b (replies_on (past P h) b) _ q (run (past P h) c) quiet e
quiet_stays P h (Gap b) c q quiet e = run_with P (past P h) c (Gap b) ∙ gap_empties P h c b q quiet e (replies_on (past P h) b) refl
quiet_stays P h Slot c q quiet e = run_with P (past P h) c Slot ∙ quiet e
quiet_stays P h (Write p v) c q quiet e = run_with P (past P h) c (Write p v) ∙ quiet e
quiet_stays P h (Vector v) c q quiet e = run_with P (past P h) c (Vector v) ∙ quiet e
quiet_stays P h (Bit v) c q quiet e = run_with P (past P h) c (Bit v) ∙ quiet e
quiet_stays P h (FlagIs f v) c q quiet e = run_with P (past P h) c (FlagIs f v) ∙ quiet e
