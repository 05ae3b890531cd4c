-- The rules of the terminal end each message of a run once at most.
use Rattle.std.proofs.Common.{◌≡◌, ℕ, Bool, true, false, not, ◌&&◌, ◌||◌, ◌==◌, if◌then◌else◌, inl, inr, Option, Some, None, is_some, List, [], ◌∷◌, refl, ap, sym, ◌∙◌, subst}
use Rattle.bus_word.specs.declared.word.Bus.{Bus}
use Rattle.bus_word.specs.declared.word.Bus.TheVariants.{A, B}
use Rattle.bus_word.specs.declared.word.Raw.{Raw}
use Rattle.bus_word.specs.declared.word.Kind.{Kind}
use Rattle.bus_word.specs.declared.word.Kind.TheVariants.{Com, Dat}
use Rattle.bus_word.specs.declared.cell.Cell.{Cell}
use Rattle.bus_word.specs.Word.{is_command_sync, is_data_sync, is_valid}
use Rattle.bus_word.specs.Command.{address_of, transmits, is_receive, is_broadcast}
use Rattle.bus_legal.specs.Description.{Description}
use Rattle.terminal_rules.specs.declared.event.Event.{Event}
use Rattle.terminal_rules.specs.declared.event.Event.TheVariants.{Word, Noise, Gap, Write, Vector, Bit, Flag as FlagIs, Slot}
use Rattle.terminal_rules.specs.declared.event.Flag.TheVariants.{Busy}
use Rattle.terminal_rules.specs.Buses.{same_bus}
use Rattle.terminal_rules.specs.Flags.{flag_now}
use Rattle.terminal_rules.specs.History.{NoTurn, Entry, Ending, Nothing, Badly, is_ignored}
use Rattle.terminal_rules.specs.Open.{Open, Idle, Collects, Waits, Resumes, open_now, is_on, transfer, transmitter, status_at}
use Rattle.terminal_rules.specs.Reply.{reply_now, reply_bus}
use Rattle.terminal_rules.specs.Starts.{starts_now}
use Rattle.terminal_rules.specs.Ends.{ends_now, ends_with, at_gap, at_entry, unless_ignored, complete, if_expected, with_word, data_of}
use Rattle.terminal_rules.specs.SinceReset.{off_now}
use Rattle.terminal_rules.specs.Steps.{replies_on}
use Rattle.terminal_rules.specs.Turn.{is_answered, done_cell, turn_of_gap, unless_ignored_turn}
use Rattle.terminal_rules.specs.Past.{past}
use Rattle.terminal_rules.specs.Out.{hands}
use Rattle.terminal_rules.proofs.OpenLaw.{open_law, after_event, after_entry, after_gap, waits, unheard}
use Rattle.terminal_recordings.proofs.Idle.{stays}
use Rattle.bus_terminal.specs.Waiting.{is_open}
use Rattle.terminal_messages.specs.Told.{ToldEvent, is_first_command, is_second_command, begins_on, begins_elsewhere, closes, belongs_on}
use Rattle.terminal_messages.specs.Message.{Message, message_on_bus}
use Rattle.terminal_messages.specs.Parts.{tell, is_none_yet, has_to_wait, takes_second}
use Rattle.terminal_messages.specs.Laws.{has_end, any_end, EndsOnce}
use Rattle.terminal_messages.proofs.Engaged.{idle_of, start_heard, or_false}
use Rattle.terminal_messages.specs.declared.part.MessagePart.TheVariants.{First, Second}
use Rattle.terminal_messages.proofs.Partition.{same_or}
use Rattle.terminal_messages.proofs.StepLaw.{after_by, message_law}
use Rattle.terminal_messages.proofs.Fits.{gap_sends_none, begins_engaged, part_of_start, EventFits, event_fits}
use Rattle.terminal_messages.proofs.ViewLaw.{t_of, on_same, second_fresh}

-- a gap that ends a message leaves none
is_expected : (c : ℕ) (m : Option (List ℕ)) → is_some (if_expected c m) ≡ true → is_some m ≡ true
is_expected c None e = e
is_expected c (Some ds) e = refl

abbrev alone : Bool → Option ℕ → ℕ → Option (ℕ × ℕ)
alone r o c = if r then (elim o as (λ o. Option (ℕ × ℕ)) [ None ↦ None | Some a ↦ Some (c, a) ]) else None

no_transmitter : (r : Bool) (c : ℕ) → alone r None c ≡ None
no_transmitter true c = refl
no_transmitter false c = refl

by_kind : (k : Kind) (v m r : Bool) (b a c : ℕ) → is_some (with_word (Some []) (if is_data_sync k && v then Some b else None)) ≡ true → alone r (if is_command_sync k && v && m then Some a else None) c ≡ None
by_kind Com v m r b a c e = cc
by_kind Dat v m r b a c e = no_transmitter r c

by_word : (P : Description) (c : ℕ) (w : Option Raw) (s : Bool) → (let x : Entry = record { word = w; starts = s } in is_some (with_word (Some []) (data_of x.word)) ≡ true → alone (is_receive c) (transmitter P x) c ≡ None)
by_word P c None s e = cc
by_word P c (Some w) s e =
    by_kind w.kind (is_valid w) (transmits w.bits && (not (address_of w.bits == P.address) && not (is_broadcast w.bits))) (is_receive c) w.bits (address_of w.bits) c e

no_transfer : (P : Description) (c : ℕ) (after : List Entry) → is_some (complete c after) ≡ true → transfer P (Some (c, after)) ≡ None
no_transfer P c [] e = refl
no_transfer P c (x ∷ []) e = by_word P c x.word x.starts (is_expected c (with_word (Some []) (data_of x.word)) e)
no_transfer P c (x ∷ y ∷ ys) e = refl

gap_ends : (P : Description) (busy : Bool) (c : ℕ) (m : Option (List ℕ)) (t : Option (ℕ × ℕ)) → (is_some m ≡ true → t ≡ None) →
    has_end (ends_with P busy c m t) ≡ true → is_open (waits t) ≡ false
gap_ends P busy c (Some ds) t n e = ap (λ t. is_open (waits t)) (n refl)
gap_ends P busy c None (Some t) n e = cc
gap_ends P busy c None None n e = refl

gap_leaves : (P : Description) (busy : Bool) (o : Open) → has_end (at_gap P busy o) ≡ true → is_open (after_gap P o) ≡ false
gap_leaves P busy Idle e = cc
gap_leaves P busy (Collects c after) e = gap_ends P busy c (complete c after) (transfer P (Some (c, after))) (no_transfer P c after) e
gap_leaves P busy (Waits c a) e = refl
gap_leaves P busy (Resumes c after) e = refl

entry_leaves : (w : Option Raw) (o : Open) → has_end (at_entry w o) ≡ true → is_open (after_entry (unheard w) o) ≡ false
entry_leaves w Idle e = cc
entry_leaves w (Collects c after) e = cc
entry_leaves w (Resumes c after) e = cc
entry_leaves w (Waits c a) e = by_status (status_at a w) e
  where
    by_status : (s : Bool) → has_end (if s then Nothing else Badly c) ≡ true → is_open (let o : Open = if s then Resumes c [] else Idle in o) ≡ false
    by_status true e = cc
    by_status false e = refl

pub entry_waits : (w : Option Raw) (o : Open) → has_end (at_entry w o) ≡ true → has_to_wait o ≡ true
entry_waits w Idle e = cc
entry_waits w (Collects c after) e = cc
entry_waits w (Resumes c after) e = cc
entry_waits w (Waits c a) e = refl

pub waits_open : (o : Open) → has_to_wait o ≡ true → is_open o ≡ true
waits_open Idle e = cc
waits_open (Collects c after) e = refl
waits_open (Resumes c after) e = refl
waits_open (Waits c a) e = refl

pub gap_open : (P : Description) (busy : Bool) (o : Open) → has_end (at_gap P busy o) ≡ true → is_open o ≡ true
gap_open P busy Idle e = cc
gap_open P busy (Collects c after) e = refl
gap_open P busy (Waits c a) e = refl
gap_open P busy (Resumes c after) e = refl

not_waiting : (o : Open) → is_open o ≡ false → has_to_wait o ≡ false
not_waiting Idle e = refl
not_waiting (Collects c after) e = refl
not_waiting (Waits c a) e = cc
not_waiting (Resumes c after) e = refl

pub heard_end : (i : Bool) (x : Ending) → has_end (unless_ignored i x) ≡ true → (i ≡ false) × (has_end x ≡ true)
heard_end true x e = cc
heard_end false x e = (refl, e)

-- what an event of a message on a bus has to do with its end
pub record EndFits (P : Description) (h : List Event) (e : Event) (b : Bus) : Type 0 where
  pub was_open : belongs_on b (t_of P h e) ≡ true → has_end (t_of P h e).noted.ends ≡ true → is_open (open_now P (past P h) b) ≡ true
  pub over : belongs_on b (t_of P h e) ≡ true → (t_of P h e).noted.starts ≡ false → has_end (t_of P h e).noted.ends ≡ true → is_open (open_now P (past P (e ∷ h)) b) ≡ false
  pub waited : belongs_on b (t_of P h e) ≡ true → (t_of P h e).noted.starts ≡ true → has_end (t_of P h e).noted.ends ≡ true → has_to_wait (open_now P (past P h) b) ≡ true
  pub apart : belongs_on b (t_of P h e) ≡ false → (t_of P h e).noted.starts ≡ false → open_now P (past P (e ∷ h)) b ≡ open_now P (past P h) b

same_self : (b : Bus) → same_bus b b ≡ true
same_self A = refl
same_self B = refl

keep_entry : (i s : Bool) (x o : Open) → (not (is_ignored (unless_ignored_turn i NoTurn)) && (s || false)) ≡ false → (if i then o else (if s then x else o)) ≡ o
keep_entry true s x o e = refl
keep_entry false true x o e = cc
keep_entry false false x o e = refl

keep_gap : (i a s : Bool) (c : Bus) (cell : Option Cell) (x o : Open) → (not (is_ignored (unless_ignored_turn i (turn_of_gap c a cell))) && (s || false)) ≡ false → (if i then o else (if s then x else o)) ≡ o
keep_gap true a s c cell x o e = refl
keep_gap false true true c cell x o e = cc
keep_gap false false true c cell x o e = cc
keep_gap false true false c cell x o e = refl
keep_gap false false false c cell x o e = refl

-- a gap that concerns a bus is on it
gap_on : (P : Description) (h : List Event) (b c : Bus) → belongs_on b (t_of P h (Gap c)) ≡ true → b ≡ c
gap_on P h b c n =
    on_same b c (not (is_ignored (t_of P h (Gap c)).noted.turn))
    (sym (λ j. not (is_ignored (t_of P h (Gap c)).noted.turn) && (same_bus b c || is_on b (gap_sends_none (hands P (ends_now P (past P h) (Gap c))) j))) ∙ n)

word_fits : (P : Description) (h : List Event) (c b : Bus) (w : Raw) → EndFits P h (Word c w) b
word_fits P h c b w = record {
  was_open = λ n e. subst (λ b. is_open (open_now P (past P h) b) ≡ true) (sym (on_same b c (not (is_ignored (t_of P h (Word c w)).noted.turn)) n))
      (waits_open (open_now P (past P h) c) (entry_waits (Some w) (open_now P (past P h) c) (heard_end (replies_on (past P h) c) _ e).1));
  over = λ n s e. subst (λ b. is_open (open_now P (past P (Word c w ∷ h)) b) ≡ false) (sym (on_same b c (not (is_ignored (t_of P h (Word c w)).noted.turn)) n))
      (ap is_open (open_law P (past P h) c (Word c w))
      ∙ ((λ j. is_open (if (heard_end (replies_on (past P h) c) _ e).0 j then open_now P (past P h) c else after_event P c (Word c w) (s j) (open_now P (past P h) c)))
      ∙ (ap (λ x. is_open (let o : Open = if x then after_entry (unheard (Some w)) (open_now P (past P h) c) else open_now P (past P h) c in o)) (same_self c)
      ∙ entry_leaves (Some w) (open_now P (past P h) c) (heard_end (replies_on (past P h) c) _ e).1)));
  waited = λ n s e. subst (λ b. has_to_wait (open_now P (past P h) b) ≡ true) (sym (on_same b c (not (is_ignored (t_of P h (Word c w)).noted.turn)) n))
      (entry_waits (Some w) (open_now P (past P h) c) (heard_end (replies_on (past P h) c) _ e).1);
  apart = λ n s. open_law P (past P h) b (Word c w)
      ∙ ((λ j. if replies_on (past P h) c then open_now P (past P h) b else after_event P b (Word c w) (s j) (open_now P (past P h) b))
      ∙ keep_entry (replies_on (past P h) c) (same_bus b c) (after_entry (unheard (Some w)) (open_now P (past P h) b)) (open_now P (past P h) b) n);
}

noise_fits : (P : Description) (h : List Event) (c b : Bus) → EndFits P h (Noise c) b
noise_fits P h c b = record {
  was_open = λ n e. subst (λ b. is_open (open_now P (past P h) b) ≡ true) (sym (on_same b c (not (is_ignored (t_of P h (Noise c)).noted.turn)) n))
      (waits_open (open_now P (past P h) c) (entry_waits None (open_now P (past P h) c) (heard_end (replies_on (past P h) c) _ e).1));
  over = λ n s e. subst (λ b. is_open (open_now P (past P (Noise c ∷ h)) b) ≡ false) (sym (on_same b c (not (is_ignored (t_of P h (Noise c)).noted.turn)) n))
      (ap is_open (open_law P (past P h) c (Noise c))
      ∙ ((λ j. is_open (if (heard_end (replies_on (past P h) c) _ e).0 j then open_now P (past P h) c else after_event P c (Noise c) false (open_now P (past P h) c)))
      ∙ (ap (λ x. is_open (let o : Open = if x then after_entry (unheard None) (open_now P (past P h) c) else open_now P (past P h) c in o)) (same_self c)
      ∙ entry_leaves None (open_now P (past P h) c) (heard_end (replies_on (past P h) c) _ e).1)));
  waited = λ n s e. let wrong : false ≡ true = s in cc;
  apart = λ n s. open_law P (past P h) b (Noise c)
      ∙ keep_entry (replies_on (past P h) c) (same_bus b c) (after_entry (unheard None) (open_now P (past P h) b)) (open_now P (past P h) b) n;
}

gap_fits : (P : Description) (h : List Event) (c b : Bus) → EndFits P h (Gap c) b
gap_fits P h c b = record {
  was_open = λ n e. subst (λ b. is_open (open_now P (past P h) b) ≡ true) (sym (gap_on P h b c n))
      (gap_open P (flag_now (past P h) Busy) (open_now P (past P h) c) (heard_end (replies_on (past P h) c) _ e).1);
  over = λ n s e. subst (λ b. is_open (open_now P (past P (Gap c ∷ h)) b) ≡ false) (sym (gap_on P h b c n))
      (ap is_open (open_law P (past P h) c (Gap c))
      ∙ ((λ j. is_open (if (heard_end (replies_on (past P h) c) _ e).0 j then open_now P (past P h) c else after_event P c (Gap c) false (open_now P (past P h) c)))
      ∙ (ap (λ x. is_open (let o : Open = if x then after_gap P (open_now P (past P h) c) else open_now P (past P h) c in o)) (same_self c)
      ∙ gap_leaves P (flag_now (past P h) Busy) (open_now P (past P h) c) (heard_end (replies_on (past P h) c) _ e).1)));
  waited = λ n s e. let wrong : false ≡ true = s in cc;
  apart = λ n s. open_law P (past P h) b (Gap c)
      ∙ keep_gap (replies_on (past P h) c) (is_answered (off_now (past P h) c) (ends_now P (past P h) (Gap c))) (same_bus b c) c (done_cell (ends_now P (past P h) (Gap c)))
      (after_gap P (open_now P (past P h) b)) (open_now P (past P h) b)
      (sym (λ j. not (is_ignored (t_of P h (Gap c)).noted.turn) && (same_bus b c || is_on b (gap_sends_none (hands P (ends_now P (past P h) (Gap c))) j))) ∙ n);
}

pub end_fits : (P : Description) (h : List Event) (e : Event) (b : Bus) → EndFits P h e b
end_fits P h (Word c w) b = word_fits P h c b w
end_fits P h (Noise c) b = noise_fits P h c b
end_fits P h (Gap c) b = gap_fits P h c b
end_fits P h Slot b = record { was_open = λ n e. cc; over = λ n s e. cc; waited = λ n s e. cc; apart = λ n s. open_law P (past P h) b Slot }
end_fits P h (Write q v) b = record { was_open = λ n e. cc; over = λ n s e. cc; waited = λ n s e. cc; apart = λ n s. refl }
end_fits P h (Vector v) b = record { was_open = λ n e. cc; over = λ n s e. cc; waited = λ n s e. cc; apart = λ n s. refl }
end_fits P h (Bit v) b = record { was_open = λ n e. cc; over = λ n s e. cc; waited = λ n s e. cc; apart = λ n s. refl }
end_fits P h (FlagIs f v) b = record { was_open = λ n e. cc; over = λ n s e. cc; waited = λ n s e. cc; apart = λ n s. refl }

-- a message has ended once at most, and then the terminal is not in it; while nothing followed its command, it awaits nothing
abbrev pub OnceOn : Option Message → Open → Type 0
OnceOn None o = Unit {0}
OnceOn (Some m) o = EndsOnce m.later × (any_end m.later ≡ true → is_open o ≡ false) × (is_none_yet m.later ≡ true → has_to_wait o ≡ false)

pub no_any : (x y : Bool) → (x ≡ true → y ≡ false) → y ≡ true → x ≡ false
no_any true y h e = let off : y ≡ false = h refl in cc
no_any false y h e = refl

none_any : (l : List ToldEvent) → is_none_yet l ≡ true → any_end l ≡ false
none_any [] e = refl
none_any (t ∷ ts) e = cc

later_off : (o o' : Open) (s x y f : Bool) → (s ≡ true → f ≡ true) → (f ≡ true → y ≡ false) → (y ≡ true → is_open o ≡ false) → (f ≡ true → has_to_wait o ≡ false) →
    (s ≡ false → x ≡ true → is_open o' ≡ false) → (s ≡ true → x ≡ true → has_to_wait o ≡ true) → (s ≡ false → is_open o ≡ false → is_open o' ≡ false) →
    (x || y) ≡ true → is_open o' ≡ false
later_off o o' true true y f b z p q c d s e = let yes : has_to_wait o ≡ true = d refl refl in let no : has_to_wait o ≡ false = q (b refl) in cc
later_off o o' true false y f b z p q c d s e = let no : y ≡ false = z (b refl) in cc
later_off o o' false true y f b z p q c d s e = c refl refl
later_off o o' false false y f b z p q c d s e = s refl (p e)

once_after : (b : Bus) (t : ToldEvent) (c k n : Bool) (m : Option Message) (o o' : Open) → OnceOn m o →
    (k ≡ true → has_to_wait o' ≡ false) →
    (n ≡ true → has_end t.noted.ends ≡ true → is_open o ≡ true) →
    (n ≡ true → t.noted.starts ≡ false → has_end t.noted.ends ≡ true → is_open o' ≡ false) →
    (n ≡ true → t.noted.starts ≡ true → has_end t.noted.ends ≡ true → has_to_wait o ≡ true) →
    ((x : Message) → m ≡ Some x → c ≡ false → n ≡ true → t.noted.starts ≡ true → is_none_yet x.later ≡ true) →
    (t.noted.starts ≡ false → is_open o ≡ false → is_open o' ≡ false) →
    (c ≡ false → n ≡ false → o' ≡ o) → OnceOn (after_by b t c k n m) o'
once_after b t true true n m o o' q w a v d f s u = (tt, (λ e. cc), (λ e. w refl))
once_after b t true false n m o o' q w a v d f s u = tt
once_after b t false k true None o o' q w a v d f s u = tt
once_after b t false k true (Some m) o o' q w a v d f s u = (
  ((λ e. no_any (any_end m.later) (is_open o) q.1 (a refl e)), (λ e. none_any m.later (f m refl refl refl e)), q.0),
  later_off o o' t.noted.starts (has_end t.noted.ends) (any_end m.later) (is_none_yet m.later) (f m refl refl refl) (none_any m.later) q.1 q.2 (v refl) (d refl) s,
  (λ e. cc),
)
once_after b t false k false None o o' q w a v d f s u = tt
once_after b t false k false (Some m) o o' q w a v d f s u =
    (q.0, (λ e. ap is_open (u refl refl) ∙ q.1 e), (λ e. ap has_to_wait (u refl refl) ∙ q.2 e))

-- a start that does not close the message on its bus comes where nothing followed the first command
fresh_by : (P : Description) (h : List Event) (c b : Bus) (w : Raw) (m : Message) (k : Bool) → takes_second w.bits (message_on_bus (tell P h) c) ≡ k →
    message_on_bus (tell P h) b ≡ Some m → closes b (t_of P h (Word c w)) ≡ false → belongs_on b (t_of P h (Word c w)) ≡ true → starts_now P (past P h) (Word c w) ≡ true → is_none_yet m.later ≡ true
fresh_by P h c b w m true k is cl n s =
    second_fresh P h (Word c w) b m is n (ap is_second_command (part_of_start P h c w s ∙ ap (λ x. if x then Second else First) k))
fresh_by P h c b w m false k is cl n s =
    let t : ToldEvent = t_of P h (Word c w) in
    let first : t.part ≡ First = part_of_start P h c w s ∙ ap (λ x. if x then Second else First) k in
    let here : same_bus b c ≡ true = ap (λ b. same_bus b c) (on_same b c (not (is_ignored t.noted.turn)) n) ∙ same_self c in
    let yes : closes b t ≡ true = λ j. (is_first_command (first j) && here j) || (begins_elsewhere b t && not (t.engaged b)) in
    cc

fresh_start : (P : Description) (h : List Event) (e : Event) (b : Bus) (m : Message) →
    message_on_bus (tell P h) b ≡ Some m → closes b (t_of P h e) ≡ false → belongs_on b (t_of P h e) ≡ true → (t_of P h e).noted.starts ≡ true → is_none_yet m.later ≡ true
fresh_start P h (Word c w) b m is cl n s = fresh_by P h c b w m (takes_second w.bits (message_on_bus (tell P h) c)) refl is cl n s
fresh_start P h (Noise c) b m is cl n s = cc
fresh_start P h (Gap c) b m is cl n s = cc
fresh_start P h (Write q v) b m is cl n s = cc
fresh_start P h (Vector v) b m is cl n s = cc
fresh_start P h (Bit v) b m is cl n s = cc
fresh_start P h (FlagIs f v) b m is cl n s = cc
fresh_start P h Slot b m is cl n s = cc

-- a message that begins awaits nothing
started_waits : (x : Bool) (c : ℕ) → has_to_wait (let o : Open = if x then Collects c [] else Idle in o) ≡ false
started_waits true c = refl
started_waits false c = refl

begun_by : (P : Description) (h : List Event) (c b : Bus) (w : Raw) (s n : Bool) → starts_now P (past P h) (Word c w) ≡ s → (t_of P h (Word c w)).engaged b ≡ n →
    begins_on b (t_of P h (Word c w)) ≡ true → has_to_wait (open_now P (past P (Word c w ∷ h)) b) ≡ false
begun_by P h c b w true n s g e =
    ap has_to_wait (open_law P (past P h) b (Word c w))
    ∙ ((λ j. has_to_wait (if (start_heard P (past P h) c w s).0 j then open_now P (past P h) b else after_event P b (Word c w) (s j) (open_now P (past P h) b)))
    ∙ started_waits (same_bus b c) w.bits)
begun_by P h c b w false true s g e = let off : begins_on b (t_of P h (Word c w)) ≡ false = begins_engaged P h (Word c w) b s g in cc
begun_by P h c b w false false s g e =
    not_waiting (open_now P (past P (Word c w ∷ h)) b) (or_false (is_open (open_now P (past P (Word c w ∷ h)) b)) (is_on b (reply_bus (reply_now (past P (Word c w ∷ h))))) g).0

begun_waits : (P : Description) (h : List Event) (e : Event) (b : Bus) → begins_on b (t_of P h e) ≡ true → has_to_wait (open_now P (past P (e ∷ h)) b) ≡ false
begun_waits P h (Word c w) b e = begun_by P h c b w (starts_now P (past P h) (Word c w)) ((t_of P h (Word c w)).engaged b) refl refl e
begun_waits P h (Noise c) b e = cc
begun_waits P h (Gap c) b e = cc
begun_waits P h (Write q v) b e = cc
begun_waits P h (Vector v) b e = cc
begun_waits P h (Bit v) b e = cc
begun_waits P h (FlagIs f v) b e = cc
begun_waits P h Slot b e = cc

-- what neither closes nor concerns the message on a bus starts nothing
pub unstarted : (P : Description) (h : List Event) (e : Event) (b : Bus) → EventFits P h e → closes b (t_of P h e) ≡ false → belongs_on b (t_of P h e) ≡ false → (t_of P h e).noted.starts ≡ false
unstarted P h e b (inr f) c n = f.starts
unstarted P h e b (inl f) c n =
    elim (same_or b f.0) [
      | inl i ↦ elim f.1.here [
        | inl x ↦ let yes : closes b (t_of P h e) ≡ true = ap (λ b. closes b (t_of P h e)) i ∙ x.0 in cc (yes, c)
        | inr x ↦ let yes : belongs_on b (t_of P h e) ≡ true = ap (λ b. belongs_on b (t_of P h e)) i ∙ x.1 in cc (yes, n)
      ]
      | inr d ↦ let yes : closes b (t_of P h e) ≡ true = (f.1.elsewhere b d).0 in cc (yes, c)
    ]

stays_off : (P : Description) (h : List Event) (e : Event) (b : Bus) → starts_now P (past P h) e ≡ false → is_open (open_now P (past P h) b) ≡ false → is_open (open_now P (past P (e ∷ h)) b) ≡ false
stays_off P h e b s o = ap is_open (stays P (past P h) e b s (idle_of (open_now P (past P h) b) o))

-- each message on a bus, at each history
pub once : (P : Description) (h : List Event) (b : Bus) → OnceOn (message_on_bus (tell P h) b) (open_now P (past P h) b)
once P [] b = tt
once P (e ∷ h) b =
    let t : ToldEvent = t_of P h e in
    let f : EndFits P h e b = end_fits P h e b in
    subst (λ m. OnceOn m (open_now P (past P (e ∷ h)) b)) (sym (message_law b t (tell P h)))
    (once_after b t (closes b t) (begins_on b t) (belongs_on b t) (message_on_bus (tell P h) b) (open_now P (past P h) b) (open_now P (past P (e ∷ h)) b) (once P h b)
    (begun_waits P h e b) f.was_open f.over f.waited (λ m is cl n s. fresh_start P h e b m is cl n s) (stays_off P h e b)
    (λ c n. f.apart n (unstarted P h e b (event_fits P h e) c n)))
