-- Histories in which no message is in progress, no reply is, and no word for the terminal came since the last gaps. Two that differ in
-- what was kept alone stay so, until a command sets it.
use Rattle.std.proofs.Common.{◌≡◌, ℕ, Bool, true, false, not, ◌&&◌, ◌||◌, ◌==◌, if◌then◌else◌, inl, Option, Some, None, List, [], ◌∷◌, refl, ap, sym, ◌∙◌, subst}
use Rattle.std.proofs.lemmas.Bool.{eqb-true}
use Rattle.bus_word.specs.declared.word.Bus.{Bus}
use Rattle.bus_word.specs.declared.word.Raw.{Raw}
use Rattle.bus_word.specs.declared.cell.Cell.{Cell}
use Rattle.bus_word.specs.declared.cell.Cell.TheVariants.{OwnReceive, OwnTransmit, BroadReceive, OwnMode, BroadMode}
use Rattle.bus_word.specs.Command.{address_of, transmits, is_broadcast}
use Rattle.bus_word.specs.Cell.{cell_of}
use Rattle.bus_legal.specs.Description.{Description}
use Rattle.terminal_rules.specs.declared.event.Event.{Event}
use Rattle.terminal_rules.specs.declared.event.Event.TheVariants.{Word, Noise, Gap, Write, Vector, Bit, Flag as FlagIs, Slot}
use Rattle.terminal_rules.specs.declared.event.Flag.{Flag}
use Rattle.terminal_rules.specs.Buses.{same_bus}
use Rattle.terminal_rules.specs.LookBack.{or_else, some}
use Rattle.terminal_rules.specs.History.{Replying, Entry, Ending, Nothing}
use Rattle.terminal_rules.specs.Open.{Idle, is_on, open_now}
use Rattle.terminal_rules.specs.Reply.{reply_now, reply_bus, ignores}
use Rattle.terminal_rules.specs.Flags.{flag_now}
use Rattle.terminal_rules.specs.Starts.{is_for_terminal, is_word_for, heard_now, is_free, is_fresh_broadcast, starts_now}
use Rattle.terminal_rules.specs.Ends.{ends_now}
use Rattle.terminal_rules.specs.SinceReset.{is_reset, inhibited_now, is_last_command_code, recorded_by}
use Rattle.terminal_rules.specs.Status.{no_parts, kept_now, spares, spares_kept, later_or, kept_by_command, adds_error}
use Rattle.terminal_rules.specs.Turn.{done_cell}
use Rattle.terminal_rules.specs.Past.{note, past}
use Rattle.terminal_rules.specs.Out.{sends, sending_out, out, sent_in}
use Rattle.terminal_rules.specs.Steps.{unless_reset, replies_on, reset_first, kept_after}
use Rattle.terminal_recordings.specs.Later.{IsQuiet}
use Rattle.terminal_recordings.proofs.Endings.{if_busy, Effects, effects, kept_of}
use Rattle.terminal_recordings.proofs.Summary.{Determined, determined, Summary, summary, reported_last, run_after, started, determined_after, determined_law, inhibited_law, in_silence, in_slot, reset_of_law, kept_new, kept_law, answered, reply_new, reply_law}
use Rattle.terminal_recordings.proofs.Idle.{none_ended, stays}
use Rattle.terminal_recordings.proofs.Alike.{Implies, Alike}

pub record Fresh (P : Description) (s : Summary) : Type 0 where
  pub idle : (b : Bus) → s.determined.message b ≡ Idle
  pub unheard : (b : Bus) → some (λ x. is_word_for P x.word) (s.determined.run b) ≡ false
  pub reply : s.reply ≡ None

abbrev pub IsFresh : Description → List Event → Type 0
IsFresh P h = Fresh P (summary P (past P h))

pub quiet_fresh : (P : Description) (h : List Event) → IsQuiet P h → IsFresh P h
quiet_fresh P h q = record { idle = q.message; unheard = λ b. ap (λ r. some (λ x. is_word_for P x.word) r) (q.run b); reply = q.reply }

-- what an event does then: it is not ignored, ends nothing and is no reset
not_ignored : (r : Option Replying) (e : Event) → r ≡ None → ignores r e ≡ false
not_ignored r (Word b w) n = ap (λ r. is_on b (reply_bus r)) n
not_ignored r (Noise b) n = ap (λ r. is_on b (reply_bus r)) n
not_ignored r (Gap b) n = ap (λ r. is_on b (reply_bus r)) n
not_ignored r (Write q v) n = refl
not_ignored r (Vector v) n = refl
not_ignored r (Bit v) n = refl
not_ignored r (FlagIs f v) n = refl
not_ignored r Slot n = refl

no_slot : (e : Event) → in_slot None e ≡ false
no_slot (Word b w) = refl
no_slot (Noise b) = refl
no_slot (Gap b) = refl
no_slot (Write q v) = refl
no_slot (Vector v) = refl
no_slot (Bit v) = refl
no_slot (FlagIs f v) = refl
no_slot Slot = refl

fresh_ends : (P : Description) (h : List Event) (e : Event) → IsFresh P h → ends_now P (past P h) e ≡ Nothing
fresh_ends P h e f = none_ended P (past P h) e f.idle

fresh_reset : (P : Description) (h : List Event) (e : Event) → IsFresh P h → is_reset (note P (past P h) e) ≡ false
fresh_reset P h e f =
    reset_of_law P h e
    ∙ ((λ j.
    (effects P (if_busy (fresh_ends P h e f j))).broadcast_reset
    || (((effects P (if_busy (fresh_ends P h e f j))).own_reset && in_silence (determined P (past P h)) e) || in_slot (f.reply j) e))
    ∙ no_slot e)

pub fresh_determined : (P : Description) (h : List Event) (e : Event) → IsFresh P h →
    determined P (past P (e ∷ h)) ≡ determined_after P e false (starts_now P (past P h) e) false (effects P Nothing) (determined P (past P h))
fresh_determined P h e f =
    determined_law P (past P h) e
    ∙ (λ j. determined_after P e (not_ignored (reply_now (past P h)) e f.reply j) (starts_now P (past P h) e) (fresh_reset P h e f j) (effects P (if_busy (fresh_ends P h e f j))) (determined P (past P h)))

no_answer : (d : Determined) (e : Event) → answered d e Nothing ≡ false
no_answer d (Word b w) = refl
no_answer d (Noise b) = refl
no_answer d (Gap b) = refl
no_answer d (Write q v) = refl
no_answer d (Vector v) = refl
no_answer d (Bit v) = refl
no_answer d (FlagIs f v) = refl
no_answer d Slot = refl

no_reply : (e : Event) (starts : Bool) → reply_new e starts false None None ≡ None
no_reply (Word b w) true = refl
no_reply (Word b w) false = refl
no_reply (Noise b) s = refl
no_reply (Gap b) s = refl
no_reply (Write q v) s = refl
no_reply (Vector v) s = refl
no_reply (Bit v) s = refl
no_reply (FlagIs f v) s = refl
no_reply Slot s = refl

pub fresh_reply : (P : Description) (h : List Event) (e : Event) → IsFresh P h → reply_now (past P (e ∷ h)) ≡ None
fresh_reply P h e f =
    reply_law P (past P h) e
    ∙ ((λ j. reply_new e (starts_now P (past P h) e) (answered (determined P (past P h)) e (fresh_ends P h e f j)) (done_cell (fresh_ends P h e f j)) (f.reply j))
    ∙ ((λ j. reply_new e (starts_now P (past P h) e) (no_answer (determined P (past P h)) e j) None None) ∙ no_reply e (starts_now P (past P h) e)))

pub fresh_inhibited : (P : Description) (h : List Event) (e : Event) → IsFresh P h → inhibited_now (past P (e ∷ h)) ≡ inhibited_now (past P h)
fresh_inhibited P h e f =
    inhibited_law P (past P h) e
    ∙ (λ j. unless_reset (fresh_reset P h e f j) false (effects P (if_busy (fresh_ends P h e f j))).inhibits (inhibited_now (past P h)))

-- no word is sent
pub fresh_silent : (P : Description) (h : List Event) → IsFresh P h → sent_in (out P h Slot) ≡ None
fresh_silent P h f = ap (λ r. sent_in (sending_out (sends P (past P h) r))) f.reply

-- an event that is no word for the terminal
abbrev pub IsNotFor : Description → Event → Type 0
IsNotFor P (Word b w) = is_for_terminal P w ≡ false
IsNotFor P _ = Unit {0}

not_either : (b : Bool) → b && false ≡ false
not_either true = refl
not_either false = refl

starts_not : (P : Description) (h : List Event) (e : Event) → IsNotFor P e → starts_now P (past P h) e ≡ false
starts_not P h (Word b w) n =
    ap (λ t. not (replies_on (past P h) b) && (t && ((not (heard_now P (past P h) b) && is_free (open_now P (past P h) b)) || (is_fresh_broadcast (open_now P (past P h) b) && (transmits w.bits && (address_of w.bits == P.address)))))) n
    ∙ not_either (not (replies_on (past P h) b))
starts_not P h (Noise b) n = refl
starts_not P h (Gap b) n = refl
starts_not P h (Write q v) n = refl
starts_not P h (Vector v) n = refl
starts_not P h (Bit v) n = refl
starts_not P h (FlagIs f v) n = refl
starts_not P h Slot n = refl

either_run : (P : Description) (t : Bool) (r r' : List Entry) → some (λ x. is_word_for P x.word) r ≡ false → some (λ x. is_word_for P x.word) r' ≡ false →
    some (λ x. is_word_for P x.word) (if t then r else r') ≡ false
either_run P true r r' p q = p
either_run P false r r' p q = q

unheard_after : (P : Description) (b : Bus) (e : Event) (s : Bool) (r : List Entry) → IsNotFor P e → some (λ x. is_word_for P x.word) r ≡ false →
    some (λ x. is_word_for P x.word) (run_after b e s r) ≡ false
unheard_after P b (Word c w) s r n u = either_run P (same_bus b c) _ r (λ j. n j || u j) u
unheard_after P b (Noise c) s r n u = either_run P (same_bus b c) _ r u u
unheard_after P b (Gap c) s r n u = either_run P (same_bus b c) [] r refl u
unheard_after P b (Write q v) s r n u = u
unheard_after P b (Vector v) s r n u = u
unheard_after P b (Bit v) s r n u = u
unheard_after P b (FlagIs f v) s r n u = u
unheard_after P b Slot s r n u = u

pub fresh_stays : (P : Description) (h : List Event) (e : Event) → IsNotFor P e → IsFresh P h → IsFresh P (e ∷ h)
fresh_stays P h e n f = record {
  idle = λ b. stays P (past P h) e b (starts_not P h e n) (f.idle b);
  unheard = λ b.
      ap (λ d. some (λ x. is_word_for P x.word) (d.run b)) (fresh_determined P h e f)
      ∙ unheard_after P b e (starts_now P (past P h) e) ((determined P (past P h)).run b) n (f.unheard b);
  reply = fresh_reply P h e f;
}

-- a word for the terminal starts a message
pub fresh_starts : (P : Description) (h : List Event) (b : Bus) (w : Raw) → is_for_terminal P w ≡ true → IsFresh P h → starts_now P (past P h) (Word b w) ≡ true
fresh_starts P h b w m f =
    λ j. not (not_ignored (reply_now (past P h)) (Word b w) f.reply j)
    && (m j && ((not (f.unheard b j) && is_free (f.idle b j)) || (is_fresh_broadcast (f.idle b j) && (transmits w.bits && (address_of w.bits == P.address)))))

-- two such histories, alike in all that is determined but the last command
abbrev pub but_last : Determined → Determined
but_last d = record d { last = 0 }

pub record FreshAlike (P : Description) (s t : Summary) : Type 0 where
  pub left : Fresh P s
  pub right : Fresh P t
  pub same : but_last s.determined ≡ but_last t.determined
  pub inhibited : Implies t.inhibited s.inhibited

abbrev pub AreFreshAlike : Description → List Event → List Event → Type 0
AreFreshAlike P h k = FreshAlike P (summary P (past P h)) (summary P (past P k))

inhibited_stays : (P : Description) (h k : List Event) (e : Event) → AreFreshAlike P h k → Implies (inhibited_now (past P (e ∷ k))) (inhibited_now (past P (e ∷ h)))
inhibited_stays P h k e a q = fresh_inhibited P h e a.left ∙ a.inhibited (sym (fresh_inhibited P k e a.right) ∙ q)

pub alike_stays : (P : Description) (h k : List Event) (e : Event) → IsNotFor P e → AreFreshAlike P h k → AreFreshAlike P (e ∷ h) (e ∷ k)
alike_stays P h k e n a = record {
  left = fresh_stays P h e n a.left;
  right = fresh_stays P k e n a.right;
  same =
      (λ j. but_last (fresh_determined P h e a.left j))
      ∙ ((λ j. but_last (determined_after P e false (starts_not P h e n j) false (effects P Nothing) (determined P (past P h))))
      ∙ ((λ j. but_last (determined_after P e false false false (effects P Nothing) (a.same j)))
      ∙ ((λ j. but_last (determined_after P e false (sym (starts_not P k e n) j) false (effects P Nothing) (determined P (past P k))))
      ∙ sym (λ j. but_last (fresh_determined P k e a.right j)))));
  inhibited = inhibited_stays P h k e a;
}

-- a command that doesn't ask back sets the last command where that can be reported, and the kept status
last_set : (P : Description) (o : Option Cell) (c n m : ℕ) → spares_kept P o ≡ false →
    reported_last P (or_else (if is_last_command_code o then None else Some c) n) ≡ reported_last P (or_else (if is_last_command_code o then None else Some c) m)
last_set P None c n m e = refl
last_set P (Some (OwnReceive s i)) c n m e = refl
last_set P (Some (OwnTransmit s i)) c n m e = refl
last_set P (Some (BroadReceive s i)) c n m e = refl
last_set P (Some (BroadMode code)) c n m e = refl
last_set P (Some (OwnMode code)) c n m e = by_code (code == 18) refl
  where
    by_code : (t : Bool) → (code == 18) ≡ t → reported_last P (or_else (if t then None else Some c) n) ≡ reported_last P (or_else (if t then None else Some c) m)
    by_code false q = refl
    by_code true q =
        let l : P.legal (OwnMode 18) ≡ false = subst (λ (k : ℕ). spares_kept P (Some (OwnMode k)) ≡ false) (eqb-true code 18 q) e in
        (λ j. if l j then n else 0) ∙ sym (λ j. if l j then m else 0)

kept_set : (P : Description) (h : List Event) (b : Bus) (w : Raw) → is_for_terminal P w ≡ true → spares P w.bits ≡ false → IsFresh P h →
    kept_now P (past P (Word b w ∷ h)) ≡ record no_parts { broadcast = is_broadcast w.bits }
kept_set P h b w m s f =
    let e : Event = Word b w in
    let x : Ending = if_busy (ends_now P (past P h) e) in
    kept_law P (past P h) e
    ∙ ((λ j. kept_new P (flag_now (past P h)) (started e (fresh_starts P h b w m f j)) (is_reset (note P (past P h) e)) (inhibited_now (past P h)) x (kept_now P (past P h)))
    ∙ (λ j. kept_after (later_or (kept_by_command (s j) w.bits) (reset_first (is_reset (note P (past P h) e)) (kept_of P (flag_now (past P h)) (inhibited_now (past P h)) x))) (adds_error P x) (kept_now P (past P h))))

pub alike_starts : (P : Description) (h k : List Event) (b : Bus) (w : Raw) (g : Flag → Bool) → is_for_terminal P w ≡ true → spares P w.bits ≡ false → AreFreshAlike P h k →
    Alike g (summary P (past P (Word b w ∷ h))) (summary P (past P (Word b w ∷ k)))
alike_starts P h k b w g m s a =
    let e : Event = Word b w in
    let E : Effects = effects P Nothing in
    let last : reported_last P (or_else (recorded_by (Some w.bits)) (determined P (past P h)).last) ≡ reported_last P (or_else (recorded_by (Some w.bits)) (determined P (past P k)).last) =
    last_set P (cell_of w.bits) w.bits (determined P (past P h)).last (determined P (past P k)).last s in
    record {
      determined =
          fresh_determined P h e a.left
          ∙ ((λ j. determined_after P e false (fresh_starts P h b w m a.left j) false E (determined P (past P h)))
          ∙ ((λ j. record (determined_after P e false true false E (a.same j)) { last = last j })
          ∙ ((λ j. determined_after P e false (sym (fresh_starts P k b w m a.right) j) false E (determined P (past P k)))
          ∙ sym (fresh_determined P k e a.right))));
      inhibited = inhibited_stays P h k e a;
      kept = inl (kept_set P h b w m s a.left ∙ sym (kept_set P k b w m s a.right));
      reply = inl (fresh_reply P h e a.left ∙ sym (fresh_reply P k e a.right));
    }
