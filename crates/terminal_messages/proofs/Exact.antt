-- Each message of a run is told to have ended exactly as the rules of the terminal end it.
use Rattle.std.proofs.Common.{◌≡◌, Bool, true, false, ◌&&◌, if◌then◌else◌, Option, Some, None, List, [], ◌∷◌, refl, ap, sym, ◌∙◌, subst}
use Rattle.bus_word.specs.declared.word.Bus.{Bus}
use Rattle.bus_word.specs.declared.word.Bus.TheVariants.{A, B}
use Rattle.bus_legal.specs.Description.{Description}
use Rattle.terminal_rules.specs.declared.event.Event.{Event}
use Rattle.terminal_rules.specs.declared.event.Event.TheVariants.{Word, Noise, Gap, Write, Vector, Bit, Flag as FlagIs, Slot}
use Rattle.terminal_rules.specs.declared.event.Flag.TheVariants.{Busy}
use Rattle.terminal_rules.specs.Buses.{same_bus}
use Rattle.terminal_rules.specs.LookBack.{latest, since, keep}
use Rattle.terminal_rules.specs.Flags.{flag_now}
use Rattle.terminal_rules.specs.Open.{Open, open_now, is_on}
use Rattle.terminal_rules.specs.Steps.{replies_on}
use Rattle.terminal_rules.specs.Past.{past, history_after}
use Rattle.bus_terminal.specs.Waiting.{is_open}
use Rattle.terminal_messages.specs.Told.{ToldEvent, event_bus, closes}
use Rattle.terminal_messages.specs.Message.{Message, message_on_bus, message_begun, leaves_open, belonging}
use Rattle.terminal_messages.specs.Parts.{tell}
use Rattle.terminal_messages.specs.Messages.{closed_with, messages_in}
use Rattle.terminal_messages.specs.Ends.{ended_how}
use Rattle.terminal_messages.specs.Laws.{has_end, any_end, closer_has_end, IsEndedOnce, IsToldEnded, EndsAs, EachMessage, ExactLaw}
use Rattle.terminal_messages.proofs.EndsLaw.{end_law}
use Rattle.terminal_messages.proofs.ToldLaw.{told_law}
use Rattle.terminal_messages.proofs.Each.{IfMessage, each_in}
use Rattle.terminal_messages.proofs.ViewLaw.{t_of}
use Rattle.terminal_messages.proofs.Once.{OnceOn, once, no_any, heard_end, entry_waits, waits_open, gap_open}

-- an event on a bus that ends a message finds one there
same_eq : (b c : Bus) → same_bus b c ≡ true → b ≡ c
same_eq A A e = refl
same_eq B B e = refl
same_eq A B e = cc
same_eq B A e = cc

pub ends_open : (P : Description) (h : List Event) (e : Event) (b : Bus) → is_on b (event_bus e) ≡ true → has_end (t_of P h e).noted.ends ≡ true → is_open (open_now P (past P h) b) ≡ true
ends_open P h (Word c w) b i e =
    subst (λ b. is_open (open_now P (past P h) b) ≡ true) (sym (same_eq b c i)) (waits_open (open_now P (past P h) c) (entry_waits (Some w) (open_now P (past P h) c) (heard_end (replies_on (past P h) c) _ e).1))
ends_open P h (Noise c) b i e =
    subst (λ b. is_open (open_now P (past P h) b) ≡ true) (sym (same_eq b c i)) (waits_open (open_now P (past P h) c) (entry_waits None (open_now P (past P h) c) (heard_end (replies_on (past P h) c) _ e).1))
ends_open P h (Gap c) b i e =
    subst (λ b. is_open (open_now P (past P h) b) ≡ true) (sym (same_eq b c i)) (gap_open P (flag_now (past P h) Busy) (open_now P (past P h) c) (heard_end (replies_on (past P h) c) _ e).1)
ends_open P h Slot b i e = cc
ends_open P h (Write q v) b i e = cc
ends_open P h (Vector v) b i e = cc
ends_open P h (Bit v) b i e = cc
ends_open P h (FlagIs f v) b i e = cc

-- the message on a bus is of that bus, and is not over
abbrev pub IsOn : Bus → Option Message → Type 0
IsOn b None = Unit {0}
IsOn b (Some m) = (m.bus ≡ b) × (m.closer ≡ None)

pub is_on_bus : (h : List ToldEvent) (b : Bus) → IsOn b (message_on_bus h b)
is_on_bus h b = by_opener (keep (belonging b) (since (closes b) h)) (latest (leaves_open b) h)
  where
    by_opener : (later : List ToldEvent) (o : Option (Option ToldEvent)) → IsOn b (message_begun b later o)
    by_opener later None = tt
    by_opener later (Some None) = tt
    by_opener later (Some (Some t)) = (refl, refl)

both : (x y : Bool) → (x && y) ≡ true → (x ≡ true) × (y ≡ true)
both true true e = (refl, refl)
both true false e = cc
both false y e = cc

closed_once : (P : Description) (h : List Event) (e : Event) (b : Bus) (c : Bool) (m : Option Message) → IsOn b m → OnceOn m (open_now P (past P h) b) → IfMessage IsEndedOnce (if c then closed_with (t_of P h e) m else None)
closed_once P h e b false m i o = tt
closed_once P h e b true None i o = tt
closed_once P h e b true (Some m) i o = (
  o.0,
  λ x.
      let two : (is_on m.bus (event_bus e) ≡ true) × (has_end (t_of P h e).noted.ends ≡ true) = both (is_on m.bus (event_bus e)) (has_end (t_of P h e).noted.ends) x in
      no_any (any_end m.later) (is_open (open_now P (past P h) b)) o.1 (ends_open P h e b (ap (λ b. is_on b (event_bus e)) (sym i.0) ∙ two.0) two.1),
)

open_once : (b : Bus) (m : Option Message) (o : Open) → IsOn b m → OnceOn m o → IfMessage IsEndedOnce m
open_once b None o i q = tt
open_once b (Some m) o i q = (q.0, λ x. let off : closer_has_end m.bus m.closer ≡ false = ap (closer_has_end m.bus) i.1 in cc)

each_once : (P : Description) (h : List Event) → EachMessage IsEndedOnce (messages_in P h)
each_once P =
    each_in IsEndedOnce P (λ h b. open_once b (message_on_bus (tell P h) b) (open_now P (past P h) b) (is_on_bus (tell P h) b) (once P h b))
    (λ h e b. closed_once P h e b (closes b (t_of P h e)) (message_on_bus (tell P h) b) (is_on_bus (tell P h) b) (once P h b)) (λ t b. (tt, λ e. cc))

told_each : (P : Description) (ms : List Message) → EachMessage IsEndedOnce ms → EachMessage (λ m. IsToldEnded (ended_how P m) m × EndsAs (ended_how P m) m) ms
told_each P [] e = tt
told_each P (m ∷ ms) e = ((told_law P m e.0, end_law P m), told_each P ms e.1)

pub exact_law : ExactLaw
exact_law P es = told_each P (messages_in P (history_after es [])) (each_once P (history_after es []))
