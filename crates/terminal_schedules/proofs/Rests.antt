-- Terminals of which no message is in progress, while replies go on.
use Rattle.std.proofs.Common.{◌≡◌, ◌≢◌, ℕ, zero, suc, ◌≤◌, Bool, true, false, if◌then◌else◌, ◌⊎◌, inl, inr, Option, Some, None, List, [], ◌∷◌, ◌++◌, refl, ap, sym, ◌∙◌}
use Rattle.bus_word.specs.declared.word.Bus.{Bus}
use Rattle.bus_word.specs.declared.word.Bus.TheVariants.{A, B}
use Rattle.bus_word.specs.declared.word.Kind.{Kind}
use Rattle.bus_word.specs.declared.word.Kind.TheVariants.{Com, Dat}
use Rattle.bus_word.specs.Word.{valid_word}
use Rattle.bus_legal.specs.Description.{Description}
use Rattle.terminal_rules.specs.declared.event.Event.{Event}
use Rattle.terminal_rules.specs.declared.event.Event.TheVariants.{Word, Noise, Gap, Write, Vector, Bit, Flag as FlagIs, Slot}
use Rattle.terminal_rules.specs.Buses.{same_bus, other}
use Rattle.terminal_rules.specs.History.{Replying, Nothing}
use Rattle.terminal_rules.specs.Open.{is_on, Idle}
use Rattle.terminal_rules.specs.Reply.{reply_bus}
use Rattle.terminal_rules.specs.Ends.{unless_ignored}
use Rattle.terminal_rules.specs.Past.{history_after}
use Rattle.terminal_rules.specs.ResetLaws.{status_of_reset_is_next}
use Rattle.terminal_rules.specs.Out.{Sending}
use Rattle.terminal_rules.specs.Steps.{unless_reset, sent_one}
use Rattle.terminal_recordings.proofs.Endings.{effects}
use Rattle.terminal_bus.specs.declared.event.BusEvent.{BusEvent}
use Rattle.terminal_bus.specs.declared.event.BusEvent.TheVariants.{SlotPasses}
use Rattle.terminal_bus.specs.Members.{Member, sent_on, heard_of, sendings, unless_sends, heard_on, events_for, after_events, bus_after, play}
use Rattle.terminal_bus.specs.Lists.{Each, EachTwo}
use Rattle.terminal_bus.specs.Transfer.{passing}
use Rattle.terminal_schedules.proofs.Seen.{Seen, SeenOpen, command_in, seen_word}
use Rattle.terminal_schedules.proofs.Step.{SeenEvent, WordComes, NoiseComes, GapComes, SlotComes, Shape, error_by, reset_by, next, next_with, shown, shown_next, none_can}
use Rattle.terminal_schedules.proofs.Said.{IsFromOther, seen_sent, sent_law}
use Rattle.terminal_schedules.proofs.Twins.{In, each_in, each_from, each_map, two_map, from_other}

-- no message is in progress, and this reply is
abbrev pub resting : Option Replying → Shape
resting r = record { message = λ b. Idle; heard = λ b. false; reply = r; off = λ b. false; busy = false; error = false }

-- a slot
off_slot : (t : Bool) → (let none : Option Bool = None in unless_reset t false none false ≡ false)
off_slot true = refl
off_slot false = refl

error_slot : (P : Description) (t : Bool) → error_by P None t Nothing false ≡ false
error_slot P true = refl
error_slot P false = refl

slot_rests : (P : Description) (r : Option Replying) → next P SlotComes (resting r) ≡ resting (sent_one r)
slot_rests P r = λ j. record {
  message = λ b. Idle;
  heard = λ b. false;
  reply = sent_one r;
  off = λ b. off_slot (status_of_reset_is_next r) j;
  busy = false;
  error = error_slot P (status_of_reset_is_next r) j;
}

pub slot_shown : (z : Bool) (P : Description) (r : Option Replying) (h : List Event) → shown z P h ≡ resting r → shown z P (Slot ∷ h) ≡ resting (sent_one r)
slot_shown z P r h s = shown_next z P h Slot (resting r) (resting (sent_one r)) tt s (slot_rests P r) refl

-- a word that is not for it, noise, and a gap
abbrev pub idle_if : Bool → SeenOpen
idle_if t = if t then Idle else Idle

pub idle_both : (t : Bool) → idle_if t ≡ Idle
idle_both true = refl
idle_both false = refl

pub false_both : (t : Bool) → (if t then false else false) ≡ false
false_both true = refl
false_both false = refl

abbrev with_command : Seen → Option ℕ → Seen
with_command s k = record s { command = k }

word_by : (P : Description) (b : Bus) (s : Seen) (r : Option Replying) (i : Bool) →
    (let v : SeenEvent = WordComes b (with_command s None) in next_with P v (resting r) i None (unless_ignored i Nothing) (reset_by v (effects P (unless_ignored i Nothing)) (resting r)) ≡ resting r)
word_by P b s r true = refl
word_by P b s r false = λ j. record {
  message = λ c. idle_both (same_bus c b) j;
  heard = λ c. false_both (same_bus c b) j;
  reply = r;
  off = λ c. false;
  busy = false;
  error = false;
}

pub word_rests : (P : Description) (b : Bus) (s : Seen) (r : Option Replying) → s.command ≡ None → next P (WordComes b s) (resting r) ≡ resting r
word_rests P b s r e = (λ j. next P (WordComes b (with_command s (e j))) (resting r)) ∙ word_by P b s r (is_on b (reply_bus r))

noise_by : (P : Description) (b : Bus) (r : Option Replying) (i : Bool) →
    (let v : SeenEvent = NoiseComes b in next_with P v (resting r) i None (unless_ignored i Nothing) (reset_by v (effects P (unless_ignored i Nothing)) (resting r)) ≡ resting r)
noise_by P b r true = refl
noise_by P b r false = λ j. record {
  message = λ c. idle_both (same_bus c b) j;
  heard = λ c. false;
  reply = r;
  off = λ c. false;
  busy = false;
  error = false;
}

pub noise_rests : (P : Description) (b : Bus) (r : Option Replying) → next P (NoiseComes b) (resting r) ≡ resting r
noise_rests P b r = noise_by P b r (is_on b (reply_bus r))

pub shut_none : (t : Bool) → (let none : Option Bool = None in unless_reset false false (if t then none else none) false ≡ false)
shut_none true = refl
shut_none false = refl

gap_rests : (P : Description) (b : Bus) → next P (GapComes b) (resting None) ≡ resting None
gap_rests P b = λ j. record {
  message = λ c. idle_both (same_bus c b) j;
  heard = λ c. false_both (same_bus c b) j;
  reply = None;
  off = λ c. shut_none (same_bus (other c) b) j;
  busy = false;
  error = false;
}

pub gap_shown : (z : Bool) (P : Description) (b : Bus) (h : List Event) → shown z P h ≡ resting None → shown z P (Gap b ∷ h) ≡ resting None
gap_shown z P b h s = shown_next z P h (Gap b) (resting None) (resting None) tt s (gap_rests P b) refl

-- what comes from other terminals
abbrev pub IsOthers : Description → List Event → Type 0
IsOthers P [] = Unit {0}
IsOthers P (Word b w ∷ es) = (command_in P (Some w) ≡ None) × IsOthers P es
IsOthers P (Noise b ∷ es) = IsOthers P es
IsOthers P _ = ⊥

pub others_rest : (z : Bool) (P : Description) (r : Option Replying) (es h : List Event) → IsOthers P es → shown z P h ≡ resting r → shown z P (history_after es h) ≡ resting r
others_rest z P r [] h o s = s
others_rest z P r (Word b w ∷ es) h o s =
    (let u : Seen = seen_word true P (Some w) in others_rest z P r es (Word b w ∷ h) o.1 (shown_next z P h (Word b w) (resting r) (resting r) (none_can z P b u o.0) s (word_rests P b u r o.0) refl))
others_rest z P r (Noise b ∷ es) h o s = others_rest z P r es (Noise b ∷ h) o (shown_next z P h (Noise b) (resting r) (resting r) tt s (noise_rests P b r) refl)
others_rest z P r (Gap b ∷ es) h o s = absurd o
others_rest z P r (Write q v ∷ es) h o s = absurd o
others_rest z P r (Vector v ∷ es) h o s = absurd o
others_rest z P r (Bit v ∷ es) h o s = absurd o
others_rest z P r (FlagIs f v ∷ es) h o s = absurd o
others_rest z P r (Slot ∷ es) h o s = absurd o

pub others_join : (P : Description) (es fs : List Event) → IsOthers P es → IsOthers P fs → IsOthers P (es ++ fs)
others_join P [] fs o p = p
others_join P (Word b w ∷ es) fs o p = (o.0, others_join P es fs o.1 p)
others_join P (Noise b ∷ es) fs o p = others_join P es fs o p
others_join P (Gap b ∷ es) fs o p = absurd o
others_join P (Write q v ∷ es) fs o p = absurd o
others_join P (Vector v ∷ es) fs o p = absurd o
others_join P (Bit v ∷ es) fs o p = absurd o
others_join P (FlagIs f v ∷ es) fs o p = absurd o
others_join P (Slot ∷ es) fs o p = absurd o

-- a word that another sends
no_command : (Q : Description) (kind : Kind) (d : ℕ) → (seen_sent Q kind d).command ≡ None
no_command Q Com d = refl
no_command Q Dat d = refl

pub not_meant : (Q : Description) (kind : Kind) (bits : ℕ) → IsFromOther Q kind bits → command_in Q (Some (valid_word kind bits)) ≡ None
not_meant Q kind bits f = ap (λ (s : Seen). s.command) (sent_law false Q kind bits f) ∙ no_command Q kind _

abbrev AllFromOther : Description → List Sending → Type 0
AllFromOther Q xs = Each (λ x. IsFromOther Q x.kind x.bits) xs

heard_others : (Q : Description) (b : Bus) (xs : List Sending) → AllFromOther Q xs → IsOthers Q (heard_of b xs)
heard_others Q b [] f = tt
heard_others Q b (x ∷ []) f = (not_meant Q x.kind x.bits f.0, tt)
heard_others Q b (x ∷ y ∷ more) f = tt

abbrev pub ApartMembers : Member → Member → Type 0
ApartMembers m n = m.description.address ≢ n.description.address

-- the terminals of a bus
pub record AreApart (ms : List Member) : Type 0 where
  pub apart : EachTwo ApartMembers ms
  pub low : Each (λ m. m.description.address ≤ 30) ms

abbrev pub Other : Member → Member → Type 0
Other m n = (n ≡ m) ⊎ ApartMembers n m

pub others : (ms : List Member) (m : Member) → EachTwo ApartMembers ms → In ms m → Each (Other m) ms
others [] m two h = tt
others (n ∷ ns) m two h = elim h [
  | inl q ↦ (inl q, each_from (ApartMembers n) (Other m) ns (λ v k a. inr (λ s. a (ap (λ (w : Member). w.description.address) q ∙ sym s))) two.0)
  | inr q ↦ (inr (each_in (ApartMembers n) ns m two.0 q), others ns m two.1 q)
]

kept_others : (Q : Description) (b : Bus) (ms : List Member) → Each (λ n. (x : Sending) → sent_on b n ≡ Some x → IsFromOther Q x.kind x.bits) ms → AllFromOther Q (sendings b ms)
kept_others Q b [] f = tt
kept_others Q b (m ∷ ms) f = by_sent (sent_on b m) refl (kept_others Q b ms f.1)
  where
    by_sent : (o : Option Sending) → sent_on b m ≡ o → AllFromOther Q (sendings b ms) → AllFromOther Q (elim o [ None ↦ sendings b ms | Some y ↦ y ∷ sendings b ms ])
    by_sent None e r = r
    by_sent (Some x) e r = (f.0 x e, r)

pub hears_others : (b : Bus) (ms : List Member) (m : Member) → AreApart ms → In ms m → IsOthers m.description (heard_on b ms m)
hears_others b ms m a h = by_sent (sent_on b m) refl
  where
    by_sent : (o : Option Sending) → sent_on b m ≡ o → IsOthers m.description (unless_sends o (heard_of b (sendings b ms)))
    by_sent (Some x) e = tt
    by_sent None e =
        heard_others m.description b (sendings b ms)
        (kept_others m.description b ms
        (each_from (Other m) (λ n. (x : Sending) → sent_on b n ≡ Some x → IsFromOther m.description x.kind x.bits) ms
        (λ n g o x s. elim o [
          | inl q ↦ (let no : None ≡ Some x = sym (ap (sent_on b) q ∙ e) ∙ s in cc)
          | inr q ↦ from_other m.description n b x s q (each_in (λ m. m.description.address ≤ 30) ms n a.low g)
        ]) (others ms m a.apart h)))

-- slots
abbrev pub Rests : Bool → (Description → Option Replying) → Member → Type 0
Rests z R m = shown z m.description m.history ≡ resting (R m.description)

slot_one : (z : Bool) (R : Description → Option Replying) (ms : List Member) (m : Member) → AreApart ms → In ms m → Rests z R m →
    Rests z (λ P. sent_one (R P)) (after_events (events_for ms SlotPasses m) m)
slot_one z R ms m a h s =
    others_rest z m.description (sent_one (R m.description)) (heard_on A ms m ++ heard_on B ms m) (Slot ∷ m.history)
    (others_join m.description (heard_on A ms m) (heard_on B ms m) (hears_others A ms m a h) (hears_others B ms m a h))
    (slot_shown z m.description (R m.description) m.history s)

pub slot_rest : (z : Bool) (R : Description → Option Replying) (ms : List Member) → AreApart ms → Each (Rests z R) ms → Each (Rests z (λ P. sent_one (R P))) (bus_after ms SlotPasses)
slot_rest z R ms a s =
    each_map (Rests z (λ P. sent_one (R P))) (λ m. after_events (events_for ms SlotPasses m) m) ms
    (each_from (Rests z R) (λ m. Rests z (λ P. sent_one (R P)) (after_events (events_for ms SlotPasses m) m)) ms (λ m h r. slot_one z R ms m a h r) s)

pub apart_after : (ms : List Member) (x : BusEvent) → AreApart ms → AreApart (bus_after ms x)
apart_after ms x a = record {
  apart = two_map ApartMembers (λ m. after_events (events_for ms x m) m) ms a.apart;
  low = each_map (λ (m : Member). m.description.address ≤ 30) (λ m. after_events (events_for ms x m) m) ms a.low;
}

abbrev pub sent_times : ℕ → Option Replying → Option Replying
sent_times zero r = r
sent_times (suc n) r = sent_times n (sent_one r)

pub slots_rest : (z : Bool) (R : Description → Option Replying) (ms : List Member) (n : ℕ) → AreApart ms → Each (Rests z R) ms →
    Each (Rests z (λ P. sent_times n (R P))) (play ms (passing n []))
slots_rest z R ms zero a s = s
slots_rest z R ms (suc n) a s =
    slots_rest z (λ P. sent_one (R P)) (bus_after ms SlotPasses) n (apart_after ms SlotPasses a) (slot_rest z R ms a s)
