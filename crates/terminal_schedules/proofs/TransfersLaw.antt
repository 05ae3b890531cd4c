-- Legal transfers end well.
use Rattle.std.proofs.Common.{◌≡◌, ℕ, zero, suc, ◌+◌, ◌≤◌, Bool, true, false, not, ◌||◌, ◌==◌, nat_le, if◌then◌else◌, inl, inr, Option, Some, None, List, [], ◌∷◌, ◌++◌, map, refl, ap, sym, ◌∙◌, subst, arith, ◌&&◌}
use Rattle.std.proofs.lemmas.Bool.{eqb-true, eqb-false, ne_eqb}
use Rattle.std.proofs.lemmas.Bool.Decides.{nat_tests}
use Rattle.bus_word.specs.declared.word.Bus.{Bus}
use Rattle.bus_word.specs.declared.word.Kind.TheVariants.{Com, Dat}
use Rattle.bus_word.specs.declared.cell.Cell.{Cell}
use Rattle.bus_word.specs.declared.cell.Cell.TheVariants.{OwnReceive, OwnTransmit, BroadReceive}
use Rattle.bus_word.specs.Command.{address_of, is_broadcast}
use Rattle.bus_word.specs.Status.{status_word}
use Rattle.bus_word.proofs.WordLaws.{status_has_bits}
use Rattle.bus_legal.specs.Description.{Description}
use Rattle.terminal_rules.specs.declared.event.Event.{Event}
use Rattle.terminal_rules.specs.declared.event.Event.TheVariants.{Gap, Slot}
use Rattle.terminal_rules.specs.LookBack.{some}
use Rattle.terminal_rules.specs.History.{Replying, Nothing, Done, Illegal}
use Rattle.terminal_rules.specs.Open.{Idle, Collects}
use Rattle.terminal_rules.specs.Reply.{reply_after, reply_now}
use Rattle.terminal_rules.specs.Starts.{is_meant}
use Rattle.terminal_rules.specs.Ends.{ends_now}
use Rattle.terminal_rules.specs.SinceReset.{held_now, resets_in_slot}
use Rattle.terminal_rules.specs.Status.{kept_now, formed_done}
use Rattle.terminal_rules.specs.Turn.{turn_of_slot}
use Rattle.terminal_rules.specs.Past.{past}
use Rattle.terminal_rules.specs.Out.{Out, Silence, SendsWord, HandsOver, HandsReceived, sending, hands, handing_over, sends, sending_out, out}
use Rattle.terminal_rules.specs.Steps.{begun_if}
use Rattle.terminal_rules.proofs.ReplyLaw.{no_words}
use Rattle.terminal_bus.specs.declared.event.BusEvent.{BusEvent}
use Rattle.terminal_bus.specs.declared.event.BusEvent.TheVariants.{OnBus, SlotPasses}
use Rattle.terminal_bus.specs.Members.{Member, after_events, events_for, bus_after, play}
use Rattle.terminal_bus.specs.Alone.{answers_in, own_answers}
use Rattle.terminal_bus.specs.Lists.{Each}
use Rattle.terminal_bus.specs.Transfer.{Has, passing, actions, actions_at_each, held_words, word_out}
use Rattle.terminal_bus.proofs.Cells.{transmits_law}
use Rattle.terminal_bus.proofs.Local.{slot_out, Steady, steady_then, word_steady}
use Rattle.terminal_bus.proofs.Walk.{asked, gapped, sent_at, slots_hist, heard_hist, words_to, held_of, gap_steady, slot_steady, asked_steady, status_of, kept_at_gap, formed_steady, word_of}
use Rattle.terminal_bus.proofs.Deliver.{Scene, word_at, stage_with, staged, sends_in, RoleAs, Plays, slots_subsystem, slots_actions, after_slot, begun_with, begun_all}
use Rattle.terminal_schedules.specs.Schedule.{IsClearIf}
use Rattle.terminal_schedules.specs.Formats.{good_status, must_be_legal, carries_out}
use Rattle.terminal_schedules.specs.Transfers.{Transfer, transfer_events, received_cell, sends_it, CanBeSent, transfer_answers, IsTransferred}
use Rattle.terminal_schedules.proofs.Seen.{gap_ending}
use Rattle.terminal_schedules.proofs.Step.{GapComes, Shape, ends_as, shown}
use Rattle.terminal_schedules.proofs.Said.{says, gap_says}
use Rattle.terminal_schedules.proofs.Twins.{In, each_in, in_map, each_from, each_map, each_unmap, two_map}
use Rattle.terminal_schedules.proofs.Rests.{resting, ApartMembers, AreApart, Other, others, Rests, sent_times, slots_rest, gap_shown}
use Rattle.terminal_schedules.proofs.Single.{collecting, same_self}
use Rattle.terminal_schedules.proofs.Law.{descriptions, in_has}
use Rattle.terminal_schedules.proofs.FormatsLaw.{clear_rests, rests_clear, actions_join, slot_answers, slots_quiet, no_more, refused}
use Rattle.terminal_schedules.proofs.Between.{Commands, NotFor, IsStatus, sender_asked, sender_done, sender_slots, receiver_slots, receiver_over, other_asked, other_slots, receiver_waits, receiver_ends, receiver_refuses}
use Rattle.terminal_schedules.proofs.Status.{parts_for}

-- a transfer on a bus whose terminals are clear, and the one that sends
record Setting (z : Bool) (x : Transfer) (ms : List Member) (y : Member) : Type 0 where
  pub apart : AreApart ms
  pub clear : Each (IsClearIf z) ms
  pub has : In ms y
  pub from : address_of x.transmit ≡ y.description.address
  pub commands : Commands x.receive x.transmit x.s x.t x.n (received_cell x)
  pub sends : y.description.legal (OwnTransmit x.t x.n) ≡ true
  pub legal : (m : Member) → In ms m → sends_it x m.description ≡ false → must_be_legal z m.description x.receive ≡ true → m.description.legal (received_cell x) ≡ true

has_in : (ms : List Member) (m : Member) → In ms m → Has ms m
has_in [] m h = absurd h
has_in (n ∷ ms) m h = elim h [ inl q ↦ inl q | inr q ↦ inr (has_in ms m q) ]

at_rest : (z : Bool) (x : Transfer) (ms : List Member) (y m : Member) → Setting z x ms y → In ms m → shown z m.description m.history ≡ resting None
at_rest z x ms y m k h = clear_rests z m (each_in (IsClearIf z) ms m k.clear h)

-- the one that sends is the only one of its address
the_sender : (z : Bool) (x : Transfer) (ms : List Member) (y m : Member) → Setting z x ms y → In ms m → sends_it x m.description ≡ true → m ≡ y
the_sender z x ms y m k h e =
    let same : m.description.address ≡ address_of x.transmit = eqb-true m.description.address (address_of x.transmit) e in
    elim (each_in (Other y) ms m (others ms y k.apart.apart k.has) h) [ inl q ↦ q | inr q ↦ absurd (q (same ∙ k.from)) ]

not_sent : (z : Bool) (x : Transfer) (ms : List Member) (y m : Member) → Setting z x ms y → sends_it x m.description ≡ false → NotFor m.description x.transmit
not_sent z x ms y m k e = record {
  other = λ q. eqb-false m.description.address (address_of x.transmit) e (sym q);
  own = (transmits_law x.transmit x.t x.n k.commands.sends).own;
}

-- its status word, and the words
abbrev gap_hist : Transfer → Member → List Event
gap_hist x m = gapped x.bus x.receive x.transmit m.history

abbrev status_sent : Transfer → Member → ℕ
status_sent x y = status_of y.description y.history x.transmit (OwnTransmit x.t x.n)

abbrev words_sent : Transfer → Member → ℕ → ℕ
words_sent x y = held_of y.description y.history x.t

abbrev scene : Transfer → List Member → Member → Scene
scene x ms y = record {
  members = ms;
  bus = x.bus;
  c = x.receive;
  d = x.transmit;
  a = address_of x.transmit;
  n = x.n;
  status = status_sent x y;
  words = words_sent x y;
}

status_from : (z : Bool) (x : Transfer) (ms : List Member) (y m : Member) → Setting z x ms y → sends_it x m.description ≡ false → IsStatus m.description x.transmit (status_sent x y)
status_from z x ms y m k e = record {
  from = (status_has_bits y.description.address (formed_done y.description (past y.description y.history) x.transmit (OwnTransmit x.t x.n))).address_field ∙ sym k.from;
  not_for = not_sent z x ms y m k e;
}

sender_shape : (z : Bool) (x : Transfer) (ms : List Member) (y : Member) → Setting z x ms y → (i : ℕ) →
    shown z y.description (slots_hist i (gap_hist x y)) ≡ resting (reply_after x.bus (Some (OwnTransmit x.t x.n)) false i)
sender_shape z x ms y k i =
    sender_slots z y.description x.bus x.receive x.transmit x.s x.t x.n (received_cell x) y.history k.commands k.from k.sends (at_rest z x ms y y k k.has) i

-- it holds the same words throughout
asked_ends : (z : Bool) (x : Transfer) (ms : List Member) (y : Member) → Setting z x ms y →
    ends_now y.description (past y.description (asked x.bus x.receive x.transmit y.history)) (Gap x.bus) ≡ Done x.transmit (OwnTransmit x.t x.n) []
asked_ends z x ms y k =
    ends_as z y.description (asked x.bus x.receive x.transmit y.history) (Gap x.bus) (collecting x.bus x.transmit []) (Done x.transmit (OwnTransmit x.t x.n) [])
    (sender_asked z y.description x.bus x.receive x.transmit x.s x.t x.n (received_cell x) y.history k.commands k.from (at_rest z x ms y y k k.has))
    (ap (λ u. gap_ending y.description false (if u then Collects x.transmit [] else Idle)) (same_self x.bus) ∙ sender_done y.description x.transmit x.t x.n k.commands.sends k.sends)

not_reset : (b : Bus) (t n i : ℕ) (l : Bool) → resets_in_slot (turn_of_slot (if l then Some (record { bus = b; cell = Some (OwnTransmit t n); number = i }) else None)) ≡ false
not_reset b t n i true = refl
not_reset b t n i false = refl

sender_holds : (z : Bool) (x : Transfer) (ms : List Member) (y : Member) → Setting z x ms y → (i k : ℕ) →
    held_now y.description (past y.description (slots_hist i (gap_hist x y))) x.t k ≡ words_sent x y k
sender_holds z x ms y s zero k =
    let e = asked_ends z x ms y s in
    (gap_steady y.description (asked x.bus x.receive x.transmit y.history) x.bus (rw e tt)).held x.t k ∙ (asked_steady y.description y.history x.bus x.receive x.transmit).held x.t k
sender_holds z x ms y s (suc i) k =
    (slot_steady y.description (slots_hist i (gap_hist x y)) x.bus (reply_after x.bus (Some (OwnTransmit x.t x.n)) false i) (ap (λ (t : Shape). t.reply) (sender_shape z x ms y s i)) (not_reset x.bus x.t x.n i (nat_le i x.n))).held x.t k
    ∙ sender_holds z x ms y s i k

sender_says : (z : Bool) (x : Transfer) (ms : List Member) (y : Member) → Setting z x ms y → RoleAs (scene x ms y) true y
sender_says z x ms y s zero low =
    let P : Description = y.description in
    let g : List Event = asked x.bus x.receive x.transmit y.history in
    let kept : kept_now P (past P (gap_hist x y)) ≡ formed_done P (past P y.history) x.transmit (OwnTransmit x.t x.n) =
    kept_at_gap P g x.bus x.transmit (OwnTransmit x.t x.n) [] (asked_ends z x ms y s) refl refl refl
    ∙ formed_steady P x.bus (past P g) (past P y.history) x.transmit (OwnTransmit x.t x.n) (asked_steady P y.history x.bus x.receive x.transmit) in
    slot_out P (gap_hist x y) _ (ap (λ (t : Shape). t.reply) (sender_shape z x ms y s zero))
    ∙ ((λ j. sending_out (sends P (past P (gap_hist x y)) (if no_words x.n j then Some (record { bus = x.bus; cell = Some (OwnTransmit x.t x.n); number = 0 }) else None)))
    ∙ (λ j. SendsWord (sending x.bus Com (status_word P.address (kept j)))))
sender_says z x ms y s (suc i) low =
    let P : Description = y.description in
    let h : List Event = slots_hist (suc i) (gap_hist x y) in
    let left : nat_le (suc i) x.n ≡ true = grind (arith, nat_tests) in
    let later : (suc i == 0) ≡ false = ne_eqb (suc i) 0 (λ q. omega (arith, q)) in
    slot_out P h _ (ap (λ (t : Shape). t.reply) (sender_shape z x ms y s (suc i)))
    ∙ ((λ j. sending_out (sends P (past P h) (if left j then Some (record { bus = x.bus; cell = Some (OwnTransmit x.t x.n); number = suc i }) else None)))
    ∙ ((λ j. SendsWord (if later j then sending x.bus Com (status_word P.address (kept_now P (past P h))) else sending x.bus Dat (held_now P (past P h) x.t (suc i))))
    ∙ (λ j. SendsWord (sending x.bus Dat (sender_holds z x ms y s (suc i) (suc i) j)))))

-- the others in the slots
abbrev heard_by : Transfer → Member → ℕ → Member → List Event
heard_by x y i m = heard_hist x.bus (sent_at x.bus (status_sent x y) (words_sent x y)) i (gap_hist x m)

no_reply : (z : Bool) (x : Transfer) (ms : List Member) (y m : Member) → Setting z x ms y → In ms m → sends_it x m.description ≡ false → (i : ℕ) →
    (let none : Option Replying = None in reply_now (past m.description (heard_by x y i m)) ≡ none)
no_reply z x ms y m s h e i = by_meant (is_meant m.description x.receive) refl
  where
    by_meant : (u : Bool) → is_meant m.description x.receive ≡ u → (let none : Option Replying = None in reply_now (past m.description (heard_by x y i m)) ≡ none)
    by_meant true k =
        ap (λ (t : Shape). t.reply)
        (receiver_slots z m.description x.bus x.receive x.transmit x.s x.t x.n (received_cell x) m.history (status_sent x y) (words_sent x y) s.commands k (status_from z x ms y m s e) (at_rest z x ms y m s h) i)
    by_meant false k =
        ap (λ (t : Shape). t.reply) (other_slots z m.description x.bus x.receive x.transmit m.history (status_sent x y) (words_sent x y) k (status_from z x ms y m s e) (at_rest z x ms y m s h) i)

-- what stays as it was at one that receives
heard_steady : (z : Bool) (x : Transfer) (ms : List Member) (y m : Member) → Setting z x ms y → In ms m → sends_it x m.description ≡ false → is_meant m.description x.receive ≡ true → (i : ℕ) →
    Steady m.description x.bus (past m.description (heard_by x y i m)) (past m.description m.history)
heard_steady z x ms y m s h e k zero =
    let P : Description = m.description in
    let g : List Event = asked x.bus x.receive x.transmit m.history in
    let waits : ends_now P (past P g) (Gap x.bus) ≡ Nothing =
    receiver_waits z P x.bus x.receive x.transmit x.s x.t x.n (received_cell x) m.history s.commands k (not_sent z x ms y m s e) (at_rest z x ms y m s h) in
    steady_then P x.bus _ _ _ (gap_steady P g x.bus (rw waits tt)) (asked_steady P m.history x.bus x.receive x.transmit)
heard_steady z x ms y m s h e k (suc i) =
    let P : Description = m.description in
    steady_then P x.bus _ _ _ (word_steady P (Slot ∷ heard_by x y i m) x.bus x.bus (word_of (sent_at x.bus (status_sent x y) (words_sent x y) i)))
    (steady_then P x.bus _ _ _ (slot_steady P (heard_by x y i m) x.bus None (no_reply z x ms y m s h e i) refl) (heard_steady z x ms y m s h e k i))

receiver_ends_at : (z : Bool) (x : Transfer) (ms : List Member) (y m : Member) → Setting z x ms y → In ms m → sends_it x m.description ≡ false → is_meant m.description x.receive ≡ true → (u : Bool) → m.description.legal (received_cell x) ≡ u →
    ends_now m.description (past m.description (heard_by x y (suc x.n) m)) (Gap x.bus) ≡ (if u then Done x.receive (received_cell x) (words_to (words_sent x y) x.n) else Illegal x.receive)
receiver_ends_at z x ms y m s h e k u l =
    receiver_ends z m.description x.bus x.receive x.transmit x.s x.t x.n (received_cell x) m.history (status_sent x y) (words_sent x y) s.commands k (status_from z x ms y m s e) (at_rest z x ms y m s h)
    ∙ (λ j. if l j then Done x.receive (received_cell x) (words_to (words_sent x y) x.n) else Illegal x.receive)

receiver_parts : (z : Bool) (x : Transfer) (ms : List Member) (y m : Member) → Setting z x ms y → In ms m → sends_it x m.description ≡ false → is_meant m.description x.receive ≡ true → m.description.legal (received_cell x) ≡ true →
    is_broadcast x.receive ≡ false → kept_now m.description (past m.description (Gap x.bus ∷ heard_by x y (suc x.n) m)) ≡ parts_for m.description (past m.description m.history) x.receive (received_cell x)
receiver_parts z x ms y m s h e k l own =
    let P : Description = m.description in
    let g : List Event = heard_by x y (suc x.n) m in
    let ws : List ℕ = words_to (words_sent x y) x.n in
    let cell : Cell = OwnReceive x.s x.n in
    kept_at_gap P g x.bus x.receive cell ws (receiver_ends_at z x ms y m s h e k true l ∙ (λ j. Done x.receive (if own j then BroadReceive x.s x.n else cell) ws)) refl refl refl
    ∙ (formed_steady P x.bus (past P g) (past P m.history) x.receive cell (heard_steady z x ms y m s h e k (suc x.n))
    ∙ (λ j. parts_for P (past P m.history) x.receive (if sym own j then BroadReceive x.s x.n else cell)))

plays : (z : Bool) (x : Transfer) (ms : List Member) (y : Member) → Setting z x ms y → Plays (scene x ms y)
plays z x ms y s = record {
  apart = s.apart.apart;
  sender = y;
  has = has_in ms y s.has;
  is = sym s.from;
  roles = λ m h. by_role m (in_has ms m h) (sends_it x m.description) refl;
}
  where
    by_role : (m : Member) → In ms m → (u : Bool) → sends_it x m.description ≡ u → RoleAs (scene x ms y) u m
    by_role m h true e = subst (λ (m : Member). RoleAs (scene x ms y) true m) (sym (the_sender z x ms y m s h e)) (sender_says z x ms y s)
    by_role m h false e = λ i. slot_out m.description (heard_by x y i m) None (no_reply z x ms y m s h e i)

-- after the second gap
abbrev last_reply : Transfer → Description → Option Replying
last_reply x P = if sends_it x P then None else if is_meant P x.receive then begun_if (not (is_broadcast x.receive || false)) x.bus (Some (received_cell x)) None else None

abbrev last_of : Transfer → List Member → Member → Member → Member
last_of x ms y m = staged (scene x ms y) (suc x.n) m

abbrev gap_of : Transfer → Member → Member
gap_of x m = after_events (Gap x.bus ∷ []) m

over_reply : (b : Bus) (t n : ℕ) → (let none : Option Replying = None in reply_after b (Some (OwnTransmit t n)) false (suc n) ≡ none)
over_reply b t n =
    let over : nat_le (suc n) n ≡ false = grind (arith, nat_tests) in
    λ j. if over j then Some (record { bus = b; cell = Some (OwnTransmit t n); number = suc n }) else None

sender_last : (z : Bool) (x : Transfer) (ms : List Member) (y : Member) → Setting z x ms y → shown z y.description (slots_hist (suc x.n) (gap_hist x y)) ≡ resting None
sender_last z x ms y s = sender_shape z x ms y s (suc x.n) ∙ ap resting (over_reply x.bus x.t x.n)

last_rests : (z : Bool) (x : Transfer) (ms : List Member) (y m : Member) → Setting z x ms y → In ms m → Rests z (last_reply x) (gap_of x (last_of x ms y m))
last_rests z x ms y m s h = by_role (sends_it x m.description) refl
  where
    by_meant : sends_it x m.description ≡ false → (u w : Bool) → is_meant m.description x.receive ≡ u → m.description.legal (received_cell x) ≡ w →
        shown z m.description (Gap x.bus ∷ heard_by x y (suc x.n) m) ≡ resting (if u then begun_if (not (is_broadcast x.receive || false)) x.bus (Some (received_cell x)) None else None)
    by_meant e true true k l =
        receiver_over z m.description x.bus x.receive x.transmit x.s x.t x.n (received_cell x) m.history (status_sent x y) (words_sent x y) s.commands k (status_from z x ms y m s e) l (at_rest z x ms y m s h)
    by_meant e true false k l =
        let r : (z ≡ false) × (is_broadcast x.receive ≡ true) = refused z m.description x.receive (received_cell x) (s.legal m h e) k l in
        receiver_refuses z m.description x.bus x.receive x.transmit x.s x.t x.n (received_cell x) m.history (status_sent x y) (words_sent x y) s.commands k (status_from z x ms y m s e) l r.0 r.1 (at_rest z x ms y m s h)
        ∙ (λ j. resting (begun_if (not (sym r.1 j || false)) x.bus (Some (received_cell x)) None))
    by_meant e false w k l =
        gap_shown z m.description x.bus (heard_by x y (suc x.n) m)
        (other_slots z m.description x.bus x.receive x.transmit m.history (status_sent x y) (words_sent x y) k (status_from z x ms y m s e) (at_rest z x ms y m s h) (suc x.n))

    by_role : (u : Bool) → sends_it x m.description ≡ u →
        shown z m.description (Gap x.bus ∷ (stage_with (scene x ms y) u (suc x.n) m).history)
        ≡ resting (if u then None else if is_meant m.description x.receive then begun_if (not (is_broadcast x.receive || false)) x.bus (Some (received_cell x)) None else None)
    by_role true e =
        subst (λ (m : Member). shown z m.description (Gap x.bus ∷ slots_hist (suc x.n) (gap_hist x m)) ≡ resting None) (sym (the_sender z x ms y m s h e))
        (gap_shown z y.description x.bus (slots_hist (suc x.n) (gap_hist x y)) (sender_last z x ms y s))
    by_role false e = by_meant e (is_meant m.description x.receive) (m.description.legal (received_cell x)) refl refl

-- the bus then
abbrev last_members : Transfer → List Member → Member → List Member
last_members x ms y = bus_after (map (staged (scene x ms y) (suc x.n)) ms) (OnBus (Gap x.bus))

last_apart : (x : Transfer) (ms : List Member) (y : Member) → AreApart ms → AreApart (last_members x ms y)
last_apart x ms y a = record {
  apart = two_map ApartMembers (gap_of x) (map (staged (scene x ms y) (suc x.n)) ms) (two_map (λ m n. ApartMembers (gap_of x m) (gap_of x n)) (staged (scene x ms y) (suc x.n)) ms a.apart);
  low = each_map (λ (m : Member). m.description.address ≤ 30) (gap_of x) (map (staged (scene x ms y) (suc x.n)) ms) (each_map (λ (m : Member). m.description.address ≤ 30) (staged (scene x ms y) (suc x.n)) ms a.low);
}

all_rest : (z : Bool) (x : Transfer) (ms : List Member) (y : Member) → Setting z x ms y → Each (Rests z (last_reply x)) (last_members x ms y)
all_rest z x ms y s =
    each_map (Rests z (last_reply x)) (gap_of x) (map (staged (scene x ms y) (suc x.n)) ms)
    (each_map (λ m. Rests z (last_reply x) (gap_of x m)) (staged (scene x ms y) (suc x.n)) ms
    (each_from (IsClearIf z) (λ m. Rests z (last_reply x) (gap_of x (last_of x ms y m))) ms (λ m h c. last_rests z x ms y m s h) s.clear))

slots_play : (T : Scene) (p : Plays T) (xs : List BusEvent) (j i : ℕ) → i + j ≡ suc T.n → play (map (staged T i) T.members) (passing j xs) ≡ play (map (staged T (suc T.n)) T.members) xs
slots_play T p xs zero i e = let at : i ≡ suc T.n = omega (arith, e) in ap (λ i. play (map (staged T i) T.members) xs) at
slots_play T p xs (suc j) i e =
    let low : i ≤ T.n = omega (arith, e) in
    let next : suc i + j ≡ suc T.n = omega (arith, e) in
    ap (λ ms. play ms (passing j xs)) (after_slot T p i low) ∙ slots_play T p xs j (suc i) next

abbrev end_slots : Transfer → ℕ
end_slots x = if is_broadcast x.receive then 0 else 1

transfer_play : (z : Bool) (x : Transfer) (ms : List Member) (y : Member) → Setting z x ms y → play ms (transfer_events x) ≡ play (last_members x ms y) (passing (end_slots x) [])
transfer_play z x ms y s =
    let T : Scene = scene x ms y in
    ap (λ ns. play ns (passing (suc x.n) (OnBus (Gap x.bus) ∷ passing (end_slots x) []))) (begun_all T)
    ∙ slots_play T (plays z x ms y s) (OnBus (Gap x.bus) ∷ passing (end_slots x) []) (suc x.n) 0 (omega arith)

last_over : (x : Transfer) (P : Description) → (let none : Option Replying = None in sent_times (end_slots x) (last_reply x P) ≡ none)
last_over x P = by_tests (is_broadcast x.receive) (sends_it x P) (is_meant P x.receive)
  where
    by_tests : (u v w : Bool) →
        (let none : Option Replying = None in sent_times (if u then 0 else 1) (if v then none else if w then begun_if (not (u || false)) x.bus (Some (if u then BroadReceive x.s x.n else OwnReceive x.s x.n)) none else none) ≡ none)
    by_tests true true w = refl
    by_tests true false true = refl
    by_tests true false false = refl
    by_tests false true w = refl
    by_tests false false true = refl
    by_tests false false false = refl

transfer_clear : (z : Bool) (x : Transfer) (ms : List Member) (y : Member) → Setting z x ms y → Each (IsClearIf z) (play ms (transfer_events x))
transfer_clear z x ms y s =
    subst (Each (IsClearIf z)) (sym (transfer_play z x ms y s))
    (each_from (Rests z (λ P. sent_times (end_slots x) (last_reply x P))) (IsClearIf z) (play (last_members x ms y) (passing (end_slots x) []))
    (λ m h r. rests_clear z m (r ∙ ap resting (last_over x m.description)))
    (slots_rest z (last_reply x) (last_members x ms y) (end_slots x) (last_apart x ms y s.apart) (all_rest z x ms y s)))

-- the answers, in one list
abbrev flat : List (List Out) → List Out
flat [] = []
flat (os ∷ acts) = os ++ flat acts

flat_law : (ms : List Member) (xs : List BusEvent) (m : Member) → actions (own_answers ms xs m) ≡ flat (actions_at_each ms xs m)
flat_law ms [] m = refl
flat_law ms (x ∷ xs) m =
    actions_join (answers_in ms x m) (own_answers (bus_after ms x) xs (after_events (events_for ms x m) m))
    ∙ ap (λ os. actions (answers_in ms x m) ++ os) (flat_law (bus_after ms x) xs (after_events (events_for ms x m) m))

-- at the first gap all are silent
first_silent : (z : Bool) (x : Transfer) (ms : List Member) (y m : Member) → Setting z x ms y → In ms m → (let quiet : Out = Silence in out m.description (asked x.bus x.receive x.transmit m.history) (Gap x.bus) ≡ quiet)
first_silent z x ms y m s h = by_role (sends_it x m.description) refl
  where
    by_meant : sends_it x m.description ≡ false → (u : Bool) → is_meant m.description x.receive ≡ u → (let quiet : Out = Silence in out m.description (asked x.bus x.receive x.transmit m.history) (Gap x.bus) ≡ quiet)
    by_meant e true k =
        ap (λ z. handing_over (hands m.description z))
        (receiver_waits z m.description x.bus x.receive x.transmit x.s x.t x.n (received_cell x) m.history s.commands k (not_sent z x ms y m s e) (at_rest z x ms y m s h))
    by_meant e false k =
        gap_says z m.description (asked x.bus x.receive x.transmit m.history) x.bus
        ∙ ap (says m.description (GapComes x.bus)) (other_asked z m.description x.bus x.receive x.transmit m.history k (not_sent z x ms y m s e) (at_rest z x ms y m s h))

    by_role : (u : Bool) → sends_it x m.description ≡ u → (let quiet : Out = Silence in out m.description (asked x.bus x.receive x.transmit m.history) (Gap x.bus) ≡ quiet)
    by_role true e =
        subst (λ (m : Member). (let quiet : Out = Silence in out m.description (asked x.bus x.receive x.transmit m.history) (Gap x.bus) ≡ quiet)) (sym (the_sender z x ms y m s h e))
        (ap (λ z. handing_over (hands y.description z)) (asked_ends z x ms y s))
    by_role false e = by_meant e (is_meant m.description x.receive) refl

-- the slots
word_flat : (x : Transfer) (ms : List Member) (y : Member) (i j : ℕ) (acts : List (List Out)) →
    flat (slots_actions (scene x ms y) true (suc i) j acts) ≡ map (word_out x.bus) (held_words y x.t (suc i) j) ++ flat acts
word_flat x ms y i zero acts = refl
word_flat x ms y i (suc j) acts = ap (λ os. word_out x.bus (words_sent x y (suc i)) ∷ os) (word_flat x ms y (suc i) j acts)

quiet_flat : (T : Scene) (i j : ℕ) (acts : List (List Out)) → flat (slots_actions T false i j acts) ≡ flat acts
quiet_flat T i zero acts = refl
quiet_flat T i (suc j) acts = quiet_flat T (suc i) j acts

-- the words, as they are handed over
snoc : (m : Member) (t i n : ℕ) → held_words m t i (suc n) ≡ held_words m t i n ++ held_of m.description m.history t (i + n) ∷ []
snoc m t i zero = let e : i ≡ i + 0 = omega arith in ap (λ k. held_of m.description m.history t k ∷ []) e
snoc m t i (suc n) =
    let e : suc i + n ≡ i + suc n = omega arith in
    ap (λ vs. held_of m.description m.history t i ∷ vs) (snoc m t (suc i) n ∙ ap (λ k. held_words m t (suc i) n ++ held_of m.description m.history t k ∷ []) e)

words_are : (m : Member) (t n : ℕ) → words_to (held_of m.description m.history t) n ≡ held_words m t 1 n
words_are m t zero = refl
words_are m t (suc n) =
    let e : 1 + n ≡ suc n = omega arith in
    ap (λ vs. vs ++ held_of m.description m.history t (suc n) ∷ []) (words_are m t n)
    ∙ (ap (λ k. held_words m t 1 n ++ held_of m.description m.history t k ∷ []) (sym e) ∙ sym (snoc m t 1 n))

-- the second gap
abbrev gap_answers : Transfer → Member → Description → List Out
gap_answers x y P = if sends_it x P then [] else if carries_out P x.receive (received_cell x) then HandsOver (HandsReceived (is_broadcast x.receive) x.s (held_words y x.t 1 x.n)) ∷ [] else []

hands_by : (P : Description) (c s n : ℕ) (ws : List ℕ) (u : Bool) →
    actions (handing_over (hands P (Done c (if u then BroadReceive s n else OwnReceive s n) ws)) ∷ []) ≡ HandsOver (HandsReceived u s ws) ∷ []
hands_by P c s n ws true = refl
hands_by P c s n ws false = refl

last_says : (z : Bool) (x : Transfer) (ms : List Member) (y m : Member) → Setting z x ms y → In ms m → actions (out m.description (last_of x ms y m).history (Gap x.bus) ∷ []) ≡ gap_answers x y m.description
last_says z x ms y m s h = by_role (sends_it x m.description) refl
  where
    by_meant : sends_it x m.description ≡ false → (u w : Bool) → is_meant m.description x.receive ≡ u → m.description.legal (received_cell x) ≡ w →
        actions (out m.description (heard_by x y (suc x.n) m) (Gap x.bus) ∷ []) ≡ (if u && w then HandsOver (HandsReceived (is_broadcast x.receive) x.s (held_words y x.t 1 x.n)) ∷ [] else [])
    by_meant e true true k l =
        ap (λ x. actions (handing_over (hands m.description x) ∷ [])) (receiver_ends_at z x ms y m s h e k true l)
        ∙ (hands_by m.description x.receive x.s x.n (words_to (words_sent x y) x.n) (is_broadcast x.receive)
        ∙ ap (λ ws. HandsOver (HandsReceived (is_broadcast x.receive) x.s ws) ∷ []) (words_are y x.t x.n))
    by_meant e true false k l = ap (λ x. actions (handing_over (hands m.description x) ∷ [])) (receiver_ends_at z x ms y m s h e k false l)
    by_meant e false w k l =
        ap (λ o. actions (o ∷ []))
        (gap_says z m.description (heard_by x y (suc x.n) m) x.bus
        ∙ ap (says m.description (GapComes x.bus)) (other_slots z m.description x.bus x.receive x.transmit m.history (status_sent x y) (words_sent x y) k (status_from z x ms y m s e) (at_rest z x ms y m s h) (suc x.n)))

    by_role : (u : Bool) → sends_it x m.description ≡ u →
        actions (out m.description (stage_with (scene x ms y) u (suc x.n) m).history (Gap x.bus) ∷ [])
        ≡ (if u then [] else if carries_out m.description x.receive (received_cell x) then HandsOver (HandsReceived (is_broadcast x.receive) x.s (held_words y x.t 1 x.n)) ∷ [] else [])
    by_role true e =
        subst (λ (m : Member). (let none : List Out = [] in actions (out m.description (slots_hist (suc x.n) (gap_hist x m)) (Gap x.bus) ∷ []) ≡ none)) (sym (the_sender z x ms y m s h e))
        (ap (λ o. actions (o ∷ [])) (gap_says z y.description (slots_hist (suc x.n) (gap_hist x y)) x.bus ∙ ap (says y.description (GapComes x.bus)) (sender_last z x ms y s)))
    by_role false e = by_meant e (is_meant m.description x.receive) (m.description.legal (received_cell x)) refl refl

-- the slot after it
abbrev end_answers : Transfer → Member → List Out
end_answers x m = if sends_it x m.description then [] else if carries_out m.description x.receive (received_cell x) then (if is_broadcast x.receive then [] else good_status x.bus m x.receive (received_cell x) ∷ []) else []

end_says : (z : Bool) (x : Transfer) (ms : List Member) (y m : Member) → Setting z x ms y → In ms m →
    actions (own_answers (last_members x ms y) (passing (end_slots x) []) (gap_of x (last_of x ms y m))) ≡ end_answers x m
end_says z x ms y m s h = by_tests (is_broadcast x.receive) (sends_it x m.description) (is_meant m.description x.receive) (m.description.legal (received_cell x)) refl refl refl refl
  where
    there : In (last_members x ms y) (gap_of x (last_of x ms y m))
    there = in_map (gap_of x) (map (staged (scene x ms y) (suc x.n)) ms) (last_of x ms y m) (in_map (staged (scene x ms y) (suc x.n)) ms m h)

    quiet : (let none : Option Replying = None in last_reply x m.description ≡ none) → (let none : List Out = [] in actions (own_answers (last_members x ms y) (passing 1 []) (gap_of x (last_of x ms y m))) ≡ none)
    quiet q = slots_quiet z (last_reply x) (last_members x ms y) (gap_of x (last_of x ms y m)) 1 (last_apart x ms y s.apart) (all_rest z x ms y s) there q

    by_tests : (u v w l : Bool) → is_broadcast x.receive ≡ u → sends_it x m.description ≡ v → is_meant m.description x.receive ≡ w → m.description.legal (received_cell x) ≡ l →
        actions (own_answers (last_members x ms y) (passing (if u then 0 else 1) []) (gap_of x (last_of x ms y m)))
        ≡ (if v then [] else if w && l then (if u then [] else good_status x.bus m x.receive (received_cell x) ∷ []) else [])
    by_tests true true w l p q k r = refl
    by_tests true false true true p q k r = refl
    by_tests true false true false p q k r = refl
    by_tests true false false l p q k r = refl
    by_tests false true w l p q k r = quiet (λ j. if q j then None else if is_meant m.description x.receive then begun_if (not (is_broadcast x.receive || false)) x.bus (Some (received_cell x)) None else None)
    by_tests false false false l p q k r = quiet (λ j. if q j then None else if k j then begun_if (not (is_broadcast x.receive || false)) x.bus (Some (received_cell x)) None else None)
    by_tests false false true false p q k r =
        let no : true ≡ false = sym (refused z m.description x.receive (received_cell x) (s.legal m h q) k r).1 ∙ p in cc
    by_tests false false true true p q k r =
        let P : Description = m.description in
        let begun : reply_now (past P (Gap x.bus ∷ (last_of x ms y m).history)) ≡ Some (record { bus = x.bus; cell = Some (received_cell x); number = 0 }) =
        ap (λ (t : Shape). t.reply) (last_rests z x ms y m s h) ∙ (λ j. if q j then None else if k j then begun_if (not (p j || false)) x.bus (Some (received_cell x)) None else None) in
        actions_join (answers_in (last_members x ms y) SlotPasses (gap_of x (last_of x ms y m))) []
        ∙ (no_more _
        ∙ slot_answers (last_members x ms y) (gap_of x (last_of x ms y m)) (good_status x.bus m x.receive (received_cell x)) (last_apart x ms y s.apart) there
        (slot_out P (Gap x.bus ∷ (last_of x ms y m).history) (Some (record { bus = x.bus; cell = Some (received_cell x); number = 0 })) begun
        ∙ ap (λ parts. SendsWord (sending x.bus Com (status_word P.address parts))) (ap (λ u. kept_now P (past P (Gap x.bus ∷ (stage_with (scene x ms y) u (suc x.n) m).history))) q ∙ receiver_parts z x ms y m s h q k r p)))

-- all of it
abbrev end_events : Transfer → List BusEvent
end_events x = OnBus (Gap x.bus) ∷ passing (end_slots x) []

ends_with_these : (z : Bool) (x : Transfer) (ms : List Member) (y m : Member) → Setting z x ms y → In ms m →
    flat (actions_at_each (map (staged (scene x ms y) (suc x.n)) ms) (end_events x) (last_of x ms y m)) ≡ gap_answers x y m.description ++ end_answers x m
ends_with_these z x ms y m s h = λ j. last_says z x ms y m s h j ++ (sym (flat_law (last_members x ms y) (passing (end_slots x) []) (gap_of x (last_of x ms y m))) ∙ end_says z x ms y m s h) j

transfer_says : (z : Bool) (x : Transfer) (ms : List Member) (y m : Member) → Setting z x ms y → In ms m → actions (own_answers ms (transfer_events x) m) ≡ transfer_answers x y m
transfer_says z x ms y m s h =
    flat_law ms (transfer_events x) m
    ∙ (ap flat (λ j. [] ∷ [] ∷ actions (first_silent z x ms y m s h j ∷ []) ∷ actions_at_each (begun_all T j) (passing (suc x.n) (end_events x)) (begun_with T (sends_in T m) m j))
    ∙ (ap flat (slots_subsystem T (plays z x ms y s) m (has_in ms m h) (end_events x) (suc x.n) 0 (omega arith))
    ∙ by_role (sends_it x m.description) refl (ends_with_these z x ms y m s h)))
  where
    T : Scene
    T = scene x ms y

    by_meant : (w : Bool) → (os ps : List Out) → (let none : List Out = [] in (if w then os else none) ++ (if w then ps else none) ≡ (if w then os ++ ps else none))
    by_meant true os ps = refl
    by_meant false os ps = refl

    by_role : (u : Bool) → sends_it x m.description ≡ u →
        flat (actions_at_each (map (staged (scene x ms y) (suc x.n)) ms) (end_events x) (last_of x ms y m))
        ≡ (if u then [] else if carries_out m.description x.receive (received_cell x) then HandsOver (HandsReceived (is_broadcast x.receive) x.s (held_words y x.t 1 x.n)) ∷ [] else [])
        ++ (if u then [] else if carries_out m.description x.receive (received_cell x) then (if is_broadcast x.receive then [] else good_status x.bus m x.receive (received_cell x) ∷ []) else []) →
        flat (slots_actions (scene x ms y) u 0 (suc x.n) (actions_at_each (map (staged (scene x ms y) (suc x.n)) ms) (end_events x) (last_of x ms y m)))
        ≡ (if u then good_status x.bus m x.transmit (OwnTransmit x.t x.n) ∷ map (word_out x.bus) (held_words y x.t 1 x.n)
        else if carries_out m.description x.receive (received_cell x) then HandsOver (HandsReceived (is_broadcast x.receive) x.s (held_words y x.t 1 x.n)) ∷ (if is_broadcast x.receive then [] else good_status x.bus m x.receive (received_cell x) ∷ []) else [])
    by_role true e q =
        ap (λ os. SendsWord (word_at (scene x ms y) 0) ∷ os)
        (word_flat x ms y 0 x.n _ ∙ ((λ i. map (word_out x.bus) (held_words y x.t 1 x.n) ++ q i) ∙ no_more (map (word_out x.bus) (held_words y x.t 1 x.n))))
        ∙ ap (λ (n : Member). good_status x.bus n x.transmit (OwnTransmit x.t x.n) ∷ map (word_out x.bus) (held_words y x.t 1 x.n)) (sym (the_sender z x ms y m s h e))
    by_role false e q =
        quiet_flat (scene x ms y) 0 (suc x.n) _
        ∙ (q ∙ by_meant (carries_out m.description x.receive (received_cell x)) (HandsOver (HandsReceived (is_broadcast x.receive) x.s (held_words y x.t 1 x.n)) ∷ []) (if is_broadcast x.receive then [] else good_status x.bus m x.receive (received_cell x) ∷ []))

-- from what is said of a transfer
setting : (z : Bool) (x : Transfer) (ms : List Member) (y : Member) → AreApart ms → Each (IsClearIf z) ms → CanBeSent z (descriptions ms) x → In ms y → sends_it x y.description ≡ true → Setting z x ms y
setting z x ms y a c l h e = record {
  apart = a;
  clear = c;
  has = h;
  from = sym (eqb-true y.description.address (address_of x.transmit) e);
  commands = record { is = refl; receives = l.receives; sends = l.transmits; two = l.two };
  sends = each_in (λ (m : Member). sends_it x m.description ≡ true → m.description.legal (OwnTransmit x.t x.n) ≡ true) ms y
      (each_unmap (λ P. sends_it x P ≡ true → P.legal (OwnTransmit x.t x.n) ≡ true) (λ (m : Member). m.description) ms l.sends) h e;
  legal = λ m g. each_in (λ (m : Member). sends_it x m.description ≡ false → must_be_legal z m.description x.receive ≡ true → m.description.legal (received_cell x) ≡ true) ms m
      (each_unmap (λ P. sends_it x P ≡ false → must_be_legal z P x.receive ≡ true → P.legal (received_cell x) ≡ true) (λ (m : Member). m.description) ms l.legal) g;
}

record SenderIn (x : Transfer) (ms : List Member) : Type 0 where
  pub sender : Member
  pub has : In ms sender
  pub sends : sends_it x sender.description ≡ true

find_sender : (x : Transfer) (ms : List Member) → some (sends_it x) (descriptions ms) ≡ true → SenderIn x ms
find_sender x [] e = cc
find_sender x (m ∷ ms) e = by_test (sends_it x m.description) refl e (find_sender x ms)
  where
    by_test : (u : Bool) → sends_it x m.description ≡ u → u || some (sends_it x) (descriptions ms) ≡ true → (some (sends_it x) (descriptions ms) ≡ true → SenderIn x ms) → SenderIn x (m ∷ ms)
    by_test true q e find = record { sender = m; has = inl refl; sends = q }
    by_test false q e find = let it : SenderIn x ms = find e in record { sender = it.sender; has = inr it.has; sends = it.sends }

pub transferred : (z : Bool) (ms : List Member) (x : Transfer) → AreApart ms → CanBeSent z (descriptions ms) x → Each (IsClearIf z) ms → IsTransferred z ms x
transferred z ms x a l c =
    let it : SenderIn x ms = find_sender x ms l.sender in
    record {
      answers = λ y m hy e hm. transfer_says z x ms y m (setting z x ms y a c l (in_has ms y hy) e) (in_has ms m hm);
      clear = transfer_clear z x ms it.sender (setting z x ms it.sender a c l it.has it.sends);
    }
