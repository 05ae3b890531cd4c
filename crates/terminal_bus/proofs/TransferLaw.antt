-- A transfer delivers.
use Rattle.std.proofs.Common.{◌≡◌, ◌≢◌, ℕ, zero, suc, ◌+◌, Bool, true, false, ◌==◌, inl, inr, Option, Some, None, is_some, List, [], ◌∷◌, ◌++◌, map, refl, ap, sym, ◌∙◌, subst, arith, eq-eqb}
use Rattle.std.proofs.lemmas.Bool.{eqb-true, eqb-false, ne_eqb}
use Rattle.bus_word.specs.declared.word.Bus.{Bus}
use Rattle.bus_word.specs.declared.word.Bus.TheVariants.{A, B}
use Rattle.bus_word.specs.declared.cell.Cell.TheVariants.{OwnReceive, OwnTransmit}
use Rattle.bus_word.specs.Word.{valid_word}
use Rattle.bus_word.specs.Command.{address_of}
use Rattle.bus_word.proofs.WordLaws.{status_has_bits}
use Rattle.bus_legal.specs.Description.{Description}
use Rattle.terminal_rules.specs.declared.event.Event.{Event}
use Rattle.terminal_rules.specs.declared.event.Event.TheVariants.{Word, Noise, Gap, Slot}
use Rattle.terminal_rules.specs.LookBack.{some}
use Rattle.terminal_rules.specs.History.{Entry, Replying, run}
use Rattle.terminal_rules.specs.Open.{Open, Idle, first_message, awaited_of, is_latest, before_gap, open_of, open_now}
use Rattle.terminal_rules.specs.Reply.{reply_now}
use Rattle.terminal_rules.specs.Starts.{is_word_for, heard_now}
use Rattle.terminal_rules.specs.Status.{formed_done}
use Rattle.terminal_rules.specs.Past.{open_at}
use Rattle.terminal_rules.specs.Out.{Out, Silence, SendsWord, HandsOver, HandsReceived, Sending, out, outs_from}
use Rattle.terminal_bus.specs.declared.event.BusEvent.{BusEvent}
use Rattle.terminal_bus.specs.declared.event.BusEvent.TheVariants.{OnBus, SlotPasses}
use Rattle.terminal_bus.specs.Members.{Member, heard_of, sendings, sent_on, unless_sends, heard_on, after_events, bus_after}
use Rattle.terminal_bus.specs.Discipline.{replies}
use Rattle.terminal_bus.specs.Lists.{EachTwo}
use Rattle.terminal_bus.specs.Transfer.{Has, noted_of, is_waiting, passing, transfer_between, actions, held_words, status_out, word_out, CanTransfer, TransferLaw, actions_at_each, nothing_then, each_then}
use Rattle.terminal_bus.proofs.Pairs.{each_of}
use Rattle.terminal_bus.proofs.Cells.{receives_law, transmits_law}
use Rattle.terminal_bus.proofs.Local.{At}
use Rattle.terminal_bus.proofs.Walk.{asked, gapped, sent_at, slots_hist, heard_hist, status_of, held_of, words_to, SendReady, send_out, send_gap, send_over, ReceiveReady, receive_slots, receive_gap, receive_out, receive_status, OtherReady, other_gap, other_slots, idle_gap, silent_slot}
use Rattle.terminal_bus.proofs.Fair.{fair_law}
use Rattle.terminal_bus.proofs.Deliver.{Apart, Scene, stage_with, staged, sends_in, RoleAs, Plays, slots_subsystem, begun_with, begun_all, slots_actions}

-- two of one address are one
same_apart : (ms : List Member) (m n : Member) → EachTwo Apart ms → Has ms m → Has ms n → m.description.address ≡ n.description.address → m ≡ n
same_apart [] m n two h k e = absurd h
same_apart (x ∷ xs) m n two h k e = elim h [
  | inl p ↦ elim k [
    | inl q ↦ sym p ∙ q
    | inr q ↦ absurd (each_of (Apart x) xs n two.0 q (ap (λ (m : Member). m.description.address) p ∙ e))
  ]
  | inr p ↦ elim k [
    | inl q ↦ absurd (each_of (Apart x) xs m two.0 p (ap (λ (m : Member). m.description.address) q ∙ sym e))
    | inr q ↦ same_apart xs m n two.1 p q e
  ]
]

abbrev rest : Scene → List BusEvent
rest T = OnBus (Gap T.bus) ∷ SlotPasses ∷ []

begin_subsystem : (T : Scene) (m : Member) → out m.description (asked T.bus T.c T.d m.history) (Gap T.bus) ≡ Silence →
    actions_at_each T.members (transfer_between T.bus T.c T.d T.n) m ≡ nothing_then 3 (actions_at_each (map (staged T 0) T.members) (passing (suc T.n) (rest T)) (staged T 0 m))
begin_subsystem T m e =
    (λ j. [] ∷ [] ∷ actions (e j ∷ []) ∷ actions_at_each (begun_all T j) (passing (suc T.n) (rest T)) (begun_with T (sends_in T m) m j))

-- the end
quiet_on : (P : Description) (b : Bus) (o : Option Sending) (xs : List Sending) (es h : List Event) → ((g : List Event) → (let none : List Out = [] in actions (outs_from P g es) ≡ none)) →
    (let none : List Out = [] in actions (outs_from P h (unless_sends o (heard_of b xs) ++ es)) ≡ none)
quiet_on P b (Some x) xs es h q = q h
quiet_on P b None [] es h q = q h
quiet_on P b None (x ∷ []) es h q = q (Word b (valid_word x.kind x.bits) ∷ h)
quiet_on P b None (x ∷ y ∷ more) es h q = q (Noise b ∷ h)

quiet_last : (P : Description) (b : Bus) (o : Option Sending) (xs : List Sending) (h : List Event) → (let none : List Out = [] in actions (outs_from P h (unless_sends o (heard_of b xs))) ≡ none)
quiet_last P b (Some x) xs h = refl
quiet_last P b None [] h = refl
quiet_last P b None (x ∷ []) h = refl
quiet_last P b None (x ∷ y ∷ more) h = refl

-- what is heard in a slot isn't answered
actions_first : (o : Out) (os : List Out) → (let none : List Out = [] in actions os ≡ none) → actions (o ∷ os) ≡ actions (o ∷ [])
actions_first Silence os e = e
actions_first (SendsWord x) os e = λ j. SendsWord x ∷ e j
actions_first (HandsOver x) os e = λ j. HandsOver x ∷ e j

abbrev after_gap : Bus → List Member → List Member
after_gap b ms = bus_after ms (OnBus (Gap b))

end_subsystem : (b : Bus) (ms : List Member) (m : Member) →
    actions_at_each ms (OnBus (Gap b) ∷ SlotPasses ∷ []) m ≡ actions (out m.description m.history (Gap b) ∷ []) ∷ actions (out m.description (Gap b ∷ m.history) Slot ∷ []) ∷ []
end_subsystem b ms m =
    let n : Member = after_events (Gap b ∷ []) m in
    let heard : List Event = heard_on A (after_gap b ms) n ++ heard_on B (after_gap b ms) n in
    let os : List Out = outs_from m.description (Slot ∷ n.history) heard in
    let quiet : (let none : List Out = [] in actions os ≡ none) =
    quiet_on m.description A (sent_on A n) (sendings A (after_gap b ms)) (heard_on B (after_gap b ms) n) (Slot ∷ n.history) (λ g. quiet_last m.description B (sent_on B n) (sendings B (after_gap b ms)) g) in
    ap (λ zs. actions (out m.description m.history (Gap b) ∷ []) ∷ zs ∷ []) (actions_first (out m.description n.history Slot) os quiet)

whole_subsystem : (T : Scene) (p : Plays T) (m : Member) → Has T.members m → out m.description (asked T.bus T.c T.d m.history) (Gap T.bus) ≡ Silence →
    actions_at_each T.members (transfer_between T.bus T.c T.d T.n) m
    ≡ nothing_then 3 (slots_actions T (sends_in T m) 0 (suc T.n) (actions (out m.description (staged T (suc T.n) m).history (Gap T.bus) ∷ []) ∷ actions (out m.description (Gap T.bus ∷ (staged T (suc T.n) m).history) Slot ∷ []) ∷ []))
whole_subsystem T p m h e =
    begin_subsystem T m e
    ∙ (ap (nothing_then 3) (slots_subsystem T p m h (rest T) (suc T.n) 0 (omega arith))
    ∙ ap (λ zs. nothing_then 3 (slots_actions T (sends_in T m) 0 (suc T.n) zs)) (end_subsystem T.bus (map (staged T (suc T.n)) T.members) (staged T (suc T.n) m)))

-- what the premises give
no_reply : (r : Option Replying) → is_some r ≡ false → (let none : Option Replying = None in r ≡ none)
no_reply None e = refl
no_reply (Some r) e = cc

idle_of : (l : Bool) (t : Option (ℕ × ℕ)) → (let r : List Entry = [] in is_waiting (open_of r (first_message l r) t) ≡ false) → (let r : List Entry = [] in open_of r (first_message l r) t ≡ Idle)
idle_of true None e = refl
idle_of false None e = refl
idle_of true (Some t) e = cc
idle_of false (Some t) e = cc

idle_at : (m : Member) (b : Bus) → (let none : List Entry = [] in run (noted_of m) b ≡ none) → is_waiting (open_at m.description m.history b) ≡ false → replies m ≡ false → At m.description m.history b Idle None
idle_at m b e w r =
    let l : Bool = is_latest (noted_of m) b in
    let t : Option (ℕ × ℕ) = awaited_of m.description b l (before_gap (noted_of m) b) in
    let is : (let none : List Entry = [] in open_now m.description (noted_of m) b ≡ open_of none (first_message l none) t) = ap (λ r. open_of r (first_message l r) t) e in
    record { message = is ∙ idle_of l t (sym (ap is_waiting is) ∙ w); reply = no_reply (reply_now (noted_of m)) r }

unheard_at : (m : Member) (b : Bus) → (let none : List Entry = [] in run (noted_of m) b ≡ none) → heard_now m.description (noted_of m) b ≡ false
unheard_at m b e = ap (λ r. some (λ x. is_word_for m.description x.word) r) e

send_ready : (ms : List Member) (x y : Member) (b : Bus) (c d s t n : ℕ) → CanTransfer ms x y b c d s t n → SendReady y.description y.history b c d t n
send_ready ms x y b c d s t n p = record {
  idle = idle_at y b p.run_y (each_of (λ m. is_waiting (open_at m.description m.history b) ≡ false) ms y p.waiting p.has_y) (each_of (λ m. replies m ≡ false) ms y p.quiet p.has_y);
  unheard = unheard_at y b p.run_y;
  c_other = λ e. p.two (sym p.to_x ∙ e);
  c_own = (receives_law c s n p.receives).own;
  to = p.to_y;
  cell = p.transmits;
  legal = p.legal_y;
  free = p.free_y;
  on = p.on_y;
}

receive_ready : (ms : List Member) (x y : Member) (b : Bus) (c d s t n : ℕ) → CanTransfer ms x y b c d s t n → ReceiveReady x.description x.history b c d s n
receive_ready ms x y b c d s t n p = record {
  idle = idle_at x b p.run_x (each_of (λ m. is_waiting (open_at m.description m.history b) ≡ false) ms x p.waiting p.has_x) (each_of (λ m. replies m ≡ false) ms x p.quiet p.has_x);
  unheard = unheard_at x b p.run_x;
  to = p.to_x;
  d_other = λ e. p.two (sym e ∙ p.to_y);
  d_own = (transmits_law d t n p.transmits).own;
  d_transmits = (transmits_law d t n p.transmits).transmit;
  cell = p.receives;
  legal = p.legal_x;
  free = p.free_x;
  on = p.on_x;
}

other_ready : (ms : List Member) (x y z : Member) (b : Bus) (c d s t n : ℕ) → CanTransfer ms x y b c d s t n → Has ms z → z.description.address ≢ x.description.address → z.description.address ≢ y.description.address →
    OtherReady z.description z.history b c d (open_at z.description z.history b)
other_ready ms x y z b c d s t n p h zx zy = record {
  at = record { message = refl; reply = no_reply (reply_now (noted_of z)) (each_of (λ m. replies m ≡ false) ms z p.quiet h) };
  waiting = each_of (λ m. is_waiting (open_at m.description m.history b) ≡ false) ms z p.waiting h;
  c_other = λ e. zx (sym e ∙ p.to_x);
  c_own = (receives_law c s n p.receives).own;
  d_other = λ e. zy (sym e ∙ p.to_y);
  d_own = (transmits_law d t n p.transmits).own;
}

abbrev scene : List Member → Member → Bus → ℕ → ℕ → ℕ → ℕ → Scene
scene ms y b c d t n = record {
  members = ms;
  bus = b;
  c = c;
  d = d;
  a = y.description.address;
  n = n;
  status = status_of y.description y.history d (OwnTransmit t n);
  words = held_of y.description y.history t;
}

status_from : (ms : List Member) (x y : Member) (b : Bus) (c d s t n : ℕ) → CanTransfer ms x y b c d s t n → address_of (status_of y.description y.history d (OwnTransmit t n)) ≡ address_of d
status_from ms x y b c d s t n p = (status_has_bits y.description.address (formed_done y.description (noted_of y) d (OwnTransmit t n))).address_field ∙ sym p.to_y

plays : (ms : List Member) (x y : Member) (b : Bus) (c d s t n : ℕ) → CanTransfer ms x y b c d s t n → Plays (scene ms y b c d t n)
plays ms x y b c d s t n p = record { apart = p.apart; sender = y; has = p.has_y; is = refl; roles = λ m h. by_sends m h (m.description.address == y.description.address) refl }
  where
    by_receives : (m : Member) → Has ms m → m.description.address ≢ y.description.address → (u : Bool) → (m.description.address == x.description.address) ≡ u → RoleAs (scene ms y b c d t n) false m
    by_receives m h my true e =
        let is : x ≡ m = same_apart ms x m p.apart p.has_x h (sym (eqb-true m.description.address x.description.address e)) in
        subst (λ (m : Member). RoleAs (scene ms y b c d t n) false m) is
        (λ k. silent_slot x.description _ b _ (receive_slots x.description x.history b c d s n (status_of y.description y.history d (OwnTransmit t n)) (held_of y.description y.history t) (receive_ready ms x y b c d s t n p) (status_from ms x y b c d s t n p) k))
    by_receives m h my false e =
        λ k. silent_slot m.description _ b Idle (other_slots m.description m.history b c d (open_at m.description m.history b) (status_of y.description y.history d (OwnTransmit t n)) (held_of y.description y.history t) (other_ready ms x y m b c d s t n p h (eqb-false m.description.address x.description.address e) my) (status_from ms x y b c d s t n p) k)

    by_sends : (m : Member) → Has ms m → (u : Bool) → (m.description.address == y.description.address) ≡ u → RoleAs (scene ms y b c d t n) u m
    by_sends m h true e =
        let is : y ≡ m = same_apart ms y m p.apart p.has_y h (sym (eqb-true m.description.address y.description.address e)) in
        subst (λ (m : Member). RoleAs (scene ms y b c d t n) true m) is (λ k low. send_out y.description y.history b c d t n (send_ready ms x y b c d s t n p) k low)
    by_sends m h false e = by_receives m h (eqb-false m.description.address y.description.address e) (m.description.address == x.description.address) refl

-- the words
snoc : (m : Member) (t i n : ℕ) → held_words m t i (suc n) ≡ held_words m t i n ++ held_of m.description m.history t (i + n) ∷ []
snoc m t i zero = let e : i ≡ i + 0 = omega arith in ap (λ k. held_of m.description m.history t k ∷ []) e
snoc m t i (suc n) =
    let e : suc i + n ≡ i + suc n = omega arith in
    ap (λ vs. held_of m.description m.history t i ∷ vs) (snoc m t (suc i) n ∙ ap (λ k. held_words m t (suc i) n ++ held_of m.description m.history t k ∷ []) e)

words_are : (m : Member) (t n : ℕ) → words_to (held_of m.description m.history t) n ≡ held_words m t 1 n
words_are m t zero = refl
words_are m t (suc n) =
    let e : 1 + n ≡ suc n = omega arith in
    ap (λ vs. vs ++ held_of m.description m.history t (suc n) ∷ []) (words_are m t n)
    ∙ (ap (λ k. held_words m t 1 n ++ held_of m.description m.history t k ∷ []) (sym e) ∙ sym (snoc m t 1 n))

actions_words : (ms : List Member) (y : Member) (b : Bus) (c d t m k n : ℕ) (acts : List (List Out)) → slots_actions (scene ms y b c d t m) true (suc k) n acts ≡ each_then (map (word_out b) (held_words y t (suc k) n)) acts
actions_words ms y b c d t m k zero acts = refl
actions_words ms y b c d t m k (suc n) acts = ap (λ os. (word_out b (held_of y.description y.history t (suc k)) ∷ []) ∷ os) (actions_words ms y b c d t m (suc k) n acts)

actions_nothing : (T : Scene) (k n : ℕ) (acts : List (List Out)) → slots_actions T false k n acts ≡ nothing_then n acts
actions_nothing T k zero acts = refl
actions_nothing T k (suc n) acts = ap (λ os. [] ∷ os) (actions_nothing T (suc k) n acts)

-- by role
role_subsystem : (T : Scene) (p : Plays T) (m : Member) (t : Bool) → Has T.members m → out m.description (asked T.bus T.c T.d m.history) (Gap T.bus) ≡ Silence → sends_in T m ≡ t →
    actions_at_each T.members (transfer_between T.bus T.c T.d T.n) m
    ≡ nothing_then 3 (slots_actions T t 0 (suc T.n) (actions (out m.description (stage_with T t (suc T.n) m).history (Gap T.bus) ∷ []) ∷ actions (out m.description (Gap T.bus ∷ (stage_with T t (suc T.n) m).history) Slot ∷ []) ∷ []))
role_subsystem T p m t h e q =
    whole_subsystem T p m h e
    ∙ ap (λ t. nothing_then 3 (slots_actions T t 0 (suc T.n) (actions (out m.description (stage_with T t (suc T.n) m).history (Gap T.bus) ∷ []) ∷ actions (out m.description (Gap T.bus ∷ (stage_with T t (suc T.n) m).history) Slot ∷ []) ∷ []))) q

sender_subsystem : (ms : List Member) (x y : Member) (b : Bus) (c d s t n : ℕ) → CanTransfer ms x y b c d s t n →
    actions_at_each ms (transfer_between b c d n) y ≡ nothing_then 3 (each_then (status_out b y d (OwnTransmit t n) ∷ map (word_out b) (held_words y t 1 n)) (nothing_then 2 []))
sender_subsystem ms x y b c d s t n p =
    let r : SendReady y.description y.history b c d t n = send_ready ms x y b c d s t n p in
    let g : List Event = slots_hist (suc n) (gapped b c d y.history) in
    let over : At y.description g b Idle None = send_over y.description y.history b c d t n r in
    let gap = idle_gap y.description g b over in
    role_subsystem (scene ms y b c d t n) (plays ms x y b c d s t n p) y true p.has_y (send_gap y.description y.history b c d t n r) (eq-eqb y.description.address y.description.address refl)
    ∙ ((λ j. nothing_then 3 (slots_actions (scene ms y b c d t n) true 0 (suc n) (actions (gap.0 j ∷ []) ∷ actions (silent_slot y.description (Gap b ∷ g) b Idle gap.1 j ∷ []) ∷ [])))
    ∙ ap (λ os. nothing_then 3 ((status_out b y d (OwnTransmit t n) ∷ []) ∷ os)) (actions_words ms y b c d t n 0 n (nothing_then 2 [])))

receiver_subsystem : (ms : List Member) (x y : Member) (b : Bus) (c d s t n : ℕ) → CanTransfer ms x y b c d s t n →
    actions_at_each ms (transfer_between b c d n) x ≡ nothing_then 3 (nothing_then (suc n) (each_then (HandsOver (HandsReceived false s (held_words y t 1 n)) ∷ status_out b x c (OwnReceive s n) ∷ []) []))
receiver_subsystem ms x y b c d s t n p =
    let r : ReceiveReady x.description x.history b c d s n = receive_ready ms x y b c d s t n p in
    let st : ℕ = status_of y.description y.history d (OwnTransmit t n) in
    let v : ℕ → ℕ = held_of y.description y.history t in
    let from = status_from ms x y b c d s t n p in
    role_subsystem (scene ms y b c d t n) (plays ms x y b c d s t n p) x false p.has_x (receive_gap x.description x.history b c d s n r) (ne_eqb x.description.address y.description.address p.two)
    ∙ ((λ j. nothing_then 3 (slots_actions (scene ms y b c d t n) false 0 (suc n) (actions (receive_out x.description x.history b c d s n st v r from j ∷ []) ∷ actions (receive_status x.description x.history b c d s n st v r from j ∷ []) ∷ [])))
    ∙ (ap (nothing_then 3) (actions_nothing (scene ms y b c d t n) 0 (suc n) _)
    ∙ ap (λ ws. nothing_then 3 (nothing_then (suc n) (each_then (HandsOver (HandsReceived false s ws) ∷ status_out b x c (OwnReceive s n) ∷ []) []))) (words_are y t n)))

other_subsystem : (ms : List Member) (x y : Member) (b : Bus) (c d s t n : ℕ) → CanTransfer ms x y b c d s t n → (z : Member) → Has ms z → z.description.address ≢ x.description.address → z.description.address ≢ y.description.address →
    actions_at_each ms (transfer_between b c d n) z ≡ nothing_then 3 (nothing_then (suc n) (nothing_then 2 []))
other_subsystem ms x y b c d s t n p z h zx zy =
    let o : Open = open_at z.description z.history b in
    let r : OtherReady z.description z.history b c d o = other_ready ms x y z b c d s t n p h zx zy in
    let st : ℕ = status_of y.description y.history d (OwnTransmit t n) in
    let v : ℕ → ℕ = held_of y.description y.history t in
    let g : List Event = heard_hist b (sent_at b st v) (suc n) (gapped b c d z.history) in
    let gap = idle_gap z.description g b (other_slots z.description z.history b c d o st v r (status_from ms x y b c d s t n p) (suc n)) in
    role_subsystem (scene ms y b c d t n) (plays ms x y b c d s t n p) z false h (other_gap z.description z.history b c d o r).0 (ne_eqb z.description.address y.description.address zy)
    ∙ ((λ j. nothing_then 3 (slots_actions (scene ms y b c d t n) false 0 (suc n) (actions (gap.0 j ∷ []) ∷ actions (silent_slot z.description (Gap b ∷ g) b Idle gap.1 j ∷ []) ∷ [])))
    ∙ ap (nothing_then 3) (actions_nothing (scene ms y b c d t n) 0 (suc n) _))

-- it keeps to the discipline
over_subsystem : (ms : List Member) (x y : Member) (b : Bus) (c d s t n : ℕ) → CanTransfer ms x y b c d s t n → (m : Member) → Has ms m → replies (staged (scene ms y b c d t n) (suc n) m) ≡ false
over_subsystem ms x y b c d s t n p m h = by_sends (m.description.address == y.description.address) refl
  where
    by_receives : (u : Bool) → m.description.address ≢ y.description.address → (m.description.address == x.description.address) ≡ u → replies (stage_with (scene ms y b c d t n) false (suc n) m) ≡ false
    by_receives true my e =
        let is : x ≡ m = same_apart ms x m p.apart p.has_x h (sym (eqb-true m.description.address x.description.address e)) in
        subst (λ (m : Member). replies (stage_with (scene ms y b c d t n) false (suc n) m) ≡ false) is
        (ap is_some (receive_slots x.description x.history b c d s n (status_of y.description y.history d (OwnTransmit t n)) (held_of y.description y.history t) (receive_ready ms x y b c d s t n p) (status_from ms x y b c d s t n p) (suc n)).reply)
    by_receives false my e =
        ap is_some (other_slots m.description m.history b c d (open_at m.description m.history b) (status_of y.description y.history d (OwnTransmit t n)) (held_of y.description y.history t) (other_ready ms x y m b c d s t n p h (eqb-false m.description.address x.description.address e) my) (status_from ms x y b c d s t n p) (suc n)).reply

    by_sends : (u : Bool) → (m.description.address == y.description.address) ≡ u → replies (stage_with (scene ms y b c d t n) u (suc n) m) ≡ false
    by_sends true e =
        let is : y ≡ m = same_apart ms y m p.apart p.has_y h (sym (eqb-true m.description.address y.description.address e)) in
        subst (λ (m : Member). replies (stage_with (scene ms y b c d t n) true (suc n) m) ≡ false) is (ap is_some (send_over y.description y.history b c d t n (send_ready ms x y b c d s t n p)).reply)
    by_sends false e = by_receives (m.description.address == x.description.address) (eqb-false m.description.address y.description.address e) refl

pub transfer_law : TransferLaw
transfer_law ms x y b c d s t n p = record {
  sender = sender_subsystem ms x y b c d s t n p;
  receiver = receiver_subsystem ms x y b c d s t n p;
  others = other_subsystem ms x y b c d s t n p;
  fair = fair_law (scene ms y b c d t n) (plays ms x y b c d s t n p) (λ m h. record { silent = each_of (λ m. replies m ≡ false) ms m p.quiet h; waiting = each_of (λ m. is_waiting (open_at m.description m.history b) ≡ false) ms m p.waiting h }) (over_subsystem ms x y b c d s t n p);
  no_error_x = refl;
  no_error_y = refl;
}
