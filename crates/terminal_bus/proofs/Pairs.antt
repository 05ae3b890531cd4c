-- Of two terminals on a bus under the discipline, at most one replies: what holds of each two, and stays so.
use Rattle.std.proofs.Common.{◌≡◌, ◌≢◌, ℕ, Bool, true, false, not, ◌&&◌, ◌||◌, ◌==◌, if◌then◌else◌, inl, inr, Option, Some, None, List, [], ◌∷◌, map, refl, ap, sym, ◌∙◌, subst}
use Rattle.std.proofs.Common.{eq-eqb}
use Rattle.bus_word.specs.declared.word.Bus.{Bus}
use Rattle.bus_word.specs.declared.word.Bus.TheVariants.{A, B}
use Rattle.bus_word.specs.declared.word.Raw.{Raw}
use Rattle.bus_word.specs.Word.{valid_word}
use Rattle.bus_word.specs.Command.{address_of, is_broadcast}
use Rattle.bus_legal.specs.Description.{Description}
use Rattle.terminal_rules.specs.declared.event.Event.{Event}
use Rattle.terminal_rules.specs.declared.event.Event.TheVariants.{Word, Noise, Gap, Write, Vector, Bit, Flag as FlagIs, Slot}
use Rattle.terminal_rules.specs.LookBack.{some, keep}
use Rattle.terminal_rules.specs.Open.{Open, Idle, Collects, Waits, Resumes, transfer}
use Rattle.terminal_rules.specs.Ends.{data_words}
use Rattle.terminal_rules.specs.Past.{open_at}
use Rattle.terminal_rules.specs.Out.{Sending}
use Rattle.terminal_bus.specs.declared.event.BusEvent.{BusEvent}
use Rattle.terminal_bus.specs.declared.event.BusEvent.TheVariants.{OnBus, SlotPasses, Subsystem}
use Rattle.terminal_bus.specs.Members.{Member, sent_on, sendings, heard_on, events_for, after_events, bus_after, play, member_of, powered_up}
use Rattle.terminal_bus.specs.Discipline.{replies, awaits_address, awaits, has_address, may_put, comes_from_subsystem, may_happen, is_disciplined}
use Rattle.terminal_bus.specs.Lists.{Each, EachTwo}
use Rattle.terminal_bus.specs.OneSpeaker.{AddressesDiffer}
use Rattle.terminal_bus.specs.Transfer.{Has}
use Rattle.terminal_bus.proofs.Standing.{Standing, Clear, Ready, Asks, Awaits, ready_if, asks_if, standing_of, standing, and_left, and_right, word_moves, word_off, noise_keeps, gap_moves, gap_off, subsystem_stays}
use Rattle.terminal_bus.proofs.Fits.{Fits, Clash, NoClash, fits_word, fits_gap, fits_keeps, fits_sent, fits_left, fits_right}
use Rattle.terminal_bus.proofs.Replies.{replies_at, word_replies, noise_replies, subsystem_replies, gap_replies}
use Rattle.terminal_bus.proofs.Sent.{IsFrom, sender, after_both, after_slot, slot_on_a, slot_on_b, slot_quiet}

abbrev pub stand : Member → Bus → Standing
stand m b = standing m.description m.history b

pub record Pair (m n : Member) : Type 0 where
  pub apart : m.description.address ≢ n.description.address
  pub fits : (b : Bus) → Fits (stand m b) (stand n b)
  pub quiet : replies m ≡ true → replies n ≡ true → ⊥

-- membership
pub each_of : (P : Member → Type 0) (ms : List Member) (n : Member) → Each P ms → Has ms n → P n
each_of P [] n e h = absurd h
each_of P (m ∷ ms) n e h = elim h [ inl q ↦ subst P q e.0 | inr q ↦ each_of P ms n e.1 q ]

-- two of one address are one
same_member : (ms : List Member) (m n : Member) → EachTwo Pair ms → Has ms m → Has ms n → m.description.address ≡ n.description.address → m ≡ n
same_member [] m n two h k e = absurd h
same_member (x ∷ xs) m n two h k e = elim h [
  | inl p ↦ elim k [
    | inl q ↦ sym p ∙ q
    | inr q ↦ absurd ((each_of (Pair x) xs n two.0 q).apart (ap (λ (m : Member). m.description.address) p ∙ e))
  ]
  | inr p ↦ elim k [
    | inl q ↦ absurd ((each_of (Pair x) xs m two.0 p).apart (ap (λ (m : Member). m.description.address) q ∙ sym e))
    | inr q ↦ same_member xs m n two.1 p q e
  ]
]

-- what comes to all changes each two
each_map : (f : Member → Member) (P Q : Member → Type 0) (ms : List Member) → Each P ms → ((n : Member) → Has ms n → P n → Q (f n)) → Each Q (map f ms)
each_map f P Q [] e g = tt
each_map f P Q (m ∷ ms) e g = (g m (inl refl) e.0, each_map f P Q ms e.1 (λ n h p. g n (inr h) p))

two_map : (f : Member → Member) (R S : Member → Member → Type 0) (ms : List Member) → EachTwo R ms → ((m n : Member) → Has ms m → Has ms n → R m n → S (f m) (f n)) → EachTwo S (map f ms)
two_map f R S [] e g = tt
two_map f R S (m ∷ ms) e g =
    (each_map f (R m) (S (f m)) ms e.0 (λ n h r. g m n (inl refl) (inr h) r), two_map f R S ms e.1 (λ a b h k r. g a b (inr h) (inr k) r))

-- who is kept
kept_has : (f : Member → Option Sending) (ms : List Member) (x : Sending) (xs : List Sending) → keep f ms ≡ x ∷ xs → (m : Member) × Has ms m × (f m ≡ Some x)
kept_has f [] x xs e = cc
kept_has f (m ∷ ms) x xs e = by_answer (f m) refl e (λ q. kept_has f ms x xs q)
  where
    by_answer : (o : Option Sending) → f m ≡ o → (elim o as (λ o. List Sending) [ None ↦ keep f ms | Some y ↦ y ∷ keep f ms ]) ≡ x ∷ xs →
        (keep f ms ≡ x ∷ xs → (n : Member) × Has ms n × (f n ≡ Some x)) → (n : Member) × Has (m ∷ ms) n × (f n ≡ Some x)
    by_answer None q e rest = let r : (n : Member) × Has ms n × (f n ≡ Some x) = rest e in (r.0, inr r.1, r.2)
    by_answer (Some y) q e rest = let is : y ≡ x = cc in (m, inl refl, q ∙ ap (λ y. Some y) is)

some_has : (p : Member → Bool) (ms : List Member) (m : Member) → Has ms m → p m ≡ true → some p ms ≡ true
some_has p [] m h e = absurd h
some_has p (x ∷ xs) m h e = elim h [
  | inl q ↦ ap (λ t. t || some p xs) (ap p q ∙ e)
  | inr q ↦ ap (λ t. p x || t) (some_has p xs m q e) ∙ or_true (p x)
]
  where
    or_true : (t : Bool) → t || true ≡ true
    or_true true = refl
    or_true false = refl

-- the address that is awaited
not_broad : (broad : Bool) (d a : ℕ) → (if broad then Clear else Awaits d) ≡ Awaits a → (d ≡ a) × (broad ≡ false)
not_broad true d a e = cc
not_broad false d a e = ((let is : d ≡ a = cc in is), refl)

never_awaits : (broad : Bool) (m : Option (List ℕ)) (t : Option (ℕ × ℕ)) (a : ℕ) → (if broad then Clear else ready_if m (asks_if t)) ≡ Awaits a → ⊥
never_awaits true m t a e = cc
never_awaits false None None a e = cc
never_awaits false None (Some t) a e = cc
never_awaits false (Some ds) t a e = cc

standing_awaits : (P : Description) (o : Open) (a : ℕ) → standing_of P o ≡ Awaits a → awaits_address a o ≡ true
standing_awaits P Idle a e = cc
standing_awaits P (Collects c after) a e = absurd (never_awaits (is_broadcast c) (data_words after) (transfer P (Some (c, after))) a e)
standing_awaits P (Waits c d) a e =
    let is : (d ≡ a) × (is_broadcast c ≡ false) = not_broad (is_broadcast c) d a e in
    (λ j. (eq-eqb d a is.0) j && not (is.1 j))
standing_awaits P (Resumes c after) a e = absurd (never_awaits (is_broadcast c) (data_words after) None a e)

-- what the controller puts doesn't clash
no_clash : (ms : List Member) (b : Bus) (w : Raw) (m n : Member) → may_put ms (Word b w) ≡ true → Has ms m → Has ms n → Clash m.description.address w (stand n b) → ⊥
no_clash ms b w m n may h k = at (stand n b) refl
  where
    at : (t : Standing) → stand n b ≡ t → Clash m.description.address w t → ⊥
    at Clear e c = c
    at Ready e c = c
    at Asks e c = c
    at (Awaits a) e c =
        let to : address_of w.bits ≡ a = c.1.1 in
        let has : some (has_address (address_of w.bits)) ms ≡ true =
        some_has (has_address (address_of w.bits)) ms m h (eq-eqb m.description.address (address_of w.bits) (sym c.0.1)) in
        let waits : some (awaits b (address_of w.bits)) ms ≡ true =
        some_has (awaits b (address_of w.bits)) ms n k (standing_awaits n.description (open_at n.description n.history b) (address_of w.bits) (e ∙ ap Awaits (sym to))) in
        let no : not (true && (true && true)) ≡ true = sym (λ j. not (c.0.0 j && (has j && waits j))) ∙ may in
        cc

-- the word that one terminal sends clashes with no other
sent_no_clash : (ms : List Member) (b : Bus) (m : Member) (t : Standing) → EachTwo Pair ms → Has ms m → (let none : Option Sending = None in sent_on b m ≡ none) → NoClash m.description.address (sendings b ms) t
sent_no_clash ms b m t two h n = at (sendings b ms) refl
  where
    clash : (x : Sending) → sendings b ms ≡ x ∷ [] → (t : Standing) → Clash m.description.address (valid_word x.kind x.bits) t → ⊥
    clash x e Clear c = c
    clash x e Ready c = c
    clash x e Asks c = c
    clash x e (Awaits a) c =
        let r : (r : Member) × Has ms r × (sent_on b r ≡ Some x) = kept_has (sent_on b) ms x [] e in
        let from : IsFrom r.0.description.address x = (sender r.0 b x r.2).1 in
        let same : r.0 ≡ m = same_member ms r.0 m two r.1 h (sym (from c.0.0) ∙ c.0.1) in
        let no : Some x ≡ None = sym r.2 ∙ (ap (sent_on b) same ∙ n) in
        cc

    at : (xs : List Sending) → sendings b ms ≡ xs → NoClash m.description.address xs t
    at [] e = tt
    at (x ∷ []) e = clash x e t
    at (x ∷ y ∷ more) e = tt

-- after a slot
abbrev slot_history : List Member → Member → List Event
slot_history ms m = after_slot (sendings A ms) (sendings B ms) (sent_on A m) (sent_on B m) m.history

slot_is : (ms : List Member) (m : Member) → (after_events (events_for ms SlotPasses m) m).history ≡ slot_history ms m
slot_is ms m = after_both (heard_on A ms m) (heard_on B ms m) (Slot ∷ m.history)

fits_slot : (ms : List Member) (m n : Member) (b : Bus) → EachTwo Pair ms → Has ms m → Has ms n → Pair m n →
    Fits (standing m.description (slot_history ms m) b) (standing n.description (slot_history ms n) b)
fits_slot ms m n A two h k p = by_sent (sent_on A m) (sent_on A n) refl refl
  where
    by_sent : (o q : Option Sending) → sent_on A m ≡ o → sent_on A n ≡ q → Fits (standing m.description (slot_history ms m) A) (standing n.description (slot_history ms n) A)
    by_sent (Some x) q e f = fits_left _ _ ((slot_on_a m.description m.history (sendings A ms) (sendings B ms) (sent_on A m) (sent_on B m) (λ y g. (sender m A y g).0)).1 x e)
    by_sent None (Some x) e f = fits_right _ _ ((slot_on_a n.description n.history (sendings A ms) (sendings B ms) (sent_on A n) (sent_on B n) (λ y g. (sender n A y g).0)).1 x f)
    by_sent None None e f =
        fits_sent m.description.address n.description.address (sendings A ms) (stand m A) (stand n A) _ _ p.apart (sent_no_clash ms A m (stand n A) two h e) (sent_no_clash ms A n (stand m A) two k f) (p.fits A)
        (slot_on_a m.description m.history (sendings A ms) (sendings B ms) (sent_on A m) (sent_on B m) (λ y g. (sender m A y g).0)).0
        (slot_on_a n.description n.history (sendings A ms) (sendings B ms) (sent_on A n) (sent_on B n) (λ y g. (sender n A y g).0)).0
fits_slot ms m n B two h k p = by_sent (sent_on B m) (sent_on B n) refl refl
  where
    by_sent : (o q : Option Sending) → sent_on B m ≡ o → sent_on B n ≡ q → Fits (standing m.description (slot_history ms m) B) (standing n.description (slot_history ms n) B)
    by_sent (Some x) q e f = fits_left _ _ ((slot_on_b m.description m.history (sendings A ms) (sendings B ms) (sent_on A m) (sent_on B m) (λ y g. (sender m B y g).0)).1 x e)
    by_sent None (Some x) e f = fits_right _ _ ((slot_on_b n.description n.history (sendings A ms) (sendings B ms) (sent_on A n) (sent_on B n) (λ y g. (sender n B y g).0)).1 x f)
    by_sent None None e f =
        fits_sent m.description.address n.description.address (sendings B ms) (stand m B) (stand n B) _ _ p.apart (sent_no_clash ms B m (stand n B) two h e) (sent_no_clash ms B n (stand m B) two k f) (p.fits B)
        (slot_on_b m.description m.history (sendings A ms) (sendings B ms) (sent_on A m) (sent_on B m) (λ y g. (sender m B y g).0)).0
        (slot_on_b n.description n.history (sendings A ms) (sendings B ms) (sent_on A n) (sent_on B n) (λ y g. (sender n B y g).0)).0

slot_pair : (ms : List Member) (m n : Member) → EachTwo Pair ms → Has ms m → Has ms n → Pair m n → Pair (after_events (events_for ms SlotPasses m) m) (after_events (events_for ms SlotPasses n) n)
slot_pair ms m n two h k p = record {
  apart = p.apart;
  fits = λ b. (
      subst (λ (g : List Event). Fits (standing m.description g b) (stand (after_events (events_for ms SlotPasses n) n) b)) (sym (slot_is ms m))
      (subst (λ (g : List Event). Fits (standing m.description (slot_history ms m) b) (standing n.description g b)) (sym (slot_is ms n)) (fits_slot ms m n b two h k p))
      );
  quiet = λ r s. (
      p.quiet
      (slot_quiet m.description m.history (sendings A ms) (sendings B ms) (sent_on A m) (sent_on B m) (sym (ap (replies_at m.description) (slot_is ms m)) ∙ r))
      (slot_quiet n.description n.history (sendings A ms) (sendings B ms) (sent_on A n) (sent_on B n) (sym (ap (replies_at n.description) (slot_is ms n)) ∙ s))
      );
}

-- after what the controller puts
fits_put_word : (ms : List Member) (m n : Member) (c : Bus) (w : Raw) → may_put ms (Word c w) ≡ true → Has ms m → Has ms n → Pair m n →
    (b : Bus) → Fits (standing m.description (Word c w ∷ m.history) b) (standing n.description (Word c w ∷ n.history) b)
fits_put_word ms m n A w may h k p A =
    fits_word m.description.address n.description.address w (stand m A) (stand n A) _ _ p.apart (no_clash ms A w m n may h k) (no_clash ms A w n m may k h) (p.fits A) (word_moves m.description m.history A w) (word_moves n.description n.history A w)
fits_put_word ms m n B w may h k p B =
    fits_word m.description.address n.description.address w (stand m B) (stand n B) _ _ p.apart (no_clash ms B w m n may h k) (no_clash ms B w n m may k h) (p.fits B) (word_moves m.description m.history B w) (word_moves n.description n.history B w)
fits_put_word ms m n A w may h k p B = fits_keeps (stand m B) (stand n B) _ _ (p.fits B) (word_off m.description m.history B A w refl) (word_off n.description n.history B A w refl)
fits_put_word ms m n B w may h k p A = fits_keeps (stand m A) (stand n A) _ _ (p.fits A) (word_off m.description m.history A B w refl) (word_off n.description n.history A B w refl)

fits_put_gap : (m n : Member) (c : Bus) → Pair m n → (b : Bus) → Fits (standing m.description (Gap c ∷ m.history) b) (standing n.description (Gap c ∷ n.history) b)
fits_put_gap m n A p A = fits_gap (stand m A) (stand n A) _ _ (p.fits A) (gap_moves m.description m.history A) (gap_moves n.description n.history A)
fits_put_gap m n B p B = fits_gap (stand m B) (stand n B) _ _ (p.fits B) (gap_moves m.description m.history B) (gap_moves n.description n.history B)
fits_put_gap m n A p B = fits_keeps (stand m B) (stand n B) _ _ (p.fits B) (gap_off m.description m.history B A refl) (gap_off n.description n.history B A refl)
fits_put_gap m n B p A = fits_keeps (stand m A) (stand n A) _ _ (p.fits A) (gap_off m.description m.history A B refl) (gap_off n.description n.history A B refl)

none_of : (p : Member → Bool) (ms : List Member) (m : Member) → not (some p ms) ≡ true → Has ms m → p m ≡ false
none_of p ms m e h = at (p m) refl
  where
    at : (t : Bool) → p m ≡ t → p m ≡ false
    at true q = let no : not true ≡ true = sym (ap not (some_has p ms m h q)) ∙ e in cc
    at false q = q

both_ready : (s t : Standing) → Fits s t → s ≡ Ready → t ≡ Ready → ⊥
both_ready s t f p q = subst (λ (t : Standing). Fits Ready t) q (subst (λ (s : Standing). Fits s t) p f)

put_pair : (ms : List Member) (m n : Member) (e : Event) → may_put ms e ≡ true → Has ms m → Has ms n → Pair m n → Pair (after_events (e ∷ []) m) (after_events (e ∷ []) n)
put_pair ms m n (Word c w) may h k p = record {
  apart = p.apart;
  fits = fits_put_word ms m n c w may h k p;
  quiet = λ r s. p.quiet (word_replies m.description m.history c w r) (word_replies n.description n.history c w s);
}
put_pair ms m n (Noise c) may h k p = record {
  apart = p.apart;
  fits = λ b. fits_keeps (stand m b) (stand n b) _ _ (p.fits b) (noise_keeps m.description m.history b c) (noise_keeps n.description n.history b c);
  quiet = λ r s. p.quiet (noise_replies m.description m.history c r) (noise_replies n.description n.history c s);
}
put_pair ms m n (Gap c) may h k p = record {
  apart = p.apart;
  fits = fits_put_gap m n c p;
  quiet = λ r s. (
      both_ready (stand m c) (stand n c) (p.fits c)
      (gap_replies m.description m.history c r (none_of replies ms m may h))
      (gap_replies n.description n.history c s (none_of replies ms n may k))
      );
}
put_pair ms m n (Write q v) may h k p = let no : false ≡ true = may in cc
put_pair ms m n (Vector v) may h k p = let no : false ≡ true = may in cc
put_pair ms m n (Bit v) may h k p = let no : false ≡ true = may in cc
put_pair ms m n (FlagIs f v) may h k p = let no : false ≡ true = may in cc
put_pair ms m n Slot may h k p = let no : false ≡ true = may in cc

-- after what a subsystem tells
tell_stays : (m : Member) (t : Bool) (e : Event) (b : Bus) → comes_from_subsystem e ≡ true → stand (after_events (if t then e ∷ [] else []) m) b ≡ stand m b
tell_stays m true e b subsystem_acts = subsystem_stays m.description m.history b e subsystem_acts
tell_stays m false e b subsystem_acts = refl

tell_quiet : (m : Member) (t : Bool) (e : Event) → comes_from_subsystem e ≡ true → replies (after_events (if t then e ∷ [] else []) m) ≡ true → replies m ≡ true
tell_quiet m true e subsystem_acts r = subsystem_replies m.description m.history e subsystem_acts r
tell_quiet m false e subsystem_acts r = r

tell_pair : (ms : List Member) (m n : Member) (a : ℕ) (e : Event) → comes_from_subsystem e ≡ true → Pair m n → Pair (after_events (events_for ms (Subsystem a e) m) m) (after_events (events_for ms (Subsystem a e) n) n)
tell_pair ms m n a e subsystem_acts p = record {
  apart = p.apart;
  fits = λ b. fits_keeps (stand m b) (stand n b) _ _ (p.fits b) (inr (tell_stays m (m.description.address == a) e b subsystem_acts)) (inr (tell_stays n (n.description.address == a) e b subsystem_acts));
  quiet = λ r s. p.quiet (tell_quiet m (m.description.address == a) e subsystem_acts r) (tell_quiet n (n.description.address == a) e subsystem_acts s);
}

happens_pair : (ms : List Member) (x : BusEvent) → may_happen ms x ≡ true → EachTwo Pair ms → (m n : Member) → Has ms m → Has ms n → Pair m n → Pair (after_events (events_for ms x m) m) (after_events (events_for ms x n) n)
happens_pair ms (OnBus e) may two m n h k p = put_pair ms m n e may h k p
happens_pair ms SlotPasses may two m n h k p = slot_pair ms m n two h k p
happens_pair ms (Subsystem a e) may two m n h k p = tell_pair ms m n a e may p

pub pairs_stay : (xs : List BusEvent) (ms : List Member) → is_disciplined ms xs ≡ true → EachTwo Pair ms → EachTwo Pair (play ms xs)
pairs_stay [] ms d two = two
pairs_stay (x ∷ xs) ms d two =
    pairs_stay xs (bus_after ms x) (and_right (may_happen ms x) _ d)
    (two_map (λ m. after_events (events_for ms x m) m) Pair Pair ms two (happens_pair ms x (and_left (may_happen ms x) _ d) two))

start_each : (P : Description) (Ps : List Description) → Each (λ Q. P.address ≢ Q.address) Ps → Each (Pair (member_of P)) (powered_up Ps)
start_each P [] e = tt
start_each P (Q ∷ Ps) e = (record { apart = e.0; fits = λ b. tt; quiet = λ r s. cc }, start_each P Ps e.1)

pub pairs_start : (Ps : List Description) → AddressesDiffer Ps → EachTwo Pair (powered_up Ps)
pairs_start [] a = tt
pairs_start (P ∷ Ps) a = (start_each P Ps a.0, pairs_start Ps a.1)
