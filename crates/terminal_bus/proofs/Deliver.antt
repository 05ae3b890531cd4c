-- A transfer on the bus: each slot carries the next word of the one that sends.
use Rattle.std.proofs.Common.{◌≡◌, ◌≢◌, ℕ, zero, suc, ◌+◌, ◌≤◌, Bool, true, false, ◌==◌, if◌then◌else◌, inl, inr, Option, Some, None, List, [], ◌∷◌, ◌++◌, map, refl, ap, sym, ◌∙◌, arith, eq-eqb}
use Rattle.std.proofs.lemmas.Bool.{ne_eqb}
use Rattle.bus_word.specs.declared.word.Bus.{Bus}
use Rattle.bus_word.specs.declared.word.Kind.TheVariants.{Com}
use Rattle.bus_word.specs.Word.{valid_word}
use Rattle.bus_word.specs.declared.word.Bus.TheVariants.{A, B}
use Rattle.terminal_rules.specs.declared.event.Event.{Event}
use Rattle.terminal_rules.specs.declared.event.Event.TheVariants.{Word, Gap, Slot}
use Rattle.terminal_rules.specs.Buses.{same_bus, other}
use Rattle.terminal_rules.specs.LookBack.{keep}
use Rattle.terminal_rules.specs.Out.{Out, Silence, SendsWord, Sending, out, outs_from, sent_in}
use Rattle.terminal_bus.specs.declared.event.BusEvent.{BusEvent}
use Rattle.terminal_bus.specs.declared.event.BusEvent.TheVariants.{OnBus, SlotPasses}
use Rattle.terminal_bus.specs.Members.{Member, if_on, sent_on, heard_of, sendings, unless_sends, heard_on, events_for, after_events, bus_after}
use Rattle.terminal_bus.specs.Lists.{EachTwo}
use Rattle.terminal_bus.specs.Transfer.{Has, passing, actions, actions_at_each}
use Rattle.terminal_bus.proofs.Pairs.{each_of}
use Rattle.terminal_bus.proofs.Walk.{gapped, sent_at, word_of, slots_hist, heard_hist}

abbrev pub Apart : Member → Member → Type 0
Apart m n = m.description.address ≢ n.description.address

-- a transfer on a bus: the terminals, the bus, the two commands, the address of the one that sends, how many words, its
-- status word and the words
pub record Scene : Type 0 where
  pub members : List Member
  pub bus : Bus
  pub c : ℕ
  pub d : ℕ
  pub a : ℕ
  pub n : ℕ
  pub status : ℕ
  pub words : ℕ → ℕ

abbrev pub word_at : Scene → ℕ → Sending
word_at T k = sent_at T.bus T.status T.words k

-- a terminal after the gap and k slots, by whether it is the one that sends
abbrev pub stage_with : Scene → Bool → ℕ → Member → Member
stage_with T t k m = record m { history = if t then slots_hist k (gapped T.bus T.c T.d m.history) else heard_hist T.bus (word_at T) k (gapped T.bus T.c T.d m.history) }

abbrev pub sends_in : Scene → Member → Bool
sends_in T m = m.description.address == T.a

abbrev pub staged : Scene → ℕ → Member → Member
staged T k m = stage_with T (sends_in T m) k m

-- what each does in the slots
abbrev pub RoleAs : Scene → Bool → Member → Type 0
RoleAs T true m = (k : ℕ) → k ≤ T.n → out m.description (slots_hist k (gapped T.bus T.c T.d m.history)) Slot ≡ SendsWord (word_at T k)
RoleAs T false m = (k : ℕ) → out m.description (heard_hist T.bus (word_at T) k (gapped T.bus T.c T.d m.history)) Slot ≡ Silence

pub record Plays (T : Scene) : Type 0 where
  pub apart : EachTwo Apart T.members
  pub sender : Member
  pub has : Has T.members sender
  pub is : sender.description.address ≡ T.a
  pub roles : (m : Member) → Has T.members m → RoleAs T (sends_in T m) m

sent_as : (T : Scene) (b : Bus) (t : Bool) (m : Member) (k : ℕ) → RoleAs T t m → k ≤ T.n → sent_on b (stage_with T t k m) ≡ (if t then if_on b (Some (word_at T k)) else None)
sent_as T b true m k r low = ap (λ o. if_on b (sent_in o)) (r k low)
sent_as T b false m k r low = ap (λ o. if_on b (sent_in o)) (r k)

bus_at : (T : Scene) (k : ℕ) → (word_at T k).bus ≡ T.bus
bus_at T zero = refl
bus_at T (suc k) = refl

same_self : (b : Bus) → same_bus b b ≡ true
same_self A = refl
same_self B = refl

other_self : (b : Bus) → same_bus (other b) b ≡ false
other_self A = refl
other_self B = refl

on_bus : (T : Scene) (k : ℕ) → if_on T.bus (Some (word_at T k)) ≡ Some (word_at T k)
on_bus T k = λ j. if (ap (same_bus T.bus) (bus_at T k) ∙ same_self T.bus) j then Some (word_at T k) else None

off_bus : (T : Scene) (k : ℕ) → (let none : Option Sending = None in if_on (other T.bus) (Some (word_at T k)) ≡ none)
off_bus T k = λ j. if (ap (same_bus (other T.bus)) (bus_at T k) ∙ other_self T.bus) j then Some (word_at T k) else None

-- who is kept of them
keep_none : (f : Member → Option Sending) (g : Member → Member) (ms : List Member) → ((m : Member) → Has ms m → (let none : Option Sending = None in f (g m) ≡ none)) →
    (let none : List Sending = [] in keep f (map g ms) ≡ none)
keep_none f g [] e = refl
keep_none f g (m ∷ ms) e =
    ap (λ o. elim o as (λ o. List Sending) [ None ↦ keep f (map g ms) | Some y ↦ y ∷ keep f (map g ms) ]) (e m (inl refl))
    ∙ keep_none f g ms (λ n h. e n (inr h))

keep_one : (f : Member → Option Sending) (g : Member → Member) (x : Sending) (ms : List Member) (y : Member) → EachTwo Apart ms → Has ms y → f (g y) ≡ Some x →
    ((m : Member) → Has ms m → Apart m y → (let none : Option Sending = None in f (g m) ≡ none)) → keep f (map g ms) ≡ x ∷ []
keep_one f g x [] y two h e n = absurd h
keep_one f g x (m ∷ ms) y two h e n = elim h [
  | inl q ↦ (
      ap (λ o. elim o as (λ o. List Sending) [ None ↦ keep f (map g ms) | Some z ↦ z ∷ keep f (map g ms) ]) (ap (λ m. f (g m)) q ∙ e)
      ∙ ap (λ zs. x ∷ zs) (keep_none f g ms (λ z k. n z (inr k) (λ same. each_of (Apart m) ms z two.0 k (ap (λ (m : Member). m.description.address) q ∙ sym same))))
      )
  | inr q ↦ (
      ap (λ o. elim o as (λ o. List Sending) [ None ↦ keep f (map g ms) | Some z ↦ z ∷ keep f (map g ms) ]) (n m (inl refl) (each_of (Apart m) ms y two.0 q))
      ∙ keep_one f g x ms y two.1 q e (λ z k. n z (inr k))
      )
]

sends_true : (T : Scene) (m : Member) → m.description.address ≡ T.a → sends_in T m ≡ true
sends_true T m e = eq-eqb m.description.address T.a e

sends_false : (T : Scene) (m : Member) → m.description.address ≢ T.a → sends_in T m ≡ false
sends_false T m e = ne_eqb m.description.address T.a e

sent_staged : (T : Scene) (p : Plays T) (b : Bus) (m : Member) (k : ℕ) → Has T.members m → k ≤ T.n → sent_on b (staged T k m) ≡ (if sends_in T m then if_on b (Some (word_at T k)) else None)
sent_staged T p b m k h low = sent_as T b (sends_in T m) m k (p.roles m h) low

if_same : (t : Bool) → (let none : Option Sending = None in (if t then none else none) ≡ none)
if_same true = refl
if_same false = refl

on_the_bus : (T : Scene) (p : Plays T) (k : ℕ) → k ≤ T.n → sendings T.bus (map (staged T k) T.members) ≡ word_at T k ∷ []
on_the_bus T p k low =
    keep_one (sent_on T.bus) (staged T k) (word_at T k) T.members p.sender p.apart p.has
    (sent_staged T p T.bus p.sender k p.has low ∙ ((λ j. if sends_true T p.sender p.is j then if_on T.bus (Some (word_at T k)) else None) ∙ on_bus T k))
    (λ m h apart. sent_staged T p T.bus m k h low ∙ (λ j. if sends_false T m (λ e. apart (e ∙ sym p.is)) j then if_on T.bus (Some (word_at T k)) else None))

on_the_other : (T : Scene) (p : Plays T) (k : ℕ) → k ≤ T.n → (let none : List Sending = [] in sendings (other T.bus) (map (staged T k) T.members) ≡ none)
on_the_other T p k low =
    keep_none (sent_on (other T.bus)) (staged T k) T.members
    (λ m h. sent_staged T p (other T.bus) m k h low ∙ ((λ j. if sends_in T m then off_bus T k j else None) ∙ if_same (sends_in T m)))

-- what comes to each in a slot
abbrev slot_events : Scene → ℕ → Bool → List Event
slot_events T k t = if t then Slot ∷ [] else Slot ∷ Word T.bus (word_of (word_at T k)) ∷ []

heard_none : (o : Option Sending) → (let none : List Event = [] in unless_sends o none ≡ none)
heard_none None = refl
heard_none (Some x) = refl

append_none : (xs : List Event) → xs ++ [] ≡ xs
append_none [] = refl
append_none (x ∷ xs) = ap (λ ys. x ∷ ys) (append_none xs)

heard_both : (b : Bus) (ms : List Member) (m : Member) (x : Sending) (o : Option Sending) → sendings b ms ≡ x ∷ [] → (let none : List Sending = [] in sendings (other b) ms ≡ none) → sent_on b m ≡ o →
    heard_on A ms m ++ heard_on B ms m ≡ unless_sends o (Word b (word_of x) ∷ [])
heard_both A ms m x o e f q =
    (λ j. unless_sends (q j) (heard_of A (e j)) ++ (ap (λ xs. unless_sends (sent_on B m) (heard_of B xs)) f ∙ heard_none (sent_on B m)) j)
    ∙ append_none (unless_sends o (Word A (word_of x) ∷ []))
heard_both B ms m x o e f q = λ j. (ap (λ xs. unless_sends (sent_on A m) (heard_of A xs)) f ∙ heard_none (sent_on A m)) j ++ unless_sends (q j) (heard_of B (e j))

by_role : (T : Scene) (k : ℕ) (t : Bool) → Slot ∷ unless_sends (if t then if_on T.bus (Some (word_at T k)) else None) (Word T.bus (word_of (word_at T k)) ∷ []) ≡ slot_events T k t
by_role T k true = λ j. Slot ∷ unless_sends (on_bus T k j) (Word T.bus (word_of (word_at T k)) ∷ [])
by_role T k false = refl

pub slot_in : (T : Scene) (p : Plays T) (k : ℕ) (m : Member) → k ≤ T.n → Has T.members m → events_for (map (staged T k) T.members) SlotPasses (staged T k m) ≡ slot_events T k (sends_in T m)
slot_in T p k m low h =
    ap (λ es. Slot ∷ es) (heard_both T.bus (map (staged T k) T.members) (staged T k m) (word_at T k) _ (on_the_bus T p k low) (on_the_other T p k low) (sent_staged T p T.bus m k h low))
    ∙ by_role T k (sends_in T m)

stepped_with : (T : Scene) (k : ℕ) (m : Member) (t : Bool) (es : List Event) → es ≡ slot_events T k t → after_events es (stage_with T t k m) ≡ stage_with T t (suc k) m
stepped_with T k m true es e = ap (λ es. after_events es (stage_with T true k m)) e
stepped_with T k m false es e = ap (λ es. after_events es (stage_with T false k m)) e

stepped : (T : Scene) (p : Plays T) (k : ℕ) (m : Member) → k ≤ T.n → Has T.members m → after_events (events_for (map (staged T k) T.members) SlotPasses (staged T k m)) (staged T k m) ≡ staged T (suc k) m
stepped T p k m low h = stepped_with T k m (sends_in T m) (events_for (map (staged T k) T.members) SlotPasses (staged T k m)) (slot_in T p k m low h)

pub map_twice : (f g : Member → Member) (ms : List Member) → map g (map f ms) ≡ map (λ m. g (f m)) ms
map_twice f g [] = refl
map_twice f g (m ∷ ms) = ap (λ xs. g (f m) ∷ xs) (map_twice f g ms)

pub map_same : (f g : Member → Member) (ms : List Member) → ((m : Member) → Has ms m → f m ≡ g m) → map f ms ≡ map g ms
map_same f g [] e = refl
map_same f g (m ∷ ms) e = λ j. e m (inl refl) j ∷ map_same f g ms (λ n h. e n (inr h)) j

pub after_slot : (T : Scene) (p : Plays T) (k : ℕ) → k ≤ T.n → bus_after (map (staged T k) T.members) SlotPasses ≡ map (staged T (suc k)) T.members
after_slot T p k low =
    map_twice (staged T k) (λ m. after_events (events_for (map (staged T k) T.members) SlotPasses m) m) T.members
    ∙ map_same _ (staged T (suc k)) T.members (λ m h. stepped T p k m low h)

-- what is said in a slot
actions_with : (T : Scene) (k : ℕ) (m : Member) (t : Bool) (es : List Event) → k ≤ T.n → RoleAs T t m → es ≡ slot_events T k t →
    actions (outs_from m.description (stage_with T t k m).history es) ≡ (if t then SendsWord (word_at T k) ∷ [] else [])
actions_with T k m true es low r e =
    ap (λ es. actions (outs_from m.description (stage_with T true k m).history es)) e ∙ ap (λ o. actions (o ∷ [])) (r k low)
actions_with T k m false es low r e =
    ap (λ es. actions (outs_from m.description (stage_with T false k m).history es)) e ∙ ap (λ o. actions (o ∷ Silence ∷ [])) (r k)

-- what one says in the slots, and then this
abbrev pub slots_actions : Scene → Bool → ℕ → ℕ → List (List Out) → List (List Out)
slots_actions T t k zero acts = acts
slots_actions T t k (suc j) acts = (if t then SendsWord (word_at T k) ∷ [] else []) ∷ slots_actions T t (suc k) j acts

pub slots_subsystem : (T : Scene) (p : Plays T) (m : Member) → Has T.members m → (xs : List BusEvent) (j k : ℕ) → k + j ≡ suc T.n →
    actions_at_each (map (staged T k) T.members) (passing j xs) (staged T k m) ≡ slots_actions T (sends_in T m) k j (actions_at_each (map (staged T (suc T.n)) T.members) xs (staged T (suc T.n) m))
slots_subsystem T p m h xs zero k e =
    let at : k ≡ suc T.n = omega (arith, e) in
    ap (λ k. actions_at_each (map (staged T k) T.members) xs (staged T k m)) at
slots_subsystem T p m h xs (suc j) k e =
    let low : k ≤ T.n = omega (arith, e) in
    let next : suc k + j ≡ suc T.n = omega (arith, e) in
    let es : List Event = events_for (map (staged T k) T.members) SlotPasses (staged T k m) in
    (λ i. actions_with T k m (sends_in T m) es low (p.roles m h) (slot_in T p k m low h) i ∷ actions_at_each (after_slot T p k low i) (passing j xs) (stepped T p k m low h i))
    ∙ ap (λ ps. (if sends_in T m then SendsWord (word_at T k) ∷ [] else []) ∷ ps) (slots_subsystem T p m h xs j (suc k) next)

-- the beginning
pub begun_with : (T : Scene) (t : Bool) (m : Member) → (let n : Member = record { description = m.description; history = gapped T.bus T.c T.d m.history } in n ≡ stage_with T t 0 m)
begun_with T true m = refl
begun_with T false m = refl

abbrev pub put_on_bus : Scene → Event → List Member → List Member
put_on_bus T e ms = bus_after ms (OnBus e)

pub begun_all : (T : Scene) → put_on_bus T (Gap T.bus) (put_on_bus T (Word T.bus (valid_word Com T.d)) (put_on_bus T (Word T.bus (valid_word Com T.c)) T.members)) ≡ map (staged T 0) T.members
begun_all T =
    map_twice (λ m. after_events (Word T.bus (valid_word Com T.d) ∷ []) m) (λ m. after_events (Gap T.bus ∷ []) m) (map (λ m. after_events (Word T.bus (valid_word Com T.c) ∷ []) m) T.members)
    ∙ (map_twice (λ m. after_events (Word T.bus (valid_word Com T.c) ∷ []) m) (λ m. after_events (Gap T.bus ∷ []) (after_events (Word T.bus (valid_word Com T.d) ∷ []) m)) T.members
    ∙ map_same _ (staged T 0) T.members (λ m h. begun_with T (sends_in T m) m))
