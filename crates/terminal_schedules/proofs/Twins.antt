-- Two runs of the same terminals, side by side: what is said of their answers is the same.
use Rattle.std.proofs.Common.{◌≡◌, ◌≢◌, ◌≤◌, Bool, true, false, ◌==◌, if◌then◌else◌, ◌⊎◌, inl, inr, Option, Some, None, List, [], ◌∷◌, ◌++◌, map, refl, ap, sym, ◌∙◌, subst, arith}
use Rattle.std.proofs.lemmas.Bool.{ne_eqb}
use Rattle.bus_word.specs.declared.word.Bus.{Bus}
use Rattle.bus_word.specs.declared.word.Bus.TheVariants.{A, B}
use Rattle.bus_word.specs.declared.word.Kind.TheVariants.{Com}
use Rattle.bus_word.specs.Word.{is_command, valid_word}
use Rattle.bus_word.specs.Command.{address_of}
use Rattle.bus_legal.specs.Description.{Description}
use Rattle.terminal_rules.specs.declared.event.Event.{Event}
use Rattle.terminal_rules.specs.declared.event.Event.TheVariants.{Word, Noise, Gap, Write, Vector, Bit, Flag as FlagIs, Slot}
use Rattle.terminal_rules.specs.Buses.{same_bus}
use Rattle.terminal_rules.specs.Reply.{reply_now}
use Rattle.terminal_rules.specs.Past.{past, history_after}
use Rattle.terminal_rules.specs.Out.{Out, Silence, SendsWord, HandsOver, Sending, out, outs_from, sent_in}
use Rattle.terminal_bus.specs.declared.event.BusEvent.{BusEvent}
use Rattle.terminal_bus.specs.declared.event.BusEvent.TheVariants.{OnBus, SlotPasses, Subsystem}
use Rattle.terminal_bus.specs.Members.{Member, if_on, sent_on, heard_of, sendings, unless_sends, heard_on, events_for, after_events, bus_after, member_at}
use Rattle.terminal_bus.specs.Discipline.{member_reply}
use Rattle.terminal_bus.specs.Lists.{Each, EachTwo}
use Rattle.terminal_bus.proofs.Sent.{sender}
use Rattle.terminal_bus.proofs.Walk.{valid}
use Rattle.terminal_schedules.specs.Schedule.{said_out}
use Rattle.terminal_schedules.proofs.Step.{SeenEvent, WordComes, SlotComes, seen_event, Shape, shape, next, step_law, masked, rests, CanMask, mask_law}
use Rattle.terminal_schedules.proofs.Said.{said_sending, CanSay, CanSayAt, says, says_law, IsFromOther, seen_alike, says_mask}

-- lists
pub map_both : {X Y Z : Type 0} (f : X → Y) (g : Y → Z) (xs : List X) → map g (map f xs) ≡ map (λ x. g (f x)) xs
map_both f g [] = refl
map_both f g (x ∷ xs) = ap (λ ys. g (f x) ∷ ys) (map_both f g xs)

pub map_join : {X Y : Type 0} (f : X → Y) (xs ys : List X) → map f (xs ++ ys) ≡ map f xs ++ map f ys
map_join f [] ys = refl
map_join f (x ∷ xs) ys = ap (λ zs. f x ∷ zs) (map_join f xs ys)

-- an element of a list
abbrev pub In : {X : Type 0} → List X → X → Type 0
In [] x = ⊥
In (y ∷ ys) x = (y ≡ x) ⊎ In ys x

pub each_in : {X : Type 0} (P : X → Type 0) (xs : List X) (x : X) → Each P xs → In xs x → P x
each_in P [] x e h = absurd h
each_in P (y ∷ ys) x e h = elim h [ inl q ↦ subst P q e.0 | inr q ↦ each_in P ys x e.1 q ]

pub in_map : {X Y : Type 0} (f : X → Y) (xs : List X) (x : X) → In xs x → In (map f xs) (f x)
in_map f [] x h = absurd h
in_map f (y ∷ ys) x h = elim h [ inl q ↦ inl (ap f q) | inr q ↦ inr (in_map f ys x q) ]

pub each_from : {X : Type 0} (P Q : X → Type 0) (xs : List X) → ((x : X) → In xs x → P x → Q x) → Each P xs → Each Q xs
each_from P Q [] f e = tt
each_from P Q (x ∷ xs) f e = (f x (inl refl) e.0, each_from P Q xs (λ y h. f y (inr h)) e.1)

pub each_map : {X Y : Type 0} (P : Y → Type 0) (f : X → Y) (xs : List X) → Each (λ x. P (f x)) xs → Each P (map f xs)
each_map P f [] e = tt
each_map P f (x ∷ xs) e = (e.0, each_map P f xs e.1)

pub each_unmap : {X Y : Type 0} (P : Y → Type 0) (f : X → Y) (xs : List X) → Each P (map f xs) → Each (λ x. P (f x)) xs
each_unmap P f [] e = tt
each_unmap P f (x ∷ xs) e = (e.0, each_unmap P f xs e.1)

pub two_map : {X Y : Type 0} (R : Y → Y → Type 0) (f : X → Y) (xs : List X) → EachTwo (λ x y. R (f x) (f y)) xs → EachTwo R (map f xs)
two_map R f [] e = tt
two_map R f (x ∷ xs) e = (each_map (R (f x)) f xs e.0, two_map R f xs e.1)

-- a terminal in two runs
pub record Twin : Type 0 where
  pub description : Description
  pub one : List Event
  pub two : List Event

abbrev pub first : Twin → Member
first t = member_at t.description t.one

abbrev pub second : Twin → Member
second t = member_at t.description t.two

abbrev pub firsts : List Twin → List Member
firsts ts = map first ts

abbrev pub seconds : List Twin → List Member
seconds ts = map second ts

abbrev pub Apart : Twin → Twin → Type 0
Apart t u = t.description.address ≢ u.description.address

abbrev pub AlikeTwin : Bool → Bool → Twin → Type 0
AlikeTwin e z t = masked z (shape e t.description t.one) ≡ masked z (shape e t.description t.two)

-- both runs, where all that decides is the same
pub record AreAlike (e z : Bool) (ts : List Twin) : Type 0 where
  pub apart : EachTwo Apart ts
  pub low : Each (λ t. t.description.address ≤ 30) ts
  pub alike : Each (AlikeTwin e z) ts

-- what events make of it
abbrev next_all : Description → List SeenEvent → Shape → Shape
next_all P [] t = t
next_all P (v ∷ vs) t = next_all P vs (next P v t)

shape_all : (e : Bool) (P : Description) (es h : List Event) → shape e P (history_after es h) ≡ next_all P (map (seen_event e P) es) (shape e P h)
shape_all e P [] h = refl
shape_all e P (x ∷ es) h = shape_all e P es (x ∷ h) ∙ ap (next_all P (map (seen_event e P) es)) (step_law e P h x)

-- no word starts a message that reports the kept status, unless the kept message errors are the same
abbrev pub CanMaskAll : Bool → Description → List SeenEvent → Type 0
CanMaskAll z P [] = Unit {0}
CanMaskAll z P (v ∷ vs) = CanMask z P v × CanMaskAll z P vs

mask_all : (z : Bool) (P : Description) (vs : List SeenEvent) (t : Shape) → CanMaskAll z P vs → masked z (next_all P vs t) ≡ masked z (next_all P vs (masked z t))
mask_all z P [] t c = mask_twice z t
  where
    mask_twice : (z : Bool) (t : Shape) → masked z t ≡ masked z (masked z t)
    mask_twice true t = refl
    mask_twice false t = λ j. record t { error = again (rests t) j }
      where
        again : (r : Bool) → (if r then false else t.error) ≡ (if r then false else (if r then false else t.error))
        again true = refl
        again false = refl
mask_all z P (v ∷ vs) t c =
    mask_all z P vs (next P v t) c.1
    ∙ (ap (λ u. masked z (next_all P vs u)) (mask_law z P v t c.0) ∙ sym (mask_all z P vs (next P v (masked z t)) c.1))

stays_alike : (e z : Bool) (P : Description) (es fs h g : List Event) → map (seen_event e P) es ≡ map (seen_event e P) fs → masked z (shape e P h) ≡ masked z (shape e P g) → CanMaskAll z P (map (seen_event e P) es) →
    masked z (shape e P (history_after es h)) ≡ masked z (shape e P (history_after fs g))
stays_alike e z P es fs h g s a c =
    let d : CanMaskAll z P (map (seen_event e P) fs) = subst (CanMaskAll z P) s c in
    ap (masked z) (shape_all e P es h)
    ∙ (mask_all z P (map (seen_event e P) es) (shape e P h) c
    ∙ ((λ j. masked z (next_all P (s j) (a j)))
    ∙ (sym (mask_all z P (map (seen_event e P) fs) (shape e P g) d) ∙ sym (ap (masked z) (shape_all e P fs g)))))

-- what is said meanwhile
abbrev pub SaysAll : Bool → Description → List Event → List Event → Type 0
SaysAll e P h [] = Unit {0}
SaysAll e P h (x ∷ es) = CanSayAt e (reply_now (past P h)) x × SaysAll e P (x ∷ h) es

abbrev says_all : Description → List SeenEvent → Shape → List Out
says_all P [] t = []
says_all P (v ∷ vs) t = says P v t ∷ says_all P vs (next P v t)

said_all : (e : Bool) (P : Description) (es h : List Event) → SaysAll e P h es → map (said_out e) (outs_from P h es) ≡ says_all P (map (seen_event e P) es) (shape e P h)
said_all e P [] h c = refl
said_all e P (x ∷ es) h c = λ j. says_law e P h x c.0 j ∷ (said_all e P es (x ∷ h) c.1 ∙ ap (says_all P (map (seen_event e P) es)) (step_law e P h x)) j

mask_says : (z : Bool) (P : Description) (vs : List SeenEvent) (t : Shape) → CanMaskAll z P vs → says_all P vs t ≡ says_all P vs (masked z t)
mask_says z P [] t c = refl
mask_says z P (v ∷ vs) t c =
    λ j. says_mask z P v t j ∷ (mask_says z P vs (next P v t) c.1 ∙ (ap (says_all P vs) (mask_law z P v t c.0) ∙ sym (mask_says z P vs (next P v (masked z t)) c.1))) j

pub said_alike : (e z : Bool) (P : Description) (es fs h g : List Event) → map (seen_event e P) es ≡ map (seen_event e P) fs → masked z (shape e P h) ≡ masked z (shape e P g) → CanMaskAll z P (map (seen_event e P) es) →
    SaysAll e P h es → SaysAll e P g fs → map (said_out e) (outs_from P h es) ≡ map (said_out e) (outs_from P g fs)
said_alike e z P es fs h g s a m c d =
    let n : CanMaskAll z P (map (seen_event e P) fs) = subst (CanMaskAll z P) s m in
    said_all e P es h c
    ∙ (mask_says z P (map (seen_event e P) es) (shape e P h) m
    ∙ ((λ j. says_all P (s j) (a j)) ∙ (sym (mask_says z P (map (seen_event e P) fs) (shape e P g) n) ∙ sym (said_all e P fs g d))))

-- who sends
abbrev said_option : Bool → Option Sending → Option Sending
said_option e None = None
said_option e (Some x) = Some (said_sending e x)

sent_said : (e : Bool) (b : Bus) (o : Out) → said_option e (if_on b (sent_in o)) ≡ if_on b (sent_in (said_out e o))
sent_said e b Silence = refl
sent_said e b (SendsWord x) = elim (same_bus b x.bus) as (λ t. said_option e (if t then Some x else None) ≡ (if t then Some (said_sending e x) else None)) [ true ↦ refl | false ↦ refl ]
sent_said e b (HandsOver x) = refl

abbrev pub CanSayTwin : Bool → Twin → Type 0
CanSayTwin e t = CanSay e (member_reply (first t)) × CanSay e (member_reply (second t))

sent_alike : (e z : Bool) (b : Bus) (t : Twin) → AlikeTwin e z t → CanSayTwin e t → said_option e (sent_on b (first t)) ≡ said_option e (sent_on b (second t))
sent_alike e z b t a c =
    let slots : said_out e (out t.description t.one Slot) ≡ said_out e (out t.description t.two Slot) =
    says_law e t.description t.one Slot c.0 ∙ ((says_mask z t.description SlotComes (shape e t.description t.one) ∙ (ap (says t.description SlotComes) a ∙ sym (says_mask z t.description SlotComes (shape e t.description t.two)))) ∙ sym (says_law e t.description t.two Slot c.1)) in
    sent_said e b (out t.description t.one Slot) ∙ (ap (λ o. if_on b (sent_in o)) slots ∙ sym (sent_said e b (out t.description t.two Slot)))

-- what another terminal sees of it
abbrev SentAlike : Bool → Description → Option Sending → Option Sending → Type 0
SentAlike e Q None None = Unit {0}
SentAlike e Q (Some x) None = ⊥
SentAlike e Q None (Some y) = ⊥
SentAlike e Q (Some x) (Some y) = (said_sending e x ≡ said_sending e y) × IsFromOther Q x.kind x.bits × IsFromOther Q y.kind y.bits

abbrev AllSentAlike : Bool → Description → List Sending → List Sending → Type 0
AllSentAlike e Q [] [] = Unit {0}
AllSentAlike e Q (x ∷ xs) [] = ⊥
AllSentAlike e Q [] (y ∷ ys) = ⊥
AllSentAlike e Q (x ∷ xs) (y ∷ ys) = SentAlike e Q (Some x) (Some y) × AllSentAlike e Q xs ys

kept_alike : (e : Bool) (Q : Description) (b : Bus) (ts : List Twin) → Each (λ t. SentAlike e Q (sent_on b (first t)) (sent_on b (second t))) ts → AllSentAlike e Q (sendings b (firsts ts)) (sendings b (seconds ts))
kept_alike e Q b [] s = tt
kept_alike e Q b (t ∷ ts) s = by_sent (sent_on b (first t)) (sent_on b (second t)) s.0 (kept_alike e Q b ts s.1)
  where
    by_sent : (o p : Option Sending) → SentAlike e Q o p → AllSentAlike e Q (sendings b (firsts ts)) (sendings b (seconds ts)) →
        AllSentAlike e Q (elim o [ None ↦ sendings b (firsts ts) | Some y ↦ y ∷ sendings b (firsts ts) ]) (elim p [ None ↦ sendings b (seconds ts) | Some y ↦ y ∷ sendings b (seconds ts) ])
    by_sent None None a r = r
    by_sent (Some x) None a r = absurd a
    by_sent None (Some y) a r = absurd a
    by_sent (Some x) (Some y) a r = (a, r)

heard_alike : (e : Bool) (Q : Description) (b : Bus) (xs ys : List Sending) → AllSentAlike e Q xs ys → map (seen_event e Q) (heard_of b xs) ≡ map (seen_event e Q) (heard_of b ys)
heard_alike e Q b [] [] a = refl
heard_alike e Q b (x ∷ xs) [] a = absurd a
heard_alike e Q b [] (y ∷ ys) a = absurd a
heard_alike e Q b (x ∷ []) (y ∷ []) a = ap (λ w. WordComes b w ∷ []) (seen_alike e Q x y a.0.0 a.0.1 a.0.2)
heard_alike e Q b (x ∷ []) (y ∷ z ∷ zs) a = absurd a.1
heard_alike e Q b (x ∷ z ∷ zs) (y ∷ []) a = absurd a.1
heard_alike e Q b (x ∷ u ∷ us) (y ∷ z ∷ zs) a = refl

pub from_other : (Q : Description) (m : Member) (b : Bus) (x : Sending) → sent_on b m ≡ Some x → m.description.address ≢ Q.address → m.description.address ≤ 30 → IsFromOther Q x.kind x.bits
from_other Q m b x e apart low =
    let is : x.kind ≡ Com → address_of x.bits ≡ m.description.address =
    (λ k. (sender m b x e).1 (ap (λ k. is_command (valid_word k x.bits)) k ∙ valid Com x.bits)) in
    record {
      other = λ k q. apart (sym (is k) ∙ q);
      own = λ k. ne_eqb (address_of x.bits) 31 (λ q. let at : m.description.address ≡ 31 = sym (is k) ∙ q in omega arith);
    }

sent_by_other : (e z : Bool) (Q : Description) (b : Bus) (t : Twin) → AlikeTwin e z t → CanSayTwin e t → t.description.address ≢ Q.address → t.description.address ≤ 30 →
    SentAlike e Q (sent_on b (first t)) (sent_on b (second t))
sent_by_other e z Q b t a c apart low = by_sent (sent_on b (first t)) (sent_on b (second t)) refl refl (sent_alike e z b t a c)
  where
    by_sent : (o p : Option Sending) → sent_on b (first t) ≡ o → sent_on b (second t) ≡ p → said_option e o ≡ said_option e p → SentAlike e Q o p
    by_sent None None i k s = tt
    by_sent (Some x) None i k s = cc
    by_sent None (Some y) i k s = cc
    by_sent (Some x) (Some y) i k s =
        let is : said_sending e x ≡ said_sending e y = cc in
        (is, from_other Q (first t) b x i apart low, from_other Q (second t) b y k apart low)

-- each is the one or has another address
abbrev Other : Twin → Twin → Type 0
Other t u = (u ≡ t) ⊎ Apart u t

others : (ts : List Twin) (t : Twin) → EachTwo Apart ts → In ts t → Each (Other t) ts
others [] t two h = tt
others (u ∷ us) t two h = elim h [
  | inl q ↦ (inl q, each_from (Apart u) (Other t) us (λ v k a. inr (λ s. a (ap (λ (w : Twin). w.description.address) q ∙ sym s))) two.0)
  | inr q ↦ (inr (each_in (Apart u) us t two.0 q), others us t two.1 q)
]

-- what comes on a bus to one
hears_alike : (e z : Bool) (b : Bus) (ts : List Twin) (t : Twin) → AreAlike e z ts → Each (CanSayTwin e) ts → In ts t →
    map (seen_event e t.description) (heard_on b (firsts ts) (first t)) ≡ map (seen_event e t.description) (heard_on b (seconds ts) (second t))
hears_alike e z b ts t a c h =
    by_sent (sent_on b (first t)) (sent_on b (second t)) refl refl (sent_alike e z b t (each_in (AlikeTwin e z) ts t a.alike h) (each_in (CanSayTwin e) ts t c h))
  where
    silent : (t u : Twin) → u ≡ t → sent_on b (first t) ≡ None → sent_on b (second t) ≡ None → SentAlike e t.description (sent_on b (first u)) (sent_on b (second u))
    silent t u q i k =
        let one : sent_on b (first u) ≡ None = ap (λ u. sent_on b (first u)) q ∙ i in
        let two : sent_on b (second u) ≡ None = ap (λ u. sent_on b (second u)) q ∙ k in
        subst (λ (o : Option Sending). SentAlike e t.description o (sent_on b (second u))) (sym one) (subst (λ (p : Option Sending). SentAlike e t.description None p) (sym two) tt)

    by_sent : (o p : Option Sending) → sent_on b (first t) ≡ o → sent_on b (second t) ≡ p → said_option e o ≡ said_option e p →
        map (seen_event e t.description) (unless_sends o (heard_of b (sendings b (firsts ts)))) ≡ map (seen_event e t.description) (unless_sends p (heard_of b (sendings b (seconds ts))))
    by_sent (Some x) (Some y) i k s = refl
    by_sent (Some x) None i k s = cc
    by_sent None (Some y) i k s = cc
    by_sent None None i k s =
        heard_alike e t.description b (sendings b (firsts ts)) (sendings b (seconds ts))
        (kept_alike e t.description b ts
        (each_from (Other t) (λ u. SentAlike e t.description (sent_on b (first u)) (sent_on b (second u))) ts
        (λ u g is. elim is [
          | inl q ↦ silent t u q i k
          | inr q ↦ sent_by_other e z t.description b u (each_in (AlikeTwin e z) ts u a.alike g) (each_in (CanSayTwin e) ts u c g) q (each_in (λ t. t.description.address ≤ 30) ts u a.low g)
        ]) (others ts t a.apart h)))

-- what comes to one
pub comes_alike : (e z : Bool) (ts : List Twin) (t : Twin) (x : BusEvent) → AreAlike e z ts → Each (CanSayTwin e) ts → In ts t →
    map (seen_event e t.description) (events_for (firsts ts) x (first t)) ≡ map (seen_event e t.description) (events_for (seconds ts) x (second t))
comes_alike e z ts t (OnBus x) a c h = refl
comes_alike e z ts t SlotPasses a c h =
    let see : Event → SeenEvent = seen_event e t.description in
    ap (λ vs. SlotComes ∷ vs)
    (map_join see (heard_on A (firsts ts) (first t)) (heard_on B (firsts ts) (first t))
    ∙ ((λ j. hears_alike e z A ts t a c h j ++ hears_alike e z B ts t a c h j) ∙ sym (map_join see (heard_on A (seconds ts) (second t)) (heard_on B (seconds ts) (second t)))))
comes_alike e z ts t (Subsystem d x) a c h = refl

-- they stay alike
abbrev pub twin_after : List Twin → BusEvent → Twin → Twin
twin_after ts x t = record {
  description = t.description;
  one = history_after (events_for (firsts ts) x (first t)) t.one;
  two = history_after (events_for (seconds ts) x (second t)) t.two;
}

abbrev pub twins_after : List Twin → BusEvent → List Twin
twins_after ts x = map (twin_after ts x) ts

pub firsts_after : (ts : List Twin) (x : BusEvent) → bus_after (firsts ts) x ≡ firsts (twins_after ts x)
firsts_after ts x = map_both first (λ m. after_events (events_for (firsts ts) x m) m) ts ∙ sym (map_both (twin_after ts x) first ts)

pub seconds_after : (ts : List Twin) (x : BusEvent) → bus_after (seconds ts) x ≡ seconds (twins_after ts x)
seconds_after ts x = map_both second (λ m. after_events (events_for (seconds ts) x m) m) ts ∙ sym (map_both (twin_after ts x) second ts)

abbrev pub CanMaskTwin : Bool → Bool → List Twin → BusEvent → Twin → Type 0
CanMaskTwin e z ts x t = CanMaskAll z t.description (map (seen_event e t.description) (events_for (firsts ts) x (first t)))

pub after_alike : (e z : Bool) (ts : List Twin) (x : BusEvent) → AreAlike e z ts → Each (CanSayTwin e) ts → Each (CanMaskTwin e z ts x) ts → AreAlike e z (twins_after ts x)
after_alike e z ts x a c m = record {
  apart = two_map Apart (twin_after ts x) ts a.apart;
  low = each_map (λ t. t.description.address ≤ 30) (twin_after ts x) ts a.low;
  alike = each_map (AlikeTwin e z) (twin_after ts x) ts (each_from (AlikeTwin e z) (λ t. AlikeTwin e z (twin_after ts x t)) ts
      (λ t h s. stays_alike e z t.description (events_for (firsts ts) x (first t)) (events_for (seconds ts) x (second t)) t.one t.two (comes_alike e z ts t x a c h) s (each_in (CanMaskTwin e z ts x) ts t m h)) a.alike);
}

-- what one answers
says_heard : (e : Bool) (P : Description) (b : Bus) (o : Option Sending) (xs : List Sending) (es h : List Event) → ((g : List Event) → SaysAll e P g es) → SaysAll e P h (unless_sends o (heard_of b xs) ++ es)
says_heard e P b (Some x) xs es h s = s h
says_heard e P b None [] es h s = s h
says_heard e P b None (x ∷ []) es h s = (tt, s (Word b (valid_word x.kind x.bits) ∷ h))
says_heard e P b None (x ∷ y ∷ more) es h s = (tt, s (Noise b ∷ h))

says_last : (e : Bool) (P : Description) (b : Bus) (o : Option Sending) (xs : List Sending) (h : List Event) → SaysAll e P h (unless_sends o (heard_of b xs))
says_last e P b (Some x) xs h = tt
says_last e P b None [] h = tt
says_last e P b None (x ∷ []) h = (tt, tt)
says_last e P b None (x ∷ y ∷ more) h = (tt, tt)

says_one : (e : Bool) (P : Description) (h : List Event) (x : Event) → CanSay e (reply_now (past P h)) → CanSayAt e (reply_now (past P h)) x
says_one e P h (Word b w) c = tt
says_one e P h (Noise b) c = tt
says_one e P h (Gap b) c = tt
says_one e P h (Write q v) c = tt
says_one e P h (Vector v) c = tt
says_one e P h (Bit v) c = tt
says_one e P h (FlagIs f v) c = tt
says_one e P h Slot c = c

pub says_member : (e : Bool) (ms : List Member) (m : Member) (x : BusEvent) → CanSay e (member_reply m) → SaysAll e m.description m.history (events_for ms x m)
says_member e ms m (OnBus x) c = (says_one e m.description m.history x c, tt)
says_member e ms m SlotPasses c =
    (c, says_heard e m.description A (sent_on A m) (sendings A ms) (heard_on B ms m) (Slot ∷ m.history) (λ g. says_last e m.description B (sent_on B m) (sendings B ms) g))
says_member e ms m (Subsystem a x) c = by_address (m.description.address == a)
  where
    by_address : (t : Bool) → SaysAll e m.description m.history (if t then x ∷ [] else [])
    by_address true = (says_one e m.description m.history x c, tt)
    by_address false = tt
