-- A message ends as it does alone.
use Rattle.std.proofs.Common.{◌≡◌, ◌≢◌, ◌≤◌, Bool, true, false, inl, inr, List, [], ◌∷◌, ◌++◌, map, refl, ap, sym, ◌∙◌, subst, ◌==◌, if◌then◌else◌, Some}
use Rattle.terminal_schedules.proofs.Rests.{IsOthers, others_join, hears_others, ApartMembers, AreApart}
use Rattle.bus_word.specs.declared.word.Bus.TheVariants.{A, B}
use Rattle.terminal_rules.specs.declared.event.Event.TheVariants.{Word, Noise, Gap, Write, Vector, Bit, Flag as FlagIs, Slot}
use Rattle.terminal_rules.specs.Status.{kept_now}
use Rattle.terminal_rules.specs.Past.{past}
use Rattle.terminal_bus.specs.declared.event.BusEvent.TheVariants.{OnBus, SlotPasses, Subsystem}
use Rattle.terminal_rules.specs.declared.event.Event.{Event}
use Rattle.bus_legal.specs.Description.{Description}
use Rattle.terminal_rules.specs.Open.{Open, Idle, Collects, Waits, Resumes}
use Rattle.terminal_bus.specs.declared.event.BusEvent.{BusEvent}
use Rattle.terminal_bus.specs.Members.{Member, events_for, after_events, bus_after, play, member_of, powered_up, heard_on}
use Rattle.terminal_bus.specs.Alone.{answers_in, own_answers}
use Rattle.terminal_bus.specs.Discipline.{member_reply}
use Rattle.terminal_bus.specs.Lists.{Each, EachTwo}
use Rattle.terminal_bus.specs.OneSpeaker.{AddressesDiffer}
use Rattle.terminal_bus.specs.Transfer.{Has}
use Rattle.terminal_schedules.specs.Schedule.{IsClearIf, LeavesClear, said_out, SendsNoData, CanCompare, EndsAsAlone, AloneDecides, asks_kept, CanFollow, EachEndsAsAlone}
use Rattle.terminal_schedules.proofs.Seen.{SeenOpen, seen_open, seen_word}
use Rattle.terminal_schedules.proofs.Step.{Shape, shape, seen_event, masked, none_can, event_can}
use Rattle.terminal_schedules.proofs.Said.{CanSay}
use Rattle.terminal_schedules.proofs.Twins.{map_both, map_join, In, each_in, in_map, each_from, each_map, each_unmap, two_map, Twin, first, second, firsts, seconds, Apart, AlikeTwin, AreAlike, said_alike, CanSayTwin, comes_alike, twin_after, twins_after, firsts_after, seconds_after, after_alike, says_member, CanMaskAll, CanMaskTwin}

-- both runs, event after event
abbrev pub twins_play : List Twin → List BusEvent → List Twin
twins_play ts [] = ts
twins_play ts (x ∷ xs) = twins_play (twins_after ts x) xs

pub firsts_play : (ts : List Twin) (xs : List BusEvent) → play (firsts ts) xs ≡ firsts (twins_play ts xs)
firsts_play ts [] = refl
firsts_play ts (x ∷ xs) = ap (λ ms. play ms xs) (firsts_after ts x) ∙ firsts_play (twins_after ts x) xs

pub seconds_play : (ts : List Twin) (xs : List BusEvent) → play (seconds ts) xs ≡ seconds (twins_play ts xs)
seconds_play ts [] = refl
seconds_play ts (x ∷ xs) = ap (λ ms. play ms xs) (seconds_after ts x) ∙ seconds_play (twins_after ts x) xs

-- where data words are compared, none is sent
abbrev MaySay : Bool → List Member → List BusEvent → Type 0
MaySay e ms [] = Unit {0}
MaySay e ms (x ∷ xs) = Each (λ m. CanSay e (member_reply m)) ms × MaySay e (bus_after ms x) xs

no_data : (ms : List Member) (xs : List BusEvent) → SendsNoData ms xs → MaySay true ms xs
no_data ms [] c = tt
no_data ms (x ∷ xs) c = (c.0, no_data (bus_after ms x) xs c.1)

each_free : (ms : List Member) → Each (λ m. CanSay false (member_reply m)) ms
each_free [] = tt
each_free (m ∷ ms) = (tt, each_free ms)

pub any_data : (ms : List Member) (xs : List BusEvent) → MaySay false ms xs
any_data ms [] = tt
any_data ms (x ∷ xs) = (each_free ms, any_data (bus_after ms x) xs)

may_say : (Ps : List Description) (e : Bool) (xs : List BusEvent) → CanCompare Ps e xs → MaySay e (powered_up Ps) xs
may_say Ps true xs c = no_data (powered_up Ps) xs c
may_say Ps false xs c = any_data (powered_up Ps) xs

twins_say : (e z : Bool) (ts : List Twin) → AreAlike e z ts → Each (λ m. CanSay e (member_reply m)) (seconds ts) → Each (CanSayTwin e) ts
twins_say e z ts a c =
    each_from (λ t. CanSay e (member_reply (second t))) (CanSayTwin e) ts
    (λ t h s. (subst (CanSay e) (sym (ap (λ (s : Shape). s.reply) (each_in (AlikeTwin e z) ts t a.alike h))) s, s)) (each_unmap (λ m. CanSay e (member_reply m)) second ts c)

-- what is not asked for
abbrev Unasked : Bool → List BusEvent → Type 0
Unasked z xs = z ≡ false → Each (λ x. asks_kept x ≡ false) xs

others_masked : (e z : Bool) (P : Description) (es : List Event) → IsOthers P es → CanMaskAll z P (map (seen_event e P) es)
others_masked e z P [] o = tt
others_masked e z P (Word b w ∷ es) o = (none_can z P b (seen_word e P (Some w)) o.0, others_masked e z P es o.1)
others_masked e z P (Noise b ∷ es) o = (tt, others_masked e z P es o)
others_masked e z P (Gap b ∷ es) o = absurd o
others_masked e z P (Write p v ∷ es) o = absurd o
others_masked e z P (Vector v ∷ es) o = absurd o
others_masked e z P (Bit v ∷ es) o = absurd o
others_masked e z P (FlagIs f v ∷ es) o = absurd o
others_masked e z P (Slot ∷ es) o = absurd o

each_twin : (Q : Twin → Type 0) (ts : List Twin) → ((t : Twin) → In ts t → Q t) → Each Q ts
each_twin Q [] f = tt
each_twin Q (t ∷ ts) f = (f t (inl refl), each_twin Q ts (λ u h. f u (inr h)))

twins_masked : (e z : Bool) (ts : List Twin) (x : BusEvent) → AreAlike e z ts → (z ≡ false → asks_kept x ≡ false) → Each (CanMaskTwin e z ts x) ts
twins_masked e z ts x a u = each_twin (CanMaskTwin e z ts x) ts (λ t h. by_event t h x u)
  where
    apart : AreApart (firsts ts)
    apart = record { apart = two_map ApartMembers first ts a.apart; low = each_map (λ (m : Member). m.description.address ≤ 30) first ts a.low }

    by_event : (t : Twin) → In ts t → (x : BusEvent) → (z ≡ false → asks_kept x ≡ false) → CanMaskTwin e z ts x t
    by_event t h (OnBus y) q = (event_can z e t.description y q, tt)
    by_event t h SlotPasses q = (
      tt,
      others_masked e z t.description (heard_on A (firsts ts) (first t) ++ heard_on B (firsts ts) (first t))
          (others_join t.description (heard_on A (firsts ts) (first t)) (heard_on B (firsts ts) (first t)) (hears_others A (firsts ts) (first t) apart (in_map first ts t h)) (hears_others B (firsts ts) (first t) apart (in_map first ts t h))),
    )
    by_event t h (Subsystem d y) q = by_address (t.description.address == d)
      where
        by_address : (s : Bool) → CanMaskAll z t.description (map (seen_event e t.description) (if s then y ∷ [] else []))
        by_address true = (event_can z e t.description y q, tt)
        by_address false = tt

pub play_alike : (e z : Bool) (ts : List Twin) (xs : List BusEvent) → AreAlike e z ts → MaySay e (seconds ts) xs → Unasked z xs → AreAlike e z (twins_play ts xs)
play_alike e z ts [] a c u = a
play_alike e z ts (x ∷ xs) a c u =
    play_alike e z (twins_after ts x) xs (after_alike e z ts x a (twins_say e z ts a c.0) (twins_masked e z ts x a (λ q. (u q).0))) (subst (λ ms. MaySay e ms xs) (seconds_after ts x) c.1) (λ q. (u q).1)

answers_alike : (e z : Bool) (ts : List Twin) (t : Twin) (xs : List BusEvent) → AreAlike e z ts → MaySay e (seconds ts) xs → Unasked z xs → In ts t →
    map (said_out e) (own_answers (firsts ts) xs (first t)) ≡ map (said_out e) (own_answers (seconds ts) xs (second t))
answers_alike e z ts t [] a c u h = refl
answers_alike e z ts t (x ∷ xs) a c k h =
    let says : Each (CanSayTwin e) ts = twins_say e z ts a c.0 in
    let mask : Each (CanMaskTwin e z ts x) ts = twins_masked e z ts x a (λ q. (k q).0) in
    let say : CanSayTwin e t = each_in (CanSayTwin e) ts t says h in
    let u : Twin = twin_after ts x t in
    let now : map (said_out e) (answers_in (firsts ts) x (first t)) ≡ map (said_out e) (answers_in (seconds ts) x (second t)) =
    said_alike e z t.description (events_for (firsts ts) x (first t)) (events_for (seconds ts) x (second t)) t.one t.two (comes_alike e z ts t x a says h) (each_in (AlikeTwin e z) ts t a.alike h) (each_in (CanMaskTwin e z ts x) ts t mask h)
    (says_member e (firsts ts) (first t) x say.0) (says_member e (seconds ts) (second t) x say.1) in
    let later : map (said_out e) (own_answers (firsts (twins_after ts x)) xs (first u)) ≡ map (said_out e) (own_answers (seconds (twins_after ts x)) xs (second u)) =
    answers_alike e z (twins_after ts x) u xs (after_alike e z ts x a says mask) (subst (λ ms. MaySay e ms xs) (seconds_after ts x) c.1) (λ q. (k q).1) (in_map (twin_after ts x) ts t h) in
    let following : map (said_out e) (own_answers (bus_after (firsts ts) x) xs (first u)) ≡ map (said_out e) (own_answers (bus_after (seconds ts) x) xs (second u)) =
    ap (λ ms. map (said_out e) (own_answers ms xs (first u))) (firsts_after ts x) ∙ (later ∙ sym (ap (λ ms. map (said_out e) (own_answers ms xs (second u))) (seconds_after ts x))) in
    map_join (said_out e) (answers_in (firsts ts) x (first t)) (own_answers (bus_after (firsts ts) x) xs (first u))
    ∙ ((λ j. now j ++ following j) ∙ sym (map_join (said_out e) (answers_in (seconds ts) x (second t)) (own_answers (bus_after (seconds ts) x) xs (second u))))

-- a clear terminal is as at power-up, as far as that decides
pub clear_shape : (e z : Bool) (m : Member) → IsClearIf z m → masked z (shape e m.description m.history) ≡ masked z (shape e m.description [])
clear_shape e true m c = λ j. record {
  message = λ b. seen_open e m.description (c.message b j);
  heard = λ b. c.run b j;
  reply = c.reply j;
  off = λ b. c.on b j;
  busy = c.free j;
  error = c.error refl j;
}
clear_shape e false m c = λ j. masked false (record {
  message = λ b. seen_open e m.description (c.message b j);
  heard = λ b. c.run b j;
  reply = c.reply j;
  off = λ b. c.on b j;
  busy = c.free j;
  error = (kept_now m.description (past m.description m.history)).error;
})

pub idle_of : (e : Bool) (P : Description) (o : Open) → (let idle : SeenOpen = Idle in seen_open e P o ≡ idle) → (let idle : Open = Idle in o ≡ idle)
idle_of e P Idle q = refl
idle_of e P (Collects c after) q = cc
idle_of e P (Waits c a) q = cc
idle_of e P (Resumes c after) q = cc

first_clear : (z : Bool) (t : Twin) → AlikeTwin false z t → IsClearIf z (second t) → IsClearIf z (first t)
first_clear z t a c = record {
  message = λ b. idle_of false t.description _ (ap (λ (s : Shape). s.message b) a ∙ ap (seen_open false t.description) (c.message b));
  run = λ b. ap (λ (s : Shape). s.heard b) a ∙ c.run b;
  reply = ap (λ (s : Shape). s.reply) a ∙ c.reply;
  on = λ b. ap (λ (s : Shape). s.off b) a ∙ c.on b;
  free = ap (λ (s : Shape). s.busy) a ∙ c.free;
  error = by_asked z a c;
}
  where
    by_asked : (z : Bool) → AlikeTwin false z t → IsClearIf z (second t) → z ≡ true → (kept_now t.description (past t.description t.one)).error ≡ false
    by_asked true a c q = ap (λ (s : Shape). s.error) a ∙ c.error refl
    by_asked false a c q = cc

-- members, and the same terminals at power-up
abbrev pub descriptions : List Member → List Description
descriptions ms = map (λ (m : Member). m.description) ms

abbrev twin_of : Member → Twin
twin_of m = record { description = m.description; one = m.history; two = [] }

abbrev pub twins_of : List Member → List Twin
twins_of ms = map twin_of ms

pub firsts_of : (ms : List Member) → firsts (twins_of ms) ≡ ms
firsts_of [] = refl
firsts_of (m ∷ ms) = ap (λ ns. m ∷ ns) (firsts_of ms)

pub seconds_of : (ms : List Member) → seconds (twins_of ms) ≡ powered_up (descriptions ms)
seconds_of [] = refl
seconds_of (m ∷ ms) = ap (λ ns. member_of m.description ∷ ns) (seconds_of ms)

pub two_unmap : {X Y : Type 0} (R : Y → Y → Type 0) (f : X → Y) (xs : List X) → EachTwo R (map f xs) → EachTwo (λ x y. R (f x) (f y)) xs
two_unmap R f [] e = tt
two_unmap R f (x ∷ xs) e = (each_unmap (R (f x)) f xs e.0, two_unmap R f xs e.1)

pub in_has : (ms : List Member) (m : Member) → Has ms m → In ms m
in_has [] m h = absurd h
in_has (n ∷ ms) m h = elim h [ inl q ↦ inl q | inr q ↦ inr (in_has ms m q) ]

pub twins_alike : (e z : Bool) (ms : List Member) → AddressesDiffer (descriptions ms) → Each (λ P. P.address ≤ 30) (descriptions ms) → Each (IsClearIf z) ms → AreAlike e z (twins_of ms)
twins_alike e z ms differ low clear = record {
  apart = two_map Apart twin_of ms (two_unmap (λ P Q. P.address ≢ Q.address) (λ (m : Member). m.description) ms differ);
  low = each_map (λ (t : Twin). t.description.address ≤ 30) twin_of ms (each_unmap (λ P. P.address ≤ 30) (λ (m : Member). m.description) ms low);
  alike = each_map (AlikeTwin e z) twin_of ms (each_from (IsClearIf z) (λ m. AlikeTwin e z (twin_of m)) ms (λ m h c. clear_shape e z m c) clear);
}

-- one message
pub ends_as_alone : (z : Bool) (ms : List Member) (xs : List BusEvent) → AddressesDiffer (descriptions ms) → Each (λ P. P.address ≤ 30) (descriptions ms) → Each (IsClearIf z) ms → LeavesClear z (descriptions ms) xs →
    Unasked z xs → EndsAsAlone z (descriptions ms) ms xs
ends_as_alone z ms xs differ low clear whole u = record {
  answers = λ e c m h.
      (let may : MaySay e (seconds (twins_of ms)) xs = subst (λ ns. MaySay e ns xs) (sym (seconds_of ms)) (may_say (descriptions ms) e xs c) in
      ap (λ ns. map (said_out e) (own_answers ns xs m)) (sym (firsts_of ms))
      ∙ (answers_alike e z (twins_of ms) (twin_of m) xs (twins_alike e z ms differ low clear) may u (in_map twin_of ms m (in_has ms m h))
      ∙ ap (λ ns. map (said_out e) (own_answers ns xs (member_of m.description))) (seconds_of ms)));
  clear =
      (let ts : List Twin = twins_play (twins_of ms) xs in
      let a : AreAlike false z ts = play_alike false z (twins_of ms) xs (twins_alike false z ms differ low clear) (any_data (seconds (twins_of ms)) xs) u in
      let alone : Each (IsClearIf z) (seconds ts) = subst (Each (IsClearIf z)) (ap (λ ns. play ns xs) (sym (seconds_of ms)) ∙ seconds_play (twins_of ms) xs) whole in
      let now : Each (IsClearIf z) (firsts ts) =
      each_map (IsClearIf z) first ts (each_from (λ t. IsClearIf z (second t)) (λ t. IsClearIf z (first t)) ts (λ t h c. first_clear z t (each_in (AlikeTwin false z) ts t a.alike h) c) (each_unmap (IsClearIf z) second ts alone)) in
      subst (Each (IsClearIf z)) (sym (ap (λ ns. play ns xs) (sym (firsts_of ms)) ∙ firsts_play (twins_of ms) xs)) now);
}

-- the terminals stay the same
after_same : (ms : List Member) (x : BusEvent) → descriptions (bus_after ms x) ≡ descriptions ms
after_same ms x = map_both (λ m. after_events (events_for ms x m) m) (λ (m : Member). m.description) ms

pub play_same : (ms : List Member) (xs : List BusEvent) → descriptions (play ms xs) ≡ descriptions ms
play_same ms [] = refl
play_same ms (x ∷ xs) = play_same (bus_after ms x) xs ∙ after_same ms x

pub power_same : (Ps : List Description) → descriptions (powered_up Ps) ≡ Ps
power_same [] = refl
power_same (P ∷ Ps) = ap (λ Qs. P ∷ Qs) (power_same Ps)

pub power_clear : (z : Bool) (Ps : List Description) → Each (IsClearIf z) (powered_up Ps)
power_clear z [] = tt
power_clear z (P ∷ Ps) = (record { message = λ b. refl; run = λ b. refl; reply = refl; on = λ b. refl; free = refl; error = λ q. refl }, power_clear z Ps)

each_as_alone : (z : Bool) (Ps : List Description) (ms : List Member) (messages : List (List BusEvent)) → AddressesDiffer Ps → Each (λ P. P.address ≤ 30) Ps → descriptions ms ≡ Ps → Each (IsClearIf z) ms →
    Each (CanFollow z Ps) messages → EachEndsAsAlone z Ps ms messages
each_as_alone z Ps ms [] differ low same clear follow = tt
each_as_alone z Ps ms (xs ∷ messages) differ low same clear follow =
    let ends : EndsAsAlone z Ps ms xs =
    subst (λ Qs. AddressesDiffer Qs → Each (λ P. P.address ≤ 30) Qs → LeavesClear z Qs xs → EndsAsAlone z Qs ms xs) same (λ d l w. ends_as_alone z ms xs d l clear w follow.0.asks) differ low follow.0.leaves in
    (ends, each_as_alone z Ps (play ms xs) messages differ low (play_same ms xs ∙ same) ends.clear follow.1)

pub alone_decides : AloneDecides
alone_decides z Ps messages differ low follow = each_as_alone z Ps (powered_up Ps) messages differ low (power_same Ps) (power_clear z Ps) follow
