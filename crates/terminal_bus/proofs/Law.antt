-- The laws of a bus: alone, and one speaker.
use Rattle.std.proofs.Common.{◌≡◌, ◌≤◌, true, Option, Some, None, is_some, List, [], ◌∷◌, ◌++◌, map, length, refl, ap, sym, ◌∙◌, subst, arith}
use Rattle.bus_word.specs.declared.word.Bus.{Bus}
use Rattle.bus_legal.specs.Description.{Description}
use Rattle.terminal_rules.specs.declared.event.Event.{Event}
use Rattle.terminal_rules.specs.LookBack.{keep}
use Rattle.terminal_rules.specs.Past.{history_after}
use Rattle.terminal_rules.specs.Out.{Sending, out, outs_from}
use Rattle.terminal_bus.specs.declared.event.BusEvent.{BusEvent}
use Rattle.terminal_bus.specs.Members.{Member, sent_on, events_for, after_events, bus_after, play, member_of, powered_up, all_events_for}
use Rattle.terminal_bus.specs.Alone.{answers_in, own_answers, AloneLaw}
use Rattle.terminal_bus.specs.Discipline.{member_reply, replies}
use Rattle.terminal_bus.specs.Lists.{Each, EachTwo}
use Rattle.terminal_bus.specs.OneSpeaker.{OneSpeakerLaw}
use Rattle.terminal_bus.proofs.Sent.{sender, after_both}
use Rattle.terminal_bus.proofs.Proper.{proper_law}
use Rattle.terminal_bus.proofs.Pairs.{Pair, pairs_stay, pairs_start}

-- one at most
kept_none : {X : Type 0} (f : Member → Option X) (ms : List Member) → Each (λ n. is_some (f n) ≡ true → ⊥) ms → (let none : List X = [] in keep f ms ≡ none)
kept_none f [] e = refl
kept_none {X} f (m ∷ ms) e = by_answer (f m) e.0 (kept_none f ms e.1)
  where
    by_answer : (o : Option X) → (is_some o ≡ true → ⊥) → (let none : List X = [] in keep f ms ≡ none) →
        (let none : List X = [] in (elim o as (λ o. List X) [ None ↦ keep f ms | Some y ↦ y ∷ keep f ms ]) ≡ none)
    by_answer None n r = r
    by_answer (Some y) n r = absurd (n refl)

each_from : (P Q : Member → Type 0) (ms : List Member) → ((n : Member) → P n → Q n) → Each P ms → Each Q ms
each_from P Q [] g e = tt
each_from P Q (m ∷ ms) g e = (g m e.0, each_from P Q ms g e.1)

two_from : (R S : Member → Member → Type 0) (ms : List Member) → ((m n : Member) → R m n → S m n) → EachTwo R ms → EachTwo S ms
two_from R S [] g e = tt
two_from R S (m ∷ ms) g e = (each_from (R m) (S m) ms (g m) e.0, two_from R S ms g e.1)

abbrev NotBoth : {X : Type 0} → (Member → Option X) → Member → Member → Type 0
NotBoth f m n = is_some (f m) ≡ true → is_some (f n) ≡ true → ⊥

at_most_one : {X : Type 0} (f : Member → Option X) (ms : List Member) → EachTwo (NotBoth f) ms → length (keep f ms) ≤ 1
at_most_one f [] e = omega arith
at_most_one {X} f (m ∷ ms) e = by_answer (f m) refl (at_most_one f ms e.1)
  where
    by_answer : (o : Option X) → f m ≡ o → length (keep f ms) ≤ 1 → length (elim o as (λ o. List X) [ None ↦ keep f ms | Some y ↦ y ∷ keep f ms ]) ≤ 1
    by_answer None q r = r
    by_answer (Some y) q r =
        let none : Each (λ n. is_some (f n) ≡ true → ⊥) ms = each_from (NotBoth f m) (λ n. is_some (f n) ≡ true → ⊥) ms (λ n b. b (ap is_some q)) e.0 in
        subst (λ (xs : List X). length (y ∷ xs) ≤ 1) (sym (kept_none f ms none)) (omega arith)

sends_replies : (b : Bus) (m : Member) → is_some (sent_on b m) ≡ true → replies m ≡ true
sends_replies b m e = by_answer (sent_on b m) refl e
  where
    by_answer : (o : Option Sending) → sent_on b m ≡ o → is_some o ≡ true → replies m ≡ true
    by_answer None q e = cc
    by_answer (Some x) q e = (sender m b x q).0

pub one_speaker_law : OneSpeakerLaw
one_speaker_law Ps xs apart d =
    let two : EachTwo Pair (play (powered_up Ps) xs) = pairs_stay xs (powered_up Ps) d (pairs_start Ps apart) in
    record {
      replies = at_most_one member_reply (play (powered_up Ps) xs) (two_from Pair (NotBoth member_reply) (play (powered_up Ps) xs) (λ m n p. p.quiet) two);
      sendings = λ b. at_most_one (sent_on b) (play (powered_up Ps) xs) (two_from Pair (NotBoth (sent_on b)) (play (powered_up Ps) xs) (λ m n p r s. p.quiet (sends_replies b m r) (sends_replies b n s)) two);
    }

-- alone
answers_join : (P : Description) (xs ys h : List Event) → outs_from P h (xs ++ ys) ≡ outs_from P h xs ++ outs_from P (history_after xs h) ys
answers_join P [] ys h = refl
answers_join P (x ∷ xs) ys h = ap (λ os. out P h x ∷ os) (answers_join P xs ys (x ∷ h))

alone_from : (ms : List Member) (xs : List BusEvent) (m : Member) → own_answers ms xs m ≡ outs_from m.description m.history (all_events_for ms xs m)
alone_from ms [] m = refl
alone_from ms (x ∷ xs) m =
    ap (λ os. answers_in ms x m ++ os) (alone_from (bus_after ms x) xs (after_events (events_for ms x m) m))
    ∙ sym (answers_join m.description (events_for ms x m) (all_events_for (bus_after ms x) xs (after_events (events_for ms x m) m)) m.history)

map_map : (f g : Member → Member) (ms : List Member) → map g (map f ms) ≡ map (λ m. g (f m)) ms
map_map f g [] = refl
map_map f g (m ∷ ms) = ap (λ xs. g (f m) ∷ xs) (map_map f g ms)

map_start : (f : Member → Member) (Ps : List Description) → map f (powered_up Ps) ≡ map (λ P. f (member_of P)) Ps
map_start f [] = refl
map_start f (P ∷ Ps) = ap (λ xs. f (member_of P) ∷ xs) (map_start f Ps)

map_same : (f g : Member → Member) (ms : List Member) → ((m : Member) → f m ≡ g m) → map f ms ≡ map g ms
map_same f g [] e = refl
map_same f g (m ∷ ms) e = λ j. e m j ∷ map_same f g ms e j

play_map : (xs : List BusEvent) (ms : List Member) → play ms xs ≡ map (λ m. after_events (all_events_for ms xs m) m) ms
play_map [] ms = map_id ms
  where
    map_id : (ms : List Member) → ms ≡ map (λ m. after_events [] m) ms
    map_id [] = refl
    map_id (m ∷ ms) = ap (λ xs. m ∷ xs) (map_id ms)
play_map (x ∷ xs) ms =
    play_map xs (bus_after ms x)
    ∙ (map_map (λ m. after_events (events_for ms x m) m) (λ m. after_events (all_events_for (bus_after ms x) xs m) m) ms
    ∙ map_same _ _ ms (λ m. ap (λ (h : List Event). let n : Member = record { description = m.description; history = h } in n) (sym (after_both (events_for ms x m) (all_events_for (bus_after ms x) xs (after_events (events_for ms x m) m)) m.history))))

pub alone_law : AloneLaw
alone_law = record {
  answers = λ Ps xs P. alone_from (powered_up Ps) xs (member_of P);
  proper = proper_law;
  histories = λ Ps xs. play_map xs (powered_up Ps) ∙ map_start (λ m. after_events (all_events_for (powered_up Ps) xs m) m) Ps;
}
