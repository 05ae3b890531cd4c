-- What a recording told so far.
use Rattle.std.proofs.Common.{◌≡◌, ℕ, suc, Bool, if◌then◌else◌, Option, List, [], ◌∷◌, ◌++◌, length, drop, ◌≤◌, subst, ap, sym, ◌∙◌, append_assoc, append-nil}
use Rattle.std.proofs.Math.ListN.{drop_of_length-le}
use Rattle.bus_word.specs.declared.cell.Cell.{Cell}
use Rattle.bus_legal.specs.Description.{Description}
use Rattle.bus_terminal.specs.declared.answer.Sent.{Sent}
use Rattle.terminal_rules.specs.declared.event.Event.{Event}
use Rattle.terminal_rules.specs.Past.{history_after}
use Rattle.terminal_rules.specs.Same.{AreProper}
use Rattle.terminal_rules.specs.Out.{out, sent_in}
use Rattle.terminal_recordings.specs.Recordings.{sightings_from}
use Rattle.terminal_recordings.specs.Completion.{next_status, shown_from}
use Rattle.terminal_recordings.proofs.Law.{proper_join}
use Rattle.terminal_recordings.proofs.Tests.{is_sighting}
use Rattle.terminal_recordings.proofs.Told.{sightings_quiet, sightings_more}
use Rattle.recorded_terminal.specs.declared.sighting.Sighting.{Sighting as Seen}
use Rattle.recorded_terminal.specs.declared.follower.Follower.{Follower}
use Rattle.recorded_terminal.specs.SentWords.{word_shown}
use Rattle.recorded_terminal.specs.Sightings.{shown_sighting, recorded}
use Rattle.recorded_terminal.specs.Follows.{FollowsAt, told_by, AreTold}
use Rattle.recorded_terminal.proofs.SoFar.{shown_more}
use Rattle.recorded_terminal.proofs.TellLaws.{history_join}

-- the events of the first n sightings after a history, at which the terminal stands as at what is told of them in full
pub record ToldSoFar {L : Type 0} (is_legal : L → Cell → Bool) (P : Description) (begun : List Event) (xs : List Seen) (n : ℕ) (next : Option ℕ) (events : List Event) (f : Follower L) : Type 0 where
  pub history : List Event
  pub follows : FollowsAt is_legal P history f
  pub follows_told : FollowsAt is_legal P (history_after events begun) f
  pub status : next ≡ next_status (recorded (drop n xs))
  pub shown : shown_from P begun (recorded xs) ≡ sightings_from P begun events ++ shown_from P history (recorded (drop n xs))
  pub proper : AreProper events

-- what is seen of one sighting more
seen_more : (P : Description) (begun events told : List Event) (x : Seen) (sent : Option Sent) → AreTold told →
    word_shown sent ≡ sent_in (out P (history_after told (history_after events begun)) x.event) →
    sightings_from P begun (events ++ (told ++ x.event ∷ [])) ≡ sightings_from P begun events ++ (record { event = x.event; sent = word_shown sent } ∷ [])
seen_more P begun events told x sent are sends =
    let k : List Event = history_after told (history_after events begun) in
    sightings_more P events begun (told ++ x.event ∷ [])
    ∙ (ap (λ l. sightings_from P begun events ++ l) (sightings_quiet P told (history_after events begun) (x.event ∷ []) are.0)
    ∙ (ap (λ t. sightings_from P begun events ++ (if t then record { event = x.event; sent = sent_in (out P k x.event) } ∷ [] else [])) (is_sighting (shown_sighting x) x.seen x.bits).seen
    ∙ (λ j. sightings_from P begun events ++ (record { event = x.event; sent = sym sends j } ∷ []))))

-- and one sighting further
pub told_more : {L : Type 0} (is_legal : L → Cell → Bool) (P : Description) (begun : List Event) (xs : List Seen) (n m : ℕ) (x : Seen) (next more : Option ℕ) (events told : List Event) (sent : Option Sent) (f g : Follower L) →
    m ≡ suc n → drop n xs ≡ x ∷ drop (suc n) xs → AreTold told → (s : ToldSoFar is_legal P begun xs n next events f) →
    word_shown sent ≡ sent_in (out P (history_after (told_by P s.history next (word_shown x.sent)) s.history) x.event) →
    word_shown sent ≡ sent_in (out P (history_after told (history_after events begun)) x.event) →
    FollowsAt is_legal P (x.event ∷ history_after (told_by P s.history next (word_shown x.sent)) s.history) g →
    FollowsAt is_legal P (x.event ∷ history_after told (history_after events begun)) g →
    more ≡ next_status (recorded (drop (suc n) xs)) → ToldSoFar is_legal P begun xs m more (events ++ (told ++ x.event ∷ [])) g
told_more is_legal P begun xs n m x next more events told sent f g e cut are s sends sends_told stands stands_told status =
    let k : List Event = history_after (told_by P s.history next (word_shown x.sent)) s.history in
    let front : sightings_from P begun events ++ (record { event = x.event; sent = word_shown sent } ∷ []) ≡ sightings_from P begun (events ++ (told ++ x.event ∷ [])) = sym (seen_more P begun events told x sent are sends_told) in
    record {
      history = x.event ∷ k;
      follows = stands;
      follows_told = subst (λ (h : List Event). FollowsAt is_legal P h g) (sym (history_join events (told ++ x.event ∷ []) begun ∙ history_join told (x.event ∷ []) (history_after events begun))) stands_told;
      status = status ∙ ap (λ i. next_status (recorded (drop i xs))) (sym e);
      shown =
          shown_more P xs n x next s.history sent (shown_from P begun (recorded xs)) (sightings_from P begun events) cut s.status s.shown sends
          ∙ (sym (append_assoc (sightings_from P begun events) (record { event = x.event; sent = word_shown sent } ∷ []) (shown_from P (x.event ∷ k) (recorded (drop (suc n) xs))))
          ∙ (λ j. front j ++ shown_from P (x.event ∷ k) (recorded (drop (sym e j) xs))));
      proper = proper_join events (told ++ x.event ∷ []) s.proper (proper_join told (x.event ∷ []) are.1 ((is_sighting (shown_sighting x) x.seen x.bits).proper, tt));
    }

-- all of them
pub told_all : (P : Description) (begun : List Event) (xs : List Seen) (n : ℕ) (k events : List Event) → length xs ≤ n →
    shown_from P begun (recorded xs) ≡ sightings_from P begun events ++ shown_from P k (recorded (drop n xs)) → sightings_from P begun events ≡ shown_from P begun (recorded xs)
told_all P begun xs n k events m e =
    sym (e ∙ (ap (λ t. sightings_from P begun events ++ shown_from P k (recorded t)) (drop_of_length-le xs m) ∙ append-nil (sightings_from P begun events)))
