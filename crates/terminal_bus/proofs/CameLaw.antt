-- What the places keep after a slot tells what came to each terminal.
use Rattle.std.proofs.Common.{◌≡◌, ℕ, Bool, Option, Some, None, List, [], ◌∷◌, slice_get, refl, ap, sym, subst, ◌∙◌}
use Rattle.std.proofs.lemmas.Option.{slice_get-map}
use Rattle.std.proofs.lemmas.List.{length-map}
use Rattle.std.specs.Option.{option_map}
use Rattle.bus_word.specs.declared.word.Bus.{Bus}
use Rattle.bus_word.specs.declared.cell.Cell.{Cell}
use Rattle.terminal_rules.specs.declared.event.Event.TheVariants.{Slot}
use Rattle.terminal_rules.specs.LookBack.{keep}
use Rattle.terminal_rules.specs.Out.{Out, Silence, SendsWord, HandsOver, Sending, out, sent_in}
use Rattle.terminal_bus.specs.declared.event.BusEvent.{BusEvent}
use Rattle.terminal_bus.specs.declared.event.BusEvent.TheVariants.{SlotPasses}
use Rattle.terminal_bus.specs.declared.seat.Seat.{Seat}
use Rattle.terminal_rules.specs.declared.event.Event.{Event}
use Rattle.terminal_bus.specs.Members.{Member, if_on, sent_on, sendings, heard_of, heard_on, unless_sends, events_for, after_events, bus_after}
use Rattle.terminal_bus.specs.Alone.{answers_in}
use Rattle.terminal_bus.specs.Transfer.{actions}
use Rattle.terminal_bus.specs.AtMembers.{seat_at, AtBoth, SeatStands, SeatsStandAt, kept_at}
use Rattle.terminal_bus.specs.inner.Seats.{sends_at}
use Rattle.terminal_bus.proofs.Together.{over, keep_alike, slot_acts}

first_word : List Out → Option Sending
first_word [] = None
first_word (o ∷ os) = sent_in o

first_law : (o : Out) → first_word (actions (o ∷ [])) ≡ sent_in o
unfolding first_word
first_law Silence = refl
first_law (SendsWord sending) = refl
first_law (HandsOver handing) = refl

-- what acts alike sends the same word
same_word : (o p : Out) → actions (o ∷ []) ≡ actions (p ∷ []) → sent_in o ≡ sent_in p
same_word o p e = sym (first_law o) ∙ (ap first_word e ∙ first_law p)

module _ {L : Type 0} (is_legal : L → Cell → Bool) (members : List Member) where
  abbrev Kept : List (Option (Seat L)) → Type 0
  Kept seats = (k : ℕ) (m : Member) → slice_get members k ≡ Some m → actions (kept_at (seat_at seats k) ∷ []) ≡ actions (answers_in members SlotPasses m)

  sends_kept : (b : Bus) (o : Option (Seat L)) → sends_at b o ≡ if_on b (sent_in (kept_at o))
  sends_kept b None = refl
  sends_kept b (Some seat) = refl

  pub sent_by : (b : Bus) (seats : List (Option (Seat L))) → Kept seats → (k : ℕ) (m : Member) → slice_get members k ≡ Some m → sends_at b (seat_at seats k) ≡ sent_on b m
  sent_by b seats kept k m e =
      sends_kept b (seat_at seats k)
      ∙ ap (if_on b) (same_word (kept_at (seat_at seats k)) (out m.description m.history Slot) (kept k m e ∙ sym (slot_acts is_legal members m)))

  none_sent : (b : Bus) (o : Option (Seat L)) (n : Option Member) → n ≡ None → AtBoth (SeatStands is_legal) o n → sends_at b o ≡ None
  none_sent b None n e q = refl
  none_sent b (Some seat) None e q = absurd q
  none_sent b (Some seat) (Some m) e q = cc

  sent_at_place : (b : Bus) (seats : List (Option (Seat L))) → Kept seats → (k : ℕ) (n : Option Member) → slice_get members k ≡ n →
      AtBoth (SeatStands is_legal) (seat_at seats k) (option_map (λ p. after_events (events_for members SlotPasses p) p) n) → sends_at b (seat_at seats k) ≡ over (sent_on b) n
  sent_at_place b seats kept k None e q = none_sent b (seat_at seats k) None refl q
  sent_at_place b seats kept k (Some m) e q = sent_by b seats kept k m e

  -- the words that the places keep are those that were sent
  sendings_kept : (b : Bus) (seats : List (Option (Seat L))) → SeatsStandAt is_legal (bus_after members SlotPasses) seats → Kept seats → keep (sends_at b) seats ≡ sendings b members
  sendings_kept b seats stands kept =
      keep_alike (sends_at b) (sent_on b) seats members (stands.count ∙ length-map members (λ p. after_events (events_for members SlotPasses p) p))
      (λ k. sent_at_place b seats kept k (slice_get members k) refl
      (subst (λ (n : Option Member). AtBoth (SeatStands is_legal) (seat_at seats k) n) (slice_get-map (λ p. after_events (events_for members SlotPasses p) p) members k) (stands.each k)))

  pub heard_law : (b : Bus) (seats lent : List (Option (Seat L))) → SeatsStandAt is_legal (bus_after members SlotPasses) seats → Kept seats → lent ≡ seats →
      (k : ℕ) (m : Member) → slice_get members k ≡ Some m → (o : Option Sending) → o ≡ sends_at b (seat_at lent k) → (es : List Event) →
      es ≡ unless_sends o (heard_of b (keep (sends_at b) lent)) → es ≡ heard_on b members m
  heard_law b seats lent stands kept v k m e o sent es is =
      let own : o ≡ sent_on b m = sent ∙ (ap (λ (w : List (Option (Seat L))). sends_at b (seat_at w k)) v ∙ sent_by b seats kept k m e) in
      let all : keep (sends_at b) lent ≡ sendings b members = ap (keep (sends_at b)) v ∙ sendings_kept b seats stands kept in
      is ∙ λ j. unless_sends (own j) (heard_of b (all j))

  pub after_at : (x : BusEvent) (k : ℕ) (m : Member) → slice_get members k ≡ Some m → slice_get (bus_after members x) k ≡ Some (after_events (events_for members x m) m)
  after_at x k m e = slice_get-map (λ p. after_events (events_for members x p) p) members k ∙ ap (option_map (λ p. after_events (events_for members x p) p)) e
