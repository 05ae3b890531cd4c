-- What the places of a bus become, each by itself.
use Rattle.std.specs.Prelude.{◌≡◌, ℕ, ◌<◌, ◌≤◌, Bool, false, true, ◌==◌, nat_le, Option, Some, None, List, [], ◌∷◌, length}
use Rattle.bus_word.specs.declared.word.Bus.{Bus}
use Rattle.bus_word.specs.declared.word.Bus.TheVariants.{A, B}
use Rattle.bus_word.specs.declared.cell.Cell.{Cell}
use Rattle.bus_legal.specs.Description.{Description}
use Rattle.terminal_rules.specs.declared.event.Event.{Event}
use Rattle.terminal_rules.specs.declared.event.Event.TheVariants.{Slot}
use Rattle.terminal_rules.specs.LookBack.{keep}
use Rattle.terminal_rules.specs.Out.{Silence, Sending, sent_in}
use Rattle.terminal_rules.specs.Past.{history_after}
use Rattle.terminal_state.specs.declared.buses.OnBuses.{OnBuses}
use Rattle.bus_terminal.specs.Stands.{StandsAt, AnswersEvent}
use Rattle.bus_terminal.specs.declared.terminal.Terminal.{Terminal}
use Rattle.terminal_bus.specs.declared.seat.Seat.{Seat}
use Rattle.terminal_bus.specs.Members.{if_on, unless_sends, heard_of}
use Rattle.bus_terminal.specs.Answer.{shown_copy}
use Rattle.terminal_bus.specs.AtMembers.{seat_at, IsSameTerminal, AtSeat, EachSeat}

-- a terminal that took these events, wherever it stood
abbrev pub TakesAll : {L : Type 0} → (L → Cell → Bool) → List Event → Terminal L → Terminal L → Type 0
TakesAll is_legal es t u = (P : Description) (h : List Event) → StandsAt is_legal P h t → StandsAt is_legal P (history_after es h) u

-- it stands wherever the other stands
pub record Stays {L : Type 0} (is_legal : L → Cell → Bool) (old new : Seat L) : Type 0 where
  pub address : new.address ≡ old.address
  pub takes : TakesAll is_legal [] old.terminal new.terminal
  pub same : IsSameTerminal is_legal old new

-- it took these events, and its answer is as it was
pub record SeatTakes {L : Type 0} (is_legal : L → Cell → Bool) (es : List Event) (old new : Seat L) : Type 0 where
  pub address : new.address ≡ old.address
  pub answer : shown_copy new.answer ≡ shown_copy old.answer
  pub takes : TakesAll is_legal es old.terminal new.terminal
  pub same : IsSameTerminal is_legal old new

-- it took an event, and keeps its answer
pub record SeatSteps {L : Type 0} (is_legal : L → Cell → Bool) (e : Event) (old new : Seat L) : Type 0 where
  pub address : new.address ≡ old.address
  pub answer : AnswersEvent is_legal e old.terminal (shown_copy new.answer)
  pub takes : TakesAll is_legal (e ∷ []) old.terminal new.terminal
  pub same : IsSameTerminal is_legal old new

-- it took an event if it has this address, and else has no answer
pub record StepsIfAddressed {L : Type 0} (is_legal : L → Cell → Bool) (a : ℕ) (e : Event) (old new : Seat L) : Type 0 where
  pub address : new.address ≡ old.address
  pub own : (old.address == a) ≡ true → SeatSteps is_legal e old new
  pub other : (old.address == a) ≡ false → (shown_copy new.answer ≡ Silence) × TakesAll is_legal [] old.terminal new.terminal
  pub same : IsSameTerminal is_legal old new

-- the word that a terminal sends on a bus, by its answer
abbrev pub sends_there : {L : Type 0} → Bus → Seat L → Option Sending
sends_there b seat = if_on b (sent_in (shown_copy seat.answer))

abbrev pub sends_at : {L : Type 0} → Bus → Option (Seat L) → Option Sending
sends_at b None = None
sends_at b (Some seat) = sends_there b seat

-- it took these events, unless it sends on the bus
abbrev pub Hears : {L : Type 0} → (L → Cell → Bool) → Bus → List Event → Seat L → Seat L → Type 0
Hears is_legal b es old new = SeatTakes is_legal (unless_sends (sends_there b old) es) old new

abbrev pub are_many : List Sending → Bool
are_many words = nat_le 2 (length words)

-- All took a slot, and then what comes on bus A, and then on bus B, of the words that they sent.
pub record SlotSteps {L : Type 0} (is_legal : L → Cell → Bool) (olds news : List (Option (Seat L))) (many : OnBuses) : Type 0 where
  pub slot : List (Option (Seat L))
  pub a_heard : List (Option (Seat L))
  pub length_slot : length slot ≡ length olds
  pub length_a : length a_heard ≡ length olds
  pub length_b : length news ≡ length olds
  pub steps : EachSeat (SeatSteps is_legal Slot) olds slot
  pub a_hears : EachSeat (Hears is_legal A (heard_of A (keep (sends_at A) slot))) slot a_heard
  pub b_hears : EachSeat (Hears is_legal B (heard_of B (keep (sends_at B) a_heard))) a_heard news
  pub a_many : many.a ≡ are_many (keep (sends_at A) slot)
  pub b_many : many.b ≡ are_many (keep (sends_at B) a_heard)

-- of the places below one, and the others are as they were
pub record EachBelow {L : Type 0} (R : Seat L → Seat L → Type 0) (i : ℕ) (olds news : List (Option (Seat L))) : Type 0 where
  pub below : (k : ℕ) → k < i → AtSeat R (seat_at olds k) (seat_at news k)
  pub others : (k : ℕ) → i ≤ k → seat_at news k ≡ seat_at olds k

-- the address of the terminal at a place
abbrev pub address_at : {L : Type 0} → Option (Seat L) → Option ℕ
address_at None = None
address_at (Some seat) = Some seat.address

-- the terminal at a place has this address
abbrev pub is_addressed : {L : Type 0} → ℕ → Option (Seat L) → Bool
is_addressed a None = false
is_addressed a (Some seat) = seat.address == a
