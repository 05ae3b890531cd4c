-- When a bus of terminals stands at members, what its terminals answer, and where words collide.
use Rattle.std.specs.Prelude.{◌≡◌, ℕ, ◌==◌, if◌then◌else◌, Bool, false, nat_le, Option, Some, None, List, [], ◌∷◌, ◌++◌, length, slice_get, slice_index_or}
use Rattle.std.specs.Option.{option_map}
use Rattle.bus_word.specs.declared.word.Bus.{Bus}
use Rattle.bus_word.specs.declared.word.Bus.TheVariants.{A, B}
use Rattle.bus_word.specs.declared.cell.Cell.{Cell}
use Rattle.terminal_rules.specs.declared.event.Event.{Event}
use Rattle.terminal_rules.specs.Out.{Out, Silence}
use Rattle.terminal_state.specs.declared.buses.OnBuses.{OnBuses}
use Rattle.bus_legal.specs.Description.{Description}
use Rattle.bus_terminal.specs.declared.terminal.Terminal.{Terminal}
use Rattle.bus_terminal.specs.Stands.{StandsAt, own_description}
use Rattle.terminal_bus.specs.declared.event.BusEvent.{BusEvent}
use Rattle.terminal_bus.specs.declared.event.BusEvent.TheVariants.{OnBus, SlotPasses, Subsystem}
use Rattle.terminal_bus.specs.declared.seat.Seat.{Seat}
use Rattle.terminal_bus.specs.declared.bus.TerminalBus.{TerminalBus}
use Rattle.terminal_bus.specs.declared.bus.NotAdded.{NotAdded}
use Rattle.terminal_bus.specs.declared.bus.NotAdded.TheVariants.{SameAddress, Full}
use Rattle.terminal_bus.specs.declared.answers.AddressedAnswer.{AddressedAnswer}
use Rattle.terminal_rules.specs.LookBack.{some}
use Rattle.terminal_bus.specs.Members.{Member, sendings}
use Rattle.terminal_bus.specs.Discipline.{has_address}
use Rattle.terminal_bus.specs.Alone.{answers_in}
use Rattle.terminal_bus.specs.Transfer.{actions}
use Rattle.bus_terminal.specs.Answer.{shown_copy}

-- the terminal at a place, which is its number, from 0
abbrev pub seat_at : {L : Type 0} → List (Option (Seat L)) → ℕ → Option (Seat L)
seat_at seats k = slice_index_or seats k None

-- a place has the terminal of a member so, or there is none of both
abbrev pub AtBoth : {L : Type 0} → (Seat L → Member → Type 0) → Option (Seat L) → Option Member → Type 0
AtBoth Q None None = Unit {0}
AtBoth Q None (Some m) = ⊥
AtBoth Q (Some seat) None = ⊥
AtBoth Q (Some seat) (Some m) = Q seat m

-- a terminal has the address of a member, and stands at its history
pub record SeatStands {L : Type 0} (is_legal : L → Cell → Bool) (seat : Seat L) (m : Member) : Type 0 where
  pub address : seat.address ≡ m.description.address
  pub terminal : StandsAt is_legal m.description m.history seat.terminal

-- There are as many places as members, and each place has a terminal that stands at the member there.
pub record SeatsStandAt {L : Type 0} (is_legal : L → Cell → Bool) (members : List Member) (seats : List (Option (Seat L))) : Type 0 where
  pub count : length seats ≡ length members
  pub each : (k : ℕ) → AtBoth (SeatStands is_legal) (seat_at seats k) (slice_get members k)

abbrev pub BusStandsAt : {L : Type 0} → (L → Cell → Bool) → List Member → TerminalBus L → Type 0
BusStandsAt is_legal members bus = SeatsStandAt is_legal members bus.seats.items

-- of the terminal at a place, if there is one
abbrev pub AtSeat : {L : Type 0} → (Seat L → Seat L → Type 0) → Option (Seat L) → Option (Seat L) → Type 0
AtSeat R None None = Unit {0}
AtSeat R None (Some new) = ⊥
AtSeat R (Some old) None = ⊥
AtSeat R (Some old) (Some new) = R old new

-- of each place
abbrev pub EachSeat : {L : Type 0} → (Seat L → Seat L → Type 0) → List (Option (Seat L)) → List (Option (Seat L)) → Type 0
EachSeat R olds news = (k : ℕ) → AtSeat R (seat_at olds k) (seat_at news k)

-- a terminal has the legality and the description of its own that another has, wherever both stand
pub record IsSameTerminal {L : Type 0} (is_legal : L → Cell → Bool) (old new : Seat L) : Type 0 where
  pub legality : new.terminal.legality ≡ old.terminal.legality
  pub description : own_description is_legal new.terminal ≡ own_description is_legal old.terminal

-- of each terminal of a bus
abbrev pub AreSameTerminals : {L : Type 0} → (L → Cell → Bool) → TerminalBus L → TerminalBus L → Type 0
AreSameTerminals is_legal old new = EachSeat (IsSameTerminal is_legal) old.seats.items new.seats.items

-- a bus has one terminal more than another, behind the others
pub record IsBehind {L : Type 0} (t : Terminal L) (old new : TerminalBus L) : Type 0 where
  pub seat : Seat L
  pub terminal : seat.terminal ≡ t
  pub seats : new.seats.items ≡ old.seats.items ++ Some seat ∷ []

-- a terminal that stands where that of a place stands, with the same legality and the same description of its own; or there is none of both
pub record IsTerminalOf {L : Type 0} (is_legal : L → Cell → Bool) (seat : Seat L) (t : Terminal L) : Type 0 where
  pub stands : (P : Description) (h : List Event) → StandsAt is_legal P h seat.terminal → StandsAt is_legal P h t
  pub legality : t.legality ≡ seat.terminal.legality
  pub description : own_description is_legal t ≡ own_description is_legal seat.terminal

abbrev pub IsTerminalAt : {L : Type 0} → (L → Cell → Bool) → Option (Seat L) → Option (Terminal L) → Type 0
IsTerminalAt is_legal None None = Unit {0}
IsTerminalAt is_legal None (Some t) = ⊥
IsTerminalAt is_legal (Some seat) None = ⊥
IsTerminalAt is_legal (Some seat) (Some t) = IsTerminalOf is_legal seat t

-- the answer that a place keeps
abbrev pub kept_at : {L : Type 0} → Option (Seat L) → Out
kept_at None = Silence
kept_at (Some seat) = shown_copy seat.answer

-- Each place keeps what its terminal sends or hands over, while this happens at members. It is one answer, since of an
-- event and the words that follow it only the event is answered.
abbrev pub AnswersAt : {L : Type 0} → List Member → BusEvent → TerminalBus L → Type 0
AnswersAt members x bus =
    (k : ℕ) (m : Member) → slice_get members k ≡ Some m → actions (kept_at (seat_at bus.seats.items k) ∷ []) ≡ actions (answers_in members x m)

-- two or more terminals send on a bus in a slot
abbrev pub collides : Bus → List Member → BusEvent → Bool
collides b members (OnBus e) = false
collides b members SlotPasses = nat_le 2 (length (sendings b members))
collides b members (Subsystem a e) = false

abbrev pub collisions : List Member → BusEvent → OnBuses
collisions members x = record { a = collides A members x; b = collides B members x }

-- why a terminal with this address is not added to members, if it is not
abbrev pub not_added : List Member → ℕ → Option NotAdded
not_added members a =
    if some (has_address a) members then Some (SameAddress a)
    else if length members == 31 then Some Full
    else None

abbrev pub answered_address : AddressedAnswer → ℕ
answered_address it = it.address

-- the address of the member at a place
abbrev pub member_address : List Member → ℕ → Option ℕ
member_address members k = option_map (λ m. m.description.address) (slice_get members k)
