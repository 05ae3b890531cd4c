-- What is promised of a bus that is stepped by plain events.
use Rattle.std.specs.Prelude.{◌≡◌, ℕ, Option, Some, None, List, [], ◌∷◌, ◌++◌}
use Rattle.std.specs.List.{flat_map}
use Rattle.bus_legal.specs.Description.{Description}
use Rattle.bus_legal.specs.Parts.{Parts}
use Rattle.bus_legal.specs.Tables.{tables_say}
use Rattle.terminal_rules.specs.declared.event.Event.{Event}
use Rattle.terminal_rules.specs.Out.{Silence}
use Rattle.terminal_bus.specs.declared.event.BusEvent.{BusEvent}
use Rattle.terminal_bus.specs.declared.bus.TerminalBus.{TerminalBus}
use Rattle.terminal_bus.specs.Members.{Member, bus_after, member_at}
use Rattle.terminal_bus.specs.AtMembers.{BusStandsAt, collisions}
use Rattle.rt1553_live.specs.declared.terminal.Live.{Live}
use Rattle.rt1553_live.specs.Live.{AnswersAs}
use Rattle.rt1553_live.specs.PlainAnswer.{answer_in}
use Rattle.live_bus.specs.declared.front.LiveBus.{LiveBus}
use Rattle.live_bus.specs.BusNumbers.{meant_event, member_told, told_in}

-- a machine of terminals stands at these members
abbrev pub IsAtMembers : List Member → TerminalBus Parts → Type 0
IsAtMembers members bus = BusStandsAt (λ (normal : Parts). tables_say normal.tables) members bus

abbrev pub StandsAtMembers : List Member → LiveBus → Type 0
StandsAtMembers members x = IsAtMembers members x.bus

-- nobody is on the bus, and nothing was answered yet
pub record IsEmptyBus (x : LiveBus) : Type 0 where
  pub stands : StandsAtMembers [] x
  pub count : x.count ≡ 0
  pub for_all : x.to ≡ 255

-- This happened at these members: the bus stands at the members after it, and in front of it stand what each of them
-- sent or handed over, in their order, and whether words collided.
pub record IsBusStepped (members : List Member) (e : BusEvent) (x w : LiveBus) : Type 0 where
  pub stands : StandsAtMembers (bus_after members e) w
  pub answers : told_in w.count w.answers ≡ flat_map (member_told members e) members
  pub collisions : collisions members e ≡ record { a = w.collided_a; b = w.collided_b }
  pub event : w.event ≡ x.event
  pub to : w.to ≡ x.to

-- 0 where something happened; 2 where nothing did, and nothing changed
abbrev pub StepsBusBy : List Member → Option BusEvent → LiveBus → ℕ → LiveBus → Type 0
StepsBusBy members (Some e) x status w = (status ≡ 0) × IsBusStepped members e x w
StepsBusBy members None x status w = (status ≡ 2) × (w ≡ x)

-- what the numbers in front mean happened, or they mean nothing and nothing changed
abbrev pub StepsBus : List Member → LiveBus → ℕ → LiveBus → Type 0
StepsBus members x status w = StepsBusBy members (meant_event members x) x status w

-- so at whatever members the bus stood
abbrev pub StepsAtAll : LiveBus → ℕ → LiveBus → Type 0
StepsAtAll x status w = (members : List Member) → StandsAtMembers members x → StepsBus members x status w

-- A terminal is on the bus behind these members: as whatever it answers, and at whatever history it is. The description
-- of its member is its own, which answers as that one does (`AnswersAs`). What stands in front is as it was.
pub record Joins (members : List Member) (it : Live) (x w : LiveBus) : Type 0 where
  pub stands : (P : Description) (h : List Event) (a : AnswersAs P h it.terminal) → StandsAtMembers (members ++ member_at a.own h ∷ []) w
  pub event : w.event ≡ x.event
  pub to : w.to ≡ x.to
  pub answers : w.answers ≡ x.answers
  pub count : w.count ≡ x.count

-- A terminal that goes on as a member does, of which nothing was asked yet; there is one exactly if there is that member.
abbrev pub IsTaken : Option Member → Option Live → Type 0
IsTaken None None = Unit {0}
IsTaken None (Some it) = ⊥
IsTaken (Some m) None = ⊥
IsTaken (Some m) (Some it) = AnswersAs m.description m.history it.terminal × (answer_in it.answer ≡ Some Silence)

-- the same in front, and a bus that stands wherever that one stands
pub record IsBusCopy (x w : LiveBus) : Type 0 where
  pub stands : (members : List Member) → StandsAtMembers members x → StandsAtMembers members w
  pub event : w.event ≡ x.event
  pub to : w.to ≡ x.to
  pub count : w.count ≡ x.count
  pub answers : w.answers ≡ x.answers
  pub on_a : w.collided_a ≡ x.collided_a
  pub on_b : w.collided_b ≡ x.collided_b
