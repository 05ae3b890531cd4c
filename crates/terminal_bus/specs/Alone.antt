-- A terminal answers on the bus as it does alone.
use Rattle.std.specs.Prelude.{◌≡◌, ℕ, ◌<◌, ◌≤◌, ◌^◌, List, [], ◌∷◌, ◌++◌, map}
use Rattle.bus_legal.specs.Description.{Description}
use Rattle.terminal_rules.specs.Same.{IsProper, AreProper}
use Rattle.terminal_rules.specs.Out.{Out, outs_from, outs}
use Rattle.terminal_bus.specs.Lists.{Each}
use Rattle.terminal_bus.specs.declared.event.BusEvent.{BusEvent}
use Rattle.terminal_bus.specs.declared.event.BusEvent.TheVariants.{OnBus, SlotPasses, Subsystem}
use Rattle.terminal_bus.specs.Members.{Member, events_for, after_events, bus_after, play, member_of, powered_up, all_events_for}

-- what one terminal answers to its events, while this happens on the bus
abbrev pub answers_in : List Member → BusEvent → Member → List Out
answers_in members x m = outs_from m.description m.history (events_for members x m)

abbrev pub own_answers : List Member → List BusEvent → Member → List Out
own_answers members [] m = []
own_answers members (x ∷ xs) m =
    answers_in members x m ++ own_answers (bus_after members x) xs (after_events (events_for members x m) m)

-- a terminal that can exist: its address is 0 to 30 (MIL-STD-1553B, 4.3.3.5.1.2), and its words at power-up have 16 bits
pub record CanExist (P : Description) : Type 0 where
  pub low : P.address ≤ 30
  pub initial : (s i : ℕ) → P.initial s i < 2 ^ 16
  pub vector : P.vector < 2 ^ 16
  pub bit : P.bit < 2 ^ 16

-- an event that can happen: its words have 16 bits
abbrev pub CanHappen : BusEvent → Type 0
CanHappen (OnBus e) = IsProper e
CanHappen SlotPasses = Unit {0}
CanHappen (Subsystem a e) = IsProper e

-- From power-up, the answers of a terminal on the bus are those of its description to the events that come to it, and its
-- history is those events. They are proper: the words that other terminals send have 16 bits.
pub record AloneLaw : Type 0 where
  pub answers : (Ps : List Description) (xs : List BusEvent) (P : Description) →
      own_answers (powered_up Ps) xs (member_of P) ≡ outs P (all_events_for (powered_up Ps) xs (member_of P))
  pub histories : (Ps : List Description) (xs : List BusEvent) →
      play (powered_up Ps) xs ≡ map (λ P. after_events (all_events_for (powered_up Ps) xs (member_of P)) (member_of P)) Ps
  pub proper : (Ps : List Description) (xs : List BusEvent) (P : Description) → Each CanExist Ps → Each CanHappen xs →
      AreProper (all_events_for (powered_up Ps) xs (member_of P))
