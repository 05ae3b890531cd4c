-- What happens on a bus and what its terminals answer, as plain numbers.
use Rattle.std.specs.Prelude.{ℕ, Bool, true, false, ◌==◌, if◌then◌else◌, Option, Some, None, option_and_then, List, [], ◌∷◌, map, take}
use Rattle.terminal_rules.specs.declared.event.Event.{Event}
use Rattle.terminal_rules.specs.declared.event.Event.TheVariants.{Word, Noise, Gap, Slot}
use Rattle.terminal_rules.specs.LookBack.{some}
use Rattle.terminal_rules.specs.Out.{Out}
use Rattle.terminal_bus.specs.declared.event.BusEvent.{BusEvent}
use Rattle.terminal_bus.specs.declared.event.BusEvent.TheVariants.{OnBus, SlotPasses, Subsystem}
use Rattle.terminal_bus.specs.Members.{Member}
use Rattle.terminal_bus.specs.Discipline.{has_address}
use Rattle.terminal_bus.specs.Alone.{answers_in}
use Rattle.terminal_bus.specs.Transfer.{actions}
use Rattle.rt1553_live.specs.PlainEvent.{plain_event}
use Rattle.rt1553_live.specs.PlainAnswer.{answer_in}
use Rattle.live_bus.specs.declared.front.BusAnswer.{BusAnswer}
use Rattle.live_bus.specs.declared.front.LiveBus.{LiveBus}

-- what happens where an event comes to all terminals: what is on a bus, and a slot
abbrev pub for_all : Event → Option BusEvent
for_all (Word b w) = Some (OnBus (Word b w))
for_all (Noise b) = Some (OnBus (Noise b))
for_all (Gap b) = Some (OnBus (Gap b))
for_all Slot = Some SlotPasses
for_all _ = None

-- 255 is for all; another number is the address of a terminal of the bus, to which the event comes alone
abbrev pub directed : List Member → ℕ → Event → Option BusEvent
directed members to e =
    if to == 255 then for_all e
    else if some (has_address to) members then Some (Subsystem to e)
    else None

-- what the numbers in front of a bus mean, or nothing
abbrev pub meant_event : List Member → LiveBus → Option BusEvent
meant_event members x = option_and_then (directed members x.to) (plain_event x.event)

-- whether some terminal may answer what happens: words and noise are never answered
abbrev pub brings_answers : BusEvent → Bool
brings_answers (OnBus (Word b w)) = false
brings_answers (OnBus (Noise b)) = false
brings_answers _ = true

-- an answer with the address of its terminal
pub record Told : Type 0 where
  pub address : ℕ
  pub answer : Option Out

abbrev pub told_as : ℕ → Out → Told
told_as a o = record { address = a; answer = Some o }

-- nothing is told of a terminal that is silent
abbrev pub told_one : ℕ → Out → List Told
told_one a o = map (told_as a) (actions (o ∷ []))

-- what a member sends or hands over, while this happens
abbrev pub member_told : List Member → BusEvent → Member → List Told
member_told members x m = map (told_as m.description.address) (actions (answers_in members x m))

-- what is meant by an answer
abbrev pub as_told : BusAnswer → Told
as_told it = record { address = it.address; answer = answer_in it.answer }

-- what is meant by so many answers from the front
abbrev pub told_in : ℕ → List BusAnswer → List Told
told_in count answers = map as_told (take count answers)
