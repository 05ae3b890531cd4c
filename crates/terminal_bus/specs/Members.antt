-- A bus of several terminals, and the events that come to each of them.
use Rattle.std.specs.Prelude.{◌==◌, if◌then◌else◌, Option, Some, None, List, [], ◌∷◌, ◌++◌, map}
use Rattle.bus_word.specs.declared.word.Bus.{Bus}
use Rattle.bus_word.specs.declared.word.Bus.TheVariants.{A, B}
use Rattle.bus_word.specs.Word.{valid_word}
use Rattle.bus_legal.specs.Description.{Description}
use Rattle.terminal_rules.specs.declared.event.Event.{Event}
use Rattle.terminal_rules.specs.declared.event.Event.TheVariants.{Word, Noise, Slot}
use Rattle.terminal_rules.specs.Buses.{same_bus}
use Rattle.terminal_rules.specs.LookBack.{keep}
use Rattle.terminal_rules.specs.Past.{history_after}
use Rattle.terminal_rules.specs.Out.{Sending, out, sent_in}
use Rattle.terminal_bus.specs.declared.event.BusEvent.{BusEvent}
use Rattle.terminal_bus.specs.declared.event.BusEvent.TheVariants.{OnBus, SlotPasses, Subsystem}

-- A terminal on the bus: its description, and its history, the latest event first.
pub record Member : Type 0 where
  pub description : Description
  pub history : List Event

abbrev pub if_on : Bus → Option Sending → Option Sending
if_on b None = None
if_on b (Some s) = if same_bus b s.bus then Some s else None

-- the word that a terminal sends on a bus in a slot that comes now
abbrev pub sent_on : Bus → Member → Option Sending
sent_on b m = if_on b (sent_in (out m.description m.history Slot))

-- What comes on a bus of the words that are sent there in one slot, to terminals that don't send there: nothing, the word
-- with the right parity (MIL-STD-1553B, 4.3.3.5.1.6), or noise, if two or more collide.
abbrev pub heard_of : Bus → List Sending → List Event
heard_of b [] = []
heard_of b (s ∷ []) = Word b (valid_word s.kind s.bits) ∷ []
heard_of b (s ∷ t ∷ more) = Noise b ∷ []

-- the words that are sent on a bus in a slot that comes now
abbrev pub sendings : Bus → List Member → List Sending
sendings b members = keep (sent_on b) members

-- to a terminal that sends on a bus, nothing comes there in that slot
abbrev pub unless_sends : Option Sending → List Event → List Event
unless_sends None heard = heard
unless_sends (Some s) heard = []

abbrev pub heard_on : Bus → List Member → Member → List Event
heard_on b members m = unless_sends (sent_on b m) (heard_of b (sendings b members))

-- What comes to one terminal. What is put on a bus comes to all. A slot comes to all, and after it what the others sent in
-- it, on bus A and then on bus B. An event of a subsystem comes to its terminal alone.
abbrev pub events_for : List Member → BusEvent → Member → List Event
events_for members (OnBus e) m = e ∷ []
events_for members SlotPasses m = Slot ∷ (heard_on A members m ++ heard_on B members m)
events_for members (Subsystem a e) m = if m.description.address == a then e ∷ [] else []

-- a terminal after these events, the first of them first
abbrev pub after_events : List Event → Member → Member
after_events es m = record m { history = history_after es m.history }

-- the bus after what happens
abbrev pub bus_after : List Member → BusEvent → List Member
bus_after members x = map (λ m. after_events (events_for members x m) m) members

abbrev pub play : List Member → List BusEvent → List Member
play members [] = members
play members (x ∷ xs) = play (bus_after members x) xs

abbrev pub member_at : Description → List Event → Member
member_at P h = record { description = P; history = h }

-- terminals at power-up, with an empty history
abbrev pub member_of : Description → Member
member_of P = member_at P []

abbrev pub powered_up : List Description → List Member
powered_up Ps = map member_of Ps

-- all that comes to one terminal, while these happen on the bus
abbrev pub all_events_for : List Member → List BusEvent → Member → List Event
all_events_for members [] m = []
all_events_for members (x ∷ xs) m =
    events_for members x m ++ all_events_for (bus_after members x) xs (after_events (events_for members x m) m)
