-- The message on a bus.
use Rattle.std.specs.Prelude.{if◌then◌else◌, Option, Some, None, List}
use Rattle.bus_word.specs.declared.word.Bus.{Bus}
use Rattle.terminal_rules.specs.LookBack.{latest, since, keep}
use Rattle.terminal_messages.specs.Told.{ToldEvent, begins_on, closes, belongs_on}

-- A message: its bus, the event with which it begins, those that belong to it after that, the latest first, and the event
-- with which it was over, if it is.
pub record Message : Type 0 where
  pub bus : Bus
  pub first : ToldEvent
  pub later : List ToldEvent
  pub closer : Option ToldEvent

-- what an event that is the last to close a message on this bus leaves there: the message that it begins, or none
abbrev pub leaves_open : Bus → ToldEvent → Option (Option ToldEvent)
leaves_open b t = if closes b t then Some (if begins_on b t then Some t else None) else None

-- the event, where it belongs to the message on this bus
abbrev pub belonging : Bus → ToldEvent → Option ToldEvent
belonging b t = if belongs_on b t then Some t else None

-- the message that began so, with what belongs to it
abbrev pub message_begun : Bus → List ToldEvent → Option (Option ToldEvent) → Option Message
message_begun b later None = None
message_begun b later (Some None) = None
message_begun b later (Some (Some t)) = Some (record { bus = b; first = t; later = later; closer = None })

-- the message on a bus, over the events so far, the latest first: the last that began there, with what belongs to it, unless it is over
abbrev pub message_on_bus : List ToldEvent → Bus → Option Message
message_on_bus h b = message_begun b (keep (belonging b) (since (closes b) h)) (latest (leaves_open b) h)
