-- The messages of a history.
use Rattle.std.specs.Prelude.{nat_le, if◌then◌else◌, Option, Some, None, List, [], ◌∷◌, ◌++◌}
use Rattle.bus_word.specs.declared.word.Bus.{Bus}
use Rattle.bus_word.specs.declared.word.Bus.TheVariants.{A, B}
use Rattle.bus_legal.specs.Description.{Description}
use Rattle.terminal_rules.specs.declared.event.Event.{Event}
use Rattle.terminal_rules.specs.Past.{history_after}
use Rattle.terminal_messages.specs.Told.{ToldEvent, closes, is_unheard, event_bus}
use Rattle.terminal_messages.specs.Message.{Message, message_on_bus}
use Rattle.terminal_messages.specs.Parts.{tell}

-- one message, or none
abbrev pub listed : Option Message → List Message
listed None = []
listed (Some m) = m ∷ []

-- two messages, or fewer, by where they begin
abbrev pub in_turn : Option Message → Option Message → List Message
in_turn None y = listed y
in_turn (Some m) None = m ∷ []
in_turn (Some m) (Some n) = if nat_le m.first.index n.first.index then m ∷ n ∷ [] else n ∷ m ∷ []

-- a message that is over with this event
abbrev pub closed_with : ToldEvent → Option Message → Option Message
closed_with t None = None
closed_with t (Some m) = Some (record m { closer = Some t })

-- the message on a bus that an event closes
abbrev pub closed_on : List ToldEvent → ToldEvent → Bus → Option Message
closed_on h t b = if closes b t then closed_with t (message_on_bus h b) else None

-- a command that is not heard is a message of its own, since nothing of what follows it is heard
abbrev pub alone_on : Option Bus → ToldEvent → List Message
alone_on None t = []
alone_on (Some b) t = record { bus = b; first = t; later = []; closer = None } ∷ []

abbrev pub alone : ToldEvent → List Message
alone t = if is_unheard t.part then alone_on (event_bus t.noted.event) t else []

-- the messages that are over with an event, after what was told before it
abbrev pub closed_by : List ToldEvent → ToldEvent → List Message
closed_by h t = in_turn (closed_on h t A) (closed_on h t B) ++ alone t

-- the messages that are over, in the order in which they were
abbrev pub closed : List ToldEvent → List Message
closed [] = []
closed (t ∷ h) = closed h ++ closed_by h t

-- the messages that are not over
abbrev pub still_open : List ToldEvent → List Message
still_open h = in_turn (message_on_bus h A) (message_on_bus h B)

-- the messages of a history, the latest event first
abbrev pub messages_in : Description → List Event → List Message
messages_in P h = closed (tell P h) ++ still_open (tell P h)

-- the messages of events in order, from power-up
abbrev pub messages_of : Description → List Event → List Message
messages_of P es = messages_in P (history_after es [])
