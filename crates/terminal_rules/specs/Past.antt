-- A history with what each event did, and the definitions at a history.
use Rattle.std.specs.Prelude.{List, [], ◌∷◌}
use Rattle.bus_word.specs.declared.word.Bus.{Bus}
use Rattle.bus_legal.specs.Description.{Description}
use Rattle.terminal_rules.specs.declared.event.Event.{Event}
use Rattle.terminal_rules.specs.History.{Noted}
use Rattle.terminal_rules.specs.Open.{Open, open_now}
use Rattle.terminal_rules.specs.Starts.{starts_now}
use Rattle.terminal_rules.specs.Ends.{ends_now}
use Rattle.terminal_rules.specs.Turn.{noted}

-- an event, noted with what it does after a noted history
abbrev pub note : Description → List Noted → Event → Noted
note P h e = noted h e (starts_now P h e) (ends_now P h e)

-- A history, the latest event first, each event noted with what it did. That follows from the events before
-- it, so this is the only recursion on histories: all else looks back over it.
abbrev pub past : Description → List Event → List Noted
past P [] = []
past P (e ∷ h) = note P (past P h) e ∷ past P h

-- the message in progress on a bus, at a history
abbrev pub open_at : Description → List Event → Bus → Open
open_at P h b = open_now P (past P h) b

-- the history after these events, the first of them first
abbrev pub history_after : List Event → List Event → List Event
history_after [] h = h
history_after (e ∷ es) h = history_after es (e ∷ h)
