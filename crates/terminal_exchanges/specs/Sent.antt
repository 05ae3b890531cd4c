-- What of a terminal's answers is seen on the buses.
use Rattle.std.specs.Prelude.{Option, List, map}
use Rattle.bus_legal.specs.Description.{Description}
use Rattle.terminal_rules.specs.declared.event.Event.{Event}
use Rattle.terminal_rules.specs.Out.{Sending, sent_in, outs}

-- the words that a terminal sends, event by event from power-up
abbrev pub sent : Description → List Event → List (Option Sending)
sent P es = map sent_in (outs P es)
