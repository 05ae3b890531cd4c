use Rattle.std.proofs.Common.{◌≡◌, List, take}
use Rattle.bus_legal.specs.Description.{Description}
use Rattle.terminal_rules.specs.declared.event.Event.{Event}
use Rattle.bus_terminal.specs.Stands.{StandsAt}
use Rattle.bus_script.specs.Played.{Played}
use Rattle.rt1553_acceptance.specs.Text.{event_stated}
use Rattle.rt1553_acceptance.specs.inner.Fits.{AllFit}
use Rattle.rt1553_acceptance.proofs.writing.put_events.Given as goal

-- the events so far were played and written
abbrev pub invariant-loop-event : goal.invariant-loop-event
invariant-loop-event g l = record {
  plays : Played g.L.Legality.is_legal event_stated g.W.Sink.written (l.initial.terminal, l.initial.sink) (l.terminal, l.sink) (take l.event-index l.events);
  fit : (P : Description) (h : List Event) → StandsAt g.L.Legality.is_legal P h l.initial.terminal → AllFit P h (take l.event-index l.events);
  failed : g.W.Sink.has_failed l.sink ≡ g.W.Sink.has_failed l.initial.sink;
}
