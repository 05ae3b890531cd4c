use Rattle.std.proofs.Common.{List}
use Rattle.bus_legal.specs.Description.{Description}
use Rattle.terminal_messages.specs.Watch.{WatchStands}
use Rattle.terminal_rules.specs.declared.event.Event.{Event}
use Rattle.recording_coverage.proofs.SoFar.{CountedSoFar, no_place}
use Rattle.recording_coverage.proofs.counting.count_from.Given as goal

abbrev pub invariant-loop-event : goal.invariant-loop-event
invariant-loop-event g l = (P : Description) (h : List Event) → WatchStands g.L.Legality.is_legal P no_place h l.initial.watch → CountedSoFar g.L.Legality.is_legal P l.own h l.events l.event-index l.watch l.initial.coverage l.coverage
