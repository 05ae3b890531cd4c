use Rattle.std.proofs.Common.{None, take}
use Rattle.std.specs.List.{flat_map}
use Rattle.rt1553_results.specs.inner.Placed.{Sees, placed_event}
use Rattle.rt1553_results.proofs.watching.see_events.Given as goal

abbrev pub invariant-loop-event : goal.invariant-loop-event
invariant-loop-event l = Sees (flat_map (λ e. placed_event l.at e None) (take l.event-index l.events)) l.initial.watch l.watch
