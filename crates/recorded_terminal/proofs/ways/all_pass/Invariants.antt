use Rattle.std.proofs.Common.{◌≡◌, List, true, take}
use Rattle.std.specs.List.{AllByRecursion}
use Rattle.bus_legal.specs.Description.{Description}
use Rattle.terminal_rules.specs.declared.event.Event.{Event}
use Rattle.terminal_recordings.specs.MaybeGaps.{gap_does_nothing}
use Rattle.recorded_terminal.specs.Ways.{WayIsAt}
use Rattle.recorded_terminal.proofs.ways.all_pass.Given as goal

abbrev pub invariant-loop-way : goal.invariant-loop-way
invariant-loop-way g l = AllByRecursion (λ w. (P : Description) (h : List Event) → WayIsAt g.L.Legality.is_legal P h w → gap_does_nothing P h l.bus ≡ true) (take l.way-index l.ways)
