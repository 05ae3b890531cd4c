use Rattle.std.proofs.Common.{◌++◌, List, take}
use Rattle.bus_legal.specs.Description.{Description}
use Rattle.bus_legal.specs.Tables.{tables_say}
use Rattle.terminal_rules.specs.declared.event.Event.{Event}
use Rattle.recorded_terminal.specs.declared.watch.Marked.{Marked}
use Rattle.recorded_terminal.specs.Watched.{Watches}
use Rattle.script_recordings.proofs.settling.see_all.Given as goal

abbrev pub invariant-sightings : goal.invariant-sightings
invariant-sightings l =
    (P : Description) (h : List Event) (ms : List Marked) → Watches (λ normal. tables_say normal.tables) P h ms l.fn.watch → Watches (λ normal. tables_say normal.tables) P h (ms ++ take l.marked-index l.recording) l.watch
