use Rattle.std.proofs.Common.{[], take}
use Rattle.bus_legal.specs.Description.{Description}
use Rattle.bus_legal.specs.Tables.{tables_say}
use Rattle.recorded_terminal.specs.Judged.{WatchesLater}
use Rattle.script_recordings.proofs.telling.fresh_part_of.Given as goal

abbrev pub invariant-sightings : goal.invariant-sightings
invariant-sightings l =
    (Q : Description) → WatchesLater (λ normal. tables_say normal.tables) Q [] l.initial.watch → WatchesLater (λ normal. tables_say normal.tables) Q (take l.marked-index l.recording) l.watch
