use Rattle.std.proofs.Common.{take, []}
use Rattle.bus_legal.specs.Description.{Description}
use Rattle.bus_legal.specs.Tables.{tables_say}
use Rattle.recorded_terminal.specs.Watched.{Watches}
use Rattle.inferred_profiles.proofs.checking.is_explained.Given as goal

abbrev pub invariant-sightings : goal.invariant-sightings
invariant-sightings l =
    (P : Description) → Watches (λ normal. tables_say normal.tables) P [] [] l.initial.watch → Watches (λ normal. tables_say normal.tables) P [] (take l.marked-index l.recording) l.watch
