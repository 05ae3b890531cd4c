use Rattle.std.proofs.Common.{◌≤◌, ◌++◌, List}
use Rattle.bus_legal.specs.Parts.{description_in}
use Rattle.bus_legal.specs.Tables.{tables_say}
use Rattle.recorded_terminal.specs.declared.watch.Marked.{Marked}
use Rattle.recorded_terminal.specs.Judged.{WatchesLater}
use Rattle.rt1553_verify.specs.Reader.{left_in, turns_left}
use Rattle.script_recordings.proofs.ReadLaws.{PartSoFar}
use Rattle.script_recordings.specs.inner.PartsTold.{CountsStretches}
use Rattle.script_recordings.specs.inner.Tallies.{IsTally}
use Rattle.script_recordings.proofs.explaining.judge_later.Given as goal

-- behind the stretches the watch has seen the sightings of the tally
abbrev pub invariant-sightings : goal.invariant-sightings
invariant-sightings g l =
    (cs : List Marked) × (ms : List Marked)
    × CountsStretches cs l.stretches
    × WatchesLater (λ normal. tables_say normal.tables) (description_in l.fn.normal) ms l.watch
    × PartSoFar (left_in g.B.Read.remaining l.fn.reader.script) (left_in g.B.Read.remaining l.reader.script) (cs ++ ms)
    × IsTally ms l.tally
    × (turns_left l.reader.script ≤ turns_left l.fn.reader.script)

abbrev pub decreases-sightings : goal.decreases-sightings
decreases-sightings g l = turns_left l.reader.script
