use Rattle.rt1553_verify.specs.Reader.{left_in, turns_left}
use Rattle.script_recordings.proofs.ReadLaws.{HeardSoFar, MessagesSoFar}
use Rattle.script_recordings.proofs.reading.read_recording.Given as goal

abbrev pub invariant-events : goal.invariant-events
invariant-events g l =
    HeardSoFar (left_in g.B.Read.remaining l.initial.reader.script) (left_in g.B.Read.remaining l.reader.script) l.recording.items
    × MessagesSoFar l.fn.address l.reader.address l.reader.command l.recording.items

abbrev pub decreases-events : goal.decreases-events
decreases-events g l = turns_left l.reader.script
