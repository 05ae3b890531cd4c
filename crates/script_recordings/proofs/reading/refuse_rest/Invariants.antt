use Rattle.rt1553_verify.specs.Reader.{left_in, turns_left}
use Rattle.script_recordings.proofs.ReadLaws.{RestRead}
use Rattle.script_recordings.proofs.reading.refuse_rest.Given as goal

abbrev pub invariant-events : goal.invariant-events
invariant-events g l = RestRead (left_in g.B.Read.remaining l.fn.script) (left_in g.B.Read.remaining l.script)

abbrev pub decreases-events : goal.decreases-events
decreases-events g l = turns_left l.script
