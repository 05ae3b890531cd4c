use Rattle.std.proofs.Common.{◌≤◌}
use Rattle.rt1553_verify.specs.Reader.{left_in, turns_left}
use Rattle.rt1553_verify.proofs.ReaderLaws.{Keeps}
use Rattle.rt1553_verify.proofs.reader.StatedReader.next.Given as goal

abbrev pub invariant-lines : goal.invariant-lines
invariant-lines g l = Keeps (left_in g.B.Read.remaining l.fn.self) (left_in g.B.Read.remaining l.self) × (turns_left l.self ≤ turns_left l.fn.self)

abbrev pub decreases-lines : goal.decreases-lines
decreases-lines g l = turns_left l.self
