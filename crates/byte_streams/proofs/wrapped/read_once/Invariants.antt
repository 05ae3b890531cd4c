use Rattle.std.proofs.Common.{◌≡◌, length}
use Rattle.std.specs.Io.KnownBytes.{Keeps}
use Rattle.byte_streams.proofs.wrapped.read_once.Given as goal

abbrev pub invariant-loop : goal.invariant-loop
invariant-loop g l = (length l.out ≡ length l.initial.out) × Keeps (g.R.Read.remaining l.initial.reader) (g.R.Read.remaining l.reader)
