use Rattle.std.proofs.Common.{[], ◌≡◌, ◌-◌, drop}
use Rattle.bus_script.specs.inner.Pieces.{IsPiece}
use Rattle.bus_script.proofs.lines.pass_comments.Given as goal

abbrev pub invariant-loop-piece : goal.invariant-loop-piece
invariant-loop-piece l = record {
  piece : IsPiece l.bytes l.most l.piece [];
  rest : l.rest ≡ drop l.piece.bytes l.bytes;
}

abbrev pub decreases-loop-piece : goal.decreases-loop-piece
decreases-loop-piece l = l.most - l.piece.lines
