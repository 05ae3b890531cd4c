use Rattle.std.proofs.Common.{◌≡◌, ◌+◌, ◌++◌, if◌then◌else◌, length, map}
use Rattle.rt1553_draw.specs.inner.Drawn.{drawn_of}
use Rattle.rt1553_draw.specs.inner.Pieces.{shown_by}
use Rattle.rt1553_draw.proofs.piece.push_pieces.Given as goal

abbrev pub invariant-loop-is_first : goal.invariant-loop-is_first
invariant-loop-is_first l =
    shown_by l.pieces.items ++ map (λ column. column.of) l.rest ≡ shown_by l.initial.pieces.items ++ drawn_of l.part

abbrev pub decreases-loop-is_first : goal.decreases-loop-is_first
decreases-loop-is_first l = length l.rest + (if l.is_first then 1 else 0)
