use Rattle.std.proofs.Common.{◌≡◌, take}
use Rattle.rt1553_draw.specs.inner.Drawn.{drawn_in}
use Rattle.rt1553_draw.specs.inner.Pieces.{shown_by}
use Rattle.rt1553_draw.proofs.piece.pieces_of.Given as goal

abbrev pub invariant-loop-part : goal.invariant-loop-part
invariant-loop-part l = shown_by l.pieces.items ≡ drawn_in (take l.part-index l.parts)
