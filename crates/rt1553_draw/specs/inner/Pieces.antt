-- The events of which something is drawn in rows.
use Rattle.std.specs.Prelude.{List, map}
use Rattle.std.specs.List.{flat_map}
use Rattle.drawing_boxes.specs.declared.numbered.Numbered.{Numbered}
use Rattle.rt1553_draw.specs.declared.piece.MessagePiece.{MessagePiece}

-- those of a piece
abbrev pub shown_in : MessagePiece → List Numbered
shown_in piece = map (λ column. column.of) piece.columns.now

-- those of pieces, one after another
abbrev pub shown_by : List MessagePiece → List Numbered
shown_by pieces = flat_map shown_in pieces
