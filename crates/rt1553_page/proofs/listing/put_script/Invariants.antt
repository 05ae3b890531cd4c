use Rattle.std.proofs.Common.{◌≡◌, ◌≤◌, List, length}
use Rattle.drawing_boxes.specs.declared.numbered.Numbered.{Numbered}
use Rattle.rt1553_page.proofs.ListLaws.{HasRead, Played, history_of}
use Rattle.rt1553_page.proofs.listing.put_script.Given as goal

abbrev pub invariant-loop-rest : goal.invariant-loop-rest
invariant-loop-rest g l =
    (length l.to ≡ length l.fn.to) × (l.filled.bytes ≤ length l.to)
    × (read : List Numbered) × HasRead l.script l.rest l.lines read
    × Played g.L.Legality.is_legal l.script l.fn.watch l.watch l.fn.to l.to l.fn.filled l.filled (history_of read)

abbrev pub decreases-loop-rest : goal.decreases-loop-rest
decreases-loop-rest g l = length l.rest
