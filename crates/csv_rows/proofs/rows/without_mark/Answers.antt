use Rattle.std.proofs.Common.{slice_index_or}
use Rattle.csv_rows.proofs.MarkLaws.{marked, short, unmarked, other_first, other_second, other_third}
use Rattle.csv_rows.proofs.rows.without_mark.Goals.{else-text-ge3-via-then-text-ge3+then-text+then-text-2+else-text-3, else-text-ge3-via-then-text-ge3+then-text+else-text-2, else-text-ge3-via-then-text-ge3+else-text, else-text-ge3-via-else-text-ge3}
use Rattle.csv_rows.proofs.rows.without_mark.Goals as goal

pub returns-then-text-3 : goal.returns-then-text-3
returns-then-text-3 c = marked c.args.text.now c.if-text-ge3.true c.if-text.true c.if-text-2.true c.if-text-3.true

pub returns-else-text-ge3 : goal.returns-else-text-ge3
returns-else-text-ge3 c =
    let text = c.args.text.now in
    let a = slice_index_or text 0 0 in
    let b = slice_index_or text 1 0 in
    let d = slice_index_or text 2 0 in
    elim c.else-text-ge3.branch [
      | else-text-ge3-via-then-text-ge3+then-text+then-text-2+else-text-3 w ↦ unmarked text (other_third a b d w.if-text.true w.if-text-2.true w.if-text-3.false)
      | else-text-ge3-via-then-text-ge3+then-text+else-text-2 w ↦ unmarked text (other_second a b d w.if-text.true w.if-text-2.false)
      | else-text-ge3-via-then-text-ge3+else-text w ↦ unmarked text (other_first a b d w.if-text.false)
      | else-text-ge3-via-else-text-ge3 w ↦ short text w.if-text-ge3.false
    ]
