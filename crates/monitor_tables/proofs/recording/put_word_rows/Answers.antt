use Rattle.std.proofs.Common.{[], ◌∷◌, ◌++◌, length-append, refl, ap, ◌∙◌, inl, arith}
use Rattle.monitor_cells.specs.Cells.{is_time_text}
use Rattle.monitor_tables.proofs.ReadLaws.{nothing-told, told-joined, told-all, told-part}
use Rattle.monitor_tables.proofs.TableLaws.{words-none, words-more, word-refused}
use Rattle.monitor_tables.proofs.recording.put_word_rows.Goals as goal

pub rows-init : goal.rows-init
rows-init g c = ([], refl, nothing-told _, words-none g.W.Sink.written c.args.columns.now c.args.hearing.now c.args.sink.now c.requires)

pub rows-preserved : goal.rows-preserved
rows-preserved g c =
    let so = c.rows.invariant in
    let next = rw c.in-Ok-Some.field-0-is at c.in-Ok-Some.ensures.next in
    let puts = c.in_ok-put_word_row-in-Ok-Some.ensures.puts in
    (so.0 ++ next.0 ∷ [], omega (arith, so.1, length-append so.0 (next.0 ∷ [])), told-joined so.2 next.2, words-more next.0 c.in-Ok-Some.row so.3 next.1 puts.0 puts.1 next.3)

pub returns-in-Ok-None-clause-puts : goal.returns-in-Ok-None-clause-puts
returns-in-Ok-None-clause-puts g c = let so = c.rows.invariant in (so.0, (so.1, told-all so.2 (rw c.in-Ok-None.field-0-is at c.in-Ok-None.ensures.next)), so.3, tt)

pub returns-in-Err-clause-puts : goal.returns-in-Err-clause-puts
returns-in-Err-clause-puts g c = let so = c.rows.invariant in (so.0, (so.1, told-part so.2), so.3, word-refused c.args.columns.now c.rows.hearing _ so.2 c.in-Err.ensures.refused)

pub returns-clause-puts : goal.returns-clause-puts
returns-clause-puts g c = let so = c.rows.invariant in (so.0, (omega (arith, so.1, c.rows-test.false), told-part so.2), so.3, inl ([], tt))

pub put_word_row-requires-clause-text : goal.put_word_row-requires-clause-text
put_word_row-requires-clause-text g c =
    let next = rw c.in-Ok-Some.field-0-is at c.in-Ok-Some.ensures.next in
    ap is_time_text next.1.time.same ∙ next.1.time.is.plain

pub put_word_row-requires-clause-held : goal.put_word_row-requires-clause-held
put_word_row-requires-clause-held g c = c.rows.invariant.3.timed
