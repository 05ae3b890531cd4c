use Rattle.std.proofs.Common.{ℕ, ◌≡◌, length, List}
use Rattle.monitor_tables.specs.inner.Puts.{WordsSoFar}
use Rattle.monitor_tables.specs.inner.Reads.{TellsMore}
use Rattle.monitor_tables.proofs.recording.put_word_rows.Given as goal

-- just what is heard with the rows so far was written
abbrev pub invariant-rows : goal.invariant-rows
invariant-rows g l = (told : List (List (List ℕ))) × (l.rows ≡ length told) × TellsMore g.R.Read.remaining l.fn.records l.records told
    × WordsSoFar g.W.Sink.written l.columns told l.fn.hearing l.hearing l.fn.sink l.sink
