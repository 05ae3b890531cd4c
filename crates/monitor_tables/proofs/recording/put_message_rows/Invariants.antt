use Rattle.std.proofs.Common.{ℕ, ◌≡◌, length, List}
use Rattle.monitor_tables.specs.inner.Puts.{MessagesSoFar}
use Rattle.monitor_tables.specs.inner.Reads.{TellsMore}
use Rattle.monitor_tables.proofs.recording.put_message_rows.Given as goal

-- just what is heard of the rows so far was written
abbrev pub invariant-rows : goal.invariant-rows
invariant-rows g l = (told : List (List (List ℕ))) × (l.rows ≡ length told) × TellsMore g.R.Read.remaining l.fn.records l.records told
    × MessagesSoFar g.W.Sink.written l.columns told l.fn.times l.times l.fn.sink l.sink
