use Rattle.std.proofs.Common.{take}
use Rattle.monitor_tables.specs.inner.Puts.{PutsNoted}
use Rattle.monitor_tables.specs.Rows.{untimed}
use Rattle.monitor_tables.proofs.recording.put_others.Given as goal

-- the lines of the items so far were written
abbrev pub invariant-loop-item : goal.invariant-loop-item
invariant-loop-item g l = PutsNoted g.W.Sink.written l.fn.sink l.sink (untimed (take l.item-index l.heard))
