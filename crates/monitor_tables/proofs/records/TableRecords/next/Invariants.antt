use Rattle.std.proofs.Common.{[]}
use Rattle.monitor_tables.specs.inner.Reads.{TellsMore}
use Rattle.monitor_tables.proofs.records.TableRecords.next.Given as goal

-- nothing of the records so far is told
abbrev pub invariant-records : goal.invariant-records
invariant-records g l = TellsMore g.R.Read.remaining l.fn.self l.self []
