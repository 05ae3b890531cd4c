-- Counts that are added.
use Rattle.std.specs.Prelude.{◌+◌}
use Rattle.recording_coverage.specs.declared.outcome.OutcomeCounts.{OutcomeCounts}
use Rattle.recording_coverage.specs.Endings.{saturated}

-- the sums of two
abbrev pub with_counts : OutcomeCounts → OutcomeCounts → OutcomeCounts
with_counts c d = record {
  in_error = saturated (c.in_error + d.in_error);
  illegal = saturated (c.illegal + d.illegal);
  blocked = saturated (c.blocked + d.blocked);
  done = saturated (c.done + d.done);
  superseded = saturated (c.superseded + d.superseded);
  left_open = saturated (c.left_open + d.left_open);
}
