-- What a coverage has counted.
use Rattle.std.specs.Prelude.{◌≡◌, ℕ, ◌<◌, ◌==◌, List, length, get_or}
use Rattle.recording_coverage.specs.declared.coverage.Coverage.{Coverage}
use Rattle.recording_coverage.specs.declared.outcome.MessageEnd.{MessageEnd}
use Rattle.recording_coverage.specs.declared.outcome.OutcomeCounts.{OutcomeCounts}
use Rattle.recording_coverage.specs.Endings.{counts_of}
use Rattle.recording_coverage.specs.Messages.{message_number}

abbrev pub no_counts : OutcomeCounts
no_counts = record { in_error = 0; illegal = 0; blocked = 0; done = 0; superseded = 0; left_open = 0 }

-- it holds how often each message came to each outcome, of these ends
pub record Covers (ends : List MessageEnd) (c : Coverage) : Type 0 where
  pub room : length c.counts.items ≡ 4096
  pub each : (k : ℕ) → k < 4096 → get_or c.counts.items k no_counts ≡ counts_of (λ d. message_number d == k) ends
