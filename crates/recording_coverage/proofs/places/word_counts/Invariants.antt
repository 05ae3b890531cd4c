use Rattle.std.proofs.Common.{◌≡◌, ◌≤◌, ◌-◌, ℕ, take}
use Rattle.std.specs.List.{list_any}
use Rattle.bus_word.specs.Mask.{has_bit}
use Rattle.recording_coverage.specs.Places.{is_counted_in}
use Rattle.recording_coverage.proofs.places.word_counts.Given as goal

abbrev pub invariant-loop-message : goal.invariant-loop-message
invariant-loop-message l = (n : ℕ) → 1 ≤ n → n ≤ 32 → has_bit l.bits (n - 1) ≡ list_any (is_counted_in l.come n) (take l.message-index l.messages)
