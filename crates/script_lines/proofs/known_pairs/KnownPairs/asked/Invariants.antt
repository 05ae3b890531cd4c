use Rattle.std.proofs.Common.{ℕ, ◌≡◌, ◌<◌, length, get_or}
use Rattle.script_lines.proofs.known_pairs.KnownPairs.asked.Given as goal

abbrev pub invariant-loop-byte : goal.invariant-loop-byte
invariant-loop-byte l = record {
  long : length l.bytes ≡ 256;
  each : (k : ℕ) → k < l.byte → get_or l.bytes k 0 ≡ k;
}
