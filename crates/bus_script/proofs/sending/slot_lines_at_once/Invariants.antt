use Rattle.std.proofs.Common.{ℕ, ◌≡◌, ◌≤◌, ◌-◌, ◌*◌, drop}
use Rattle.bus_terminal.specs.Slots.{slots}
use Rattle.bus_script.specs.inner.Lines.{LinesFirst}
use Rattle.bus_script.proofs.sending.slot_lines_at_once.Given as goal

abbrev pub invariant-loop-count : goal.invariant-loop-count
invariant-loop-count l = record {
  few : l.count ≤ l.most;
  lines : (k : ℕ) → k ≤ l.count → LinesFirst l.bytes (5 * k) k (slots k);
  rest : l.rest ≡ drop (5 * l.count) l.bytes;
}

abbrev pub decreases-loop-count : goal.decreases-loop-count
decreases-loop-count l = l.most - l.count
