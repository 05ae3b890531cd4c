use Rattle.std.proofs.Common.{◌≡◌, ◌<◌, ◌≤◌, ℕ, [], cond, nat_lt, get_or, length}
use Rattle.bus_legal.specs.Tables.{largest_in}
use Rattle.bus_legal.specs.Parts.{AreWords}
use Rattle.bus_legal.proofs.normal.reached.keep_sent.Given as goal

-- the blocks so far are cut, and the others are as they were
abbrev pub invariant-loop-s : goal.invariant-loop-s
invariant-loop-s l = record {
  cut : (k i : ℕ) → k < l.s → k < 30 → i < 32 → get_or (get_or l.words k []) i 0 ≡ cond (nat_lt i (largest_in (get_or l.masks k 0))) (get_or (get_or l.fn.words k []) i 0) 0;
  left : (k : ℕ) → l.s ≤ k → get_or l.words k [] ≡ get_or l.fn.words k [];
  blocks : AreWords l.fn.words → AreWords l.words;
  whole : length l.words ≡ 30;
}
