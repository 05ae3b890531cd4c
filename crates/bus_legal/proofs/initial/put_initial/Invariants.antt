use Rattle.std.proofs.Common.{◌≡◌, ◌<◌, ◌+◌, ℕ, [], get_or, take, length}
use Rattle.bus_legal.specs.Last.{last_of}
use Rattle.bus_legal.specs.Initial.{gives, word_given}
use Rattle.bus_legal.specs.Parts.{AreWords}
use Rattle.bus_legal.proofs.initial.put_initial.Given as goal

-- the table holds the words of the entries so far
abbrev pub invariant-loop-entry : goal.invariant-loop-entry
invariant-loop-entry l = record {
  words : (s i : ℕ) → s < 30 → i < 32 → get_or (get_or l.table s []) i 0 ≡ word_given (get_or (get_or l.fn.table s []) i 0) (i + 1) (last_of (gives (s + 1) (i + 1)) (take l.entry-index l.entries));
  blocks : AreWords l.fn.table → AreWords l.table;
  whole : length l.table ≡ 30;
}
