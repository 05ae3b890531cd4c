use Rattle.std.proofs.Common.{◌≡◌, ◌+◌, ◌++◌, [], ◌∷◌, replicate, length}
use Rattle.terminal_exchanges.specs.Exchanges.{words_then}
use Rattle.terminal_exchanges.proofs.events.push_data.Given as goal

-- as many words are in the script as have been counted, and the first
abbrev pub invariant-loop-zero : goal.invariant-loop-zero
invariant-loop-zero l = record {
  items : l.script.items ≡ l.fn.script.items ++ words_then (l.word ∷ replicate l._zero 0) [];
  long : length l.script.items ≡ length l.fn.script.items + 1 + l._zero;
}
