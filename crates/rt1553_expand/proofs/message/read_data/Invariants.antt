use Rattle.std.proofs.Common.{◌≡◌, ◌-◌}
use Rattle.arrayvec.specs.ArrayVec.{array_vec_len}
use Rattle.rt1553_expand.proofs.DataLaws.{Left}
use Rattle.rt1553_expand.proofs.message.read_data.Given as goal

-- the words so far, and then those that are left, are all of them
abbrev pub invariant-loop : goal.invariant-loop
invariant-loop l = record {
  left : Left l.count (l.count - l.counter) l.text l.words.items l.rest;
  few : array_vec_len l.words ≡ l.counter;
}
