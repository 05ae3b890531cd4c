use Rattle.std.proofs.Common.{◌≡◌, ◌++◌, take, map}
use Rattle.rt1553_verify.specs.Stated.{small_digit}
use Rattle.rt1553_verify.proofs.stated.push_small.Given as goal

abbrev pub invariant-loop-byte : goal.invariant-loop-byte
invariant-loop-byte l = l.answer.items ≡ l.fn.answer.items ++ map small_digit (take l.byte-index l.bytes)
