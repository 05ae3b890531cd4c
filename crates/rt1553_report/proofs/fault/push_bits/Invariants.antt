use Rattle.std.proofs.Common.{◌≡◌, ◌++◌, take, flat_map, string_bytes}
use Rattle.rt1553_report.specs.Recorded.{bit_told}
use Rattle.rt1553_report.proofs.fault.push_bits.Given as goal

abbrev pub invariant-loop-bit : goal.invariant-loop-bit
invariant-loop-bit l = string_bytes l.text ≡ string_bytes l.initial.text ++ flat_map (bit_told l.recorded l.sent) (take l.bit-index l.bits)
