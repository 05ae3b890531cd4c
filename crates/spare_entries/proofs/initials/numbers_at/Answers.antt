use Rattle.std.proofs.Common.{◌≤◌, ◌-◌, ◌+◌, arith}
use Rattle.std.proofs.Math.Pow.{pow_mono}
use Rattle.spare_entries.proofs.WordSteps.{small_power}
use Rattle.spare_entries.proofs.initials.numbers_at.Goals as goal

pub overflow_sub-result : goal.overflow_sub-result
overflow_sub-result c =
    let start = c.from-start.result - 1 in
    let room : start + c.from.result ≤ 32 = omega arith in
    rw (small_power start (omega arith), small_power (start + c.from.result) room) (pow_mono (omega arith))
