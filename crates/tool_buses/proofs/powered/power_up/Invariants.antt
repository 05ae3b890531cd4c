use Rattle.std.proofs.Common.{ℕ, ◌<◌, ◌≤◌, length}
use Rattle.tool_buses.specs.Powered.{IsPowered, described_at, described_below}
use Rattle.tool_buses.proofs.powered.power_up.Given as goal

abbrev pub invariant-loop-address : goal.invariant-loop-address
invariant-loop-address l = IsPowered (described_below l.address l.normals) l.bus × ((b : ℕ) → b < l.address → length (described_at b l.normals) ≤ 1)
