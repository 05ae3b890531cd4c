use Rattle.std.proofs.Common.{List, ◌++◌, take}
use Rattle.bus_legal.specs.Description.{Description}
use Rattle.tool_buses.specs.Powered.{IsPowered, described_at}
use Rattle.tool_buses.proofs.powered.add_at.Given as goal

abbrev pub invariant-loop-normal : goal.invariant-loop-normal
invariant-loop-normal l = (Ps : List Description) → IsPowered Ps l.fn.bus → IsPowered (Ps ++ described_at l.address (take l.normal-index l.normals)) l.bus
