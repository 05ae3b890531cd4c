use Rattle.std.proofs.Common.{◌≡◌, ◌++◌, map, take}
use Rattle.bus_legal.specs.Parts.{description_in}
use Rattle.tool_buses.specs.Powered.{described_at}
use Rattle.tool_buses.proofs.powered.push_at.Given as goal

abbrev pub invariant-loop-normal : goal.invariant-loop-normal
invariant-loop-normal l = map description_in l.ordered.items ≡ map description_in l.fn.ordered.items ++ described_at l.address (take l.normal-index l.normals)
