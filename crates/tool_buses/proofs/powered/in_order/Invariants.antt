use Rattle.std.proofs.Common.{◌≡◌, map}
use Rattle.bus_legal.specs.Parts.{description_in}
use Rattle.tool_buses.specs.Powered.{described_below}
use Rattle.tool_buses.proofs.powered.in_order.Given as goal

abbrev pub invariant-loop-address : goal.invariant-loop-address
invariant-loop-address l = map description_in l.ordered.items ≡ described_below l.address l.normals
