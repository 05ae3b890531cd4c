use Rattle.std.proofs.Common.{◌≡◌, List, map, take}
use Rattle.bus_legal.specs.Description.{Description}
use Rattle.tool_buses.specs.Cut.{part_left}
use Rattle.tool_buses.specs.Powered.{IsPowered}
use Rattle.tool_buses.proofs.BusLefts.{IsClearOn}
use Rattle.tool_buses.proofs.parts.lefts_of.Given as goal

abbrev pub invariant-loop-part : goal.invariant-loop-part
invariant-loop-part l = (Ps : List Description) → IsPowered Ps l.bus → (l.lefts.items ≡ map (part_left Ps) (take l.part-index l.parts)) × IsClearOn Ps l.clear
