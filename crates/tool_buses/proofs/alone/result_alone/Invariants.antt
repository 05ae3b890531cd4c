use Rattle.std.proofs.Common.{map, flat_map, take}
use Rattle.bus_legal.specs.Parts.{description_in}
use Rattle.tool_buses.specs.EndsWell.{messages_alone}
use Rattle.tool_buses.specs.Powered.{IsPowered}
use Rattle.tool_buses.specs.inner.Results.{AreResultsAt}
use Rattle.tool_buses.proofs.alone.result_alone.Given as goal

abbrev pub invariant-loop-place : goal.invariant-loop-place
invariant-loop-place l =
    IsPowered (map description_in l.normals) l.bus → AreResultsAt l.put (flat_map (messages_alone l.put (map description_in l.normals) l.events) (take l.place l.normals)) l.result_of
