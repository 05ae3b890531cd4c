use Rattle.std.proofs.Common.{◌≡◌, map, take}
use Rattle.bus_legal.specs.Parts.{description_in}
use Rattle.terminal_rules.specs.LookBack.{keep}
use Rattle.tool_buses.specs.Cut.{told_alone}
use Rattle.tool_buses.specs.EndsWell.{reasons_of_part}
use Rattle.tool_buses.specs.Powered.{IsPowered}
use Rattle.tool_buses.proofs.check.judged_messages.Given as goal

abbrev pub invariant-loop-part : goal.invariant-loop-part
invariant-loop-part l =
    IsPowered (map description_in l.on.normals.items) l.on.bus → map told_alone l.judged.items ≡ keep (reasons_of_part l.on.normals.items) (take l.part-index l.parts)
