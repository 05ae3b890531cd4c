use Rattle.std.proofs.Common.{◌≡◌, ◌++◌, flat_map, take}
use Rattle.std.specs.String.{string_bytes}
use Rattle.bus_reports.specs.Lefts.{left_line}
use Rattle.bus_reports.proofs.left.push_lefts.Given as goal

abbrev pub invariant-loop-part : goal.invariant-loop-part
invariant-loop-part l = string_bytes l.text ≡ string_bytes l.fn.text ++ flat_map (left_line l.file) (take l.part-index l.lefts)
