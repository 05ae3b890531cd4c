-- What the results of a unit tell of it.
use Rattle.std.specs.Prelude.{Bool, ◌&&◌, ◌==◌, length}
use Rattle.rt1553_report.specs.declared.unit.UnitVerdict.{UnitVerdict}

-- each exchange has a result, and no reply differs
abbrev pub unit_passes : UnitVerdict → Bool
unit_passes unit = (length unit.differences.items == 0) && (length unit.missing.items == 0)
