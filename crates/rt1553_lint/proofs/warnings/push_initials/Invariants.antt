use Rattle.std.proofs.Common.{flat_map}
use Rattle.std.specs.List.{range_with_len}
use Rattle.spare_entries.specs.Spares.{initial_places}
use Rattle.rt1553_lint.specs.Findings.{Warns}
use Rattle.rt1553_lint.proofs.warnings.push_initials.Given as goal

abbrev pub invariant-loop-index : goal.invariant-loop-index
invariant-loop-index l = Warns l.judged.profile.now (flat_map initial_places (range_with_len 0 l.index)) l.initial.findings.items l.findings.items
