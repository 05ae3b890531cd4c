use Rattle.std.proofs.Common.{map}
use Rattle.std.specs.List.{range_with_len}
use Rattle.spare_entries.specs.declared.spare.SparePlace.TheVariants.{Rule}
use Rattle.rt1553_lint.specs.Findings.{Warns}
use Rattle.rt1553_lint.proofs.warnings.push_rules.Given as goal

abbrev pub invariant-loop-index : goal.invariant-loop-index
invariant-loop-index l = Warns l.judged.profile.now (map Rule (range_with_len 0 l.index)) l.initial.findings.items l.findings.items
