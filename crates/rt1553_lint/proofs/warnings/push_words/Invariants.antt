use Rattle.std.proofs.Common.{map}
use Rattle.std.specs.List.{range_with_len}
use Rattle.spare_entries.specs.declared.spare.SparePlace.TheVariants.{Word}
use Rattle.rt1553_lint.specs.Findings.{Warns}
use Rattle.rt1553_lint.proofs.warnings.push_words.Given as goal

abbrev pub invariant-loop-word : goal.invariant-loop-word
invariant-loop-word l = Warns l.judged.profile.now (map (Word l.index) (range_with_len 0 l.word)) l.initial.findings.items l.findings.items
