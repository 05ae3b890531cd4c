use Rattle.std.proofs.Common.{◌≡◌, ◌++◌, ◌+◌, ◌≤◌, length, map}
use Rattle.script_lines.specs.Text.{lines_of}
use Rattle.rt1553_expand.specs.Expansion.{placing}
use Rattle.rt1553_expand.specs.Sources.{sources_in}
use Rattle.rt1553_expand.specs.inner.StillLeft.{left_of, IsPending, to_come}
use Rattle.rt1553_expand.proofs.source.source_lines.Given as goal

abbrev pub invariant-loop-rest : goal.invariant-loop-rest
invariant-loop-rest l = record {
  fits : IsPending l.pending;
  few : l.number + length l.rest ≤ 1 + length l.text;
  lines : sources_in l.own l.text ≡ l.sources.items ++ map (λ it. it.source) (to_come (left_of l.pending) (placing l.own l.number (lines_of l.rest)));
}

abbrev pub decreases-loop-rest : goal.decreases-loop-rest
decreases-loop-rest l = length l.rest
