use Rattle.std.proofs.Common.{◌≡◌, ◌==◌, ◌∙◌, length, vec_len, ap, arith}
use Rattle.rt1553_results.proofs.ExplainedLaws.{explained_passes}
use Rattle.rt1553_results.proofs.explaining.ResultsExplained.passes.Goals as goal

pub returns-then-is_none : goal.returns-then-is_none
returns-then-is_none c =
    let missing = c.args.self.now.missing in
    let same : vec_len missing ≡ length missing.items = omega arith in
    explained_passes c.args.self.now.first c.is_empty.result missing.items c.if-is_none.ensures (c.is_empty.ensures ∙ ap (λ n. n == 0) same)
