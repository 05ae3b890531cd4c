use Rattle.std.proofs.Common.{◌≡◌, ◌==◌, length, vec_len, ap, ◌∙◌, arith}
use Rattle.std.proofs.lemmas.Bool.Decides.{nat_tests}
use Rattle.rt1553_results.proofs.CompareLaws.{passes_by}
use Rattle.rt1553_results.proofs.comparison.Comparison.passes.Goals as goal

pub returns-then-is_empty : goal.returns-then-is_empty
returns-then-is_empty c =
    let ds = c.args.self.now.wrong_replies.items in
    let none : length ds ≡ 0 = grind (arith, nat_tests, c.is_empty.ensures, c.if-is_empty.true) in
    let missing = c.args.self.now.missing in
    let same : vec_len missing ≡ length missing.items = omega arith in
    passes_by c.is_empty-then-is_empty.result ds missing.items none (c.is_empty-then-is_empty.ensures ∙ ap (λ n. n == 0) same)
