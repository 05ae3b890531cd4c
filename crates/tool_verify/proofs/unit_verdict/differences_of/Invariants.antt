use Rattle.std.proofs.Common.{◌≡◌, ◌++◌, map}
use Rattle.rt1553_results.specs.Compare.{told_reply}
use Rattle.tool_verify.specs.UnitResults.{reply_difference, told_difference}
use Rattle.tool_verify.proofs.unit_verdict.differences_of.Given as goal

abbrev pub invariant-loop-reply : goal.invariant-loop-reply
invariant-loop-reply l =
    map told_difference l.differences.items ++ map (λ r. reply_difference l.results (told_reply r)) l.reply-iterator.rest.items
    ≡ map (λ r. reply_difference l.results (told_reply r)) l.fn.replies.items
