use Rattle.std.proofs.lemmas.Result.{on_ok_weaker}
use Rattle.message_names.proofs.printed.push_cut.Goals as goal

pub returns-then-index-most : goal.returns-then-index-most
returns-then-index-most c =
    on_ok_weaker c.push_printable.result (λ more one. more (c.loop-index.invariant one)) c.push_printable.ensures.one_line
