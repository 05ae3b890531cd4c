use Rattle.std.proofs.Common.{[], subst, sym, arith}
use Rattle.rt1553_files.specs.Printable.{PrintsOnOneLine}
use Rattle.message_names.proofs.printed.quoted_cut.Goals as goal

pub returns : goal.returns
returns c =
    let empty : PrintsOnOneLine [] = λ k d below. absurd (omega arith) in
    c.in_ok-push_printable-2.ensures.one_line (c.in_ok-push_cut.ensures (c.in_ok-push_printable.ensures.one_line
    (subst PrintsOnOneLine (sym c.new-text.ensures.bytes) empty)))
