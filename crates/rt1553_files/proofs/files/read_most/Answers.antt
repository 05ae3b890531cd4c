use Rattle.std.proofs.Common.{arith, ap, ◌+◌}
use Rattle.rt1553_files.proofs.TakenLaws.{read_whole}
use Rattle.rt1553_files.proofs.files.read_most.Goals as goal

pub returns-clause-whole : goal.returns-clause-whole
returns-clause-whole g c =
    let length_is = c.len.ensures in
    let few = c.if-len-most.false in
    read_whole (c.args.most + 1) c.take-part.result.limit c.new-bytes.result.items c.read_to_end.new.buf.items (g.I.Read.remaining c.args.input) (g.I.Read.remaining c.take-part.result.inner)
    c.new-bytes.ensures.items c.take-part.ensures.limit (ap g.I.Read.remaining c.take-part.ensures.inner) c.in_ok-read_to_end.ensures.bytes (omega arith)
