use Rattle.std.proofs.Common.{nat_lt, arith, rules}
use Rattle.std.proofs.lemmas.Bool.Decides.{nat_tests}
use Rattle.rt1553_verify.proofs.ReaderLaws.{reads_line}
use Rattle.rt1553_verify.proofs.reader.fill_line.Goals as goal

pub returns-in-Ok-clause-reads : goal.returns-in-Ok-clause-reads
returns-in-Ok-clause-reads g c =
    reads_line (g.B.Read.remaining c.args.input.now) (g.B.Read.remaining c.read_until.new.self) c.read_until.new.buf.items c.in-Ok.count
    (search rules) c.in-Ok.ensures.rest c.in-Ok.ensures.end (search rules) (nat_lt 0 c.in-Ok.count)
    (λ more. grind (arith, nat_tests)) (λ none. grind (arith, nat_tests))
