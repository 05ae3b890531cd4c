use Rattle.std.proofs.Common.{string_bytes}
use Rattle.rt1553_files.proofs.PrintLaws.{encoded_prints, stays_one_line}
use Rattle.rt1553_files.proofs.printable.push_printable.Goals as goal

pub returns-clause-one_line : goal.returns-clause-one_line
returns-clause-one_line c =
    stays_one_line c.push-2.result (string_bytes c.args.text.now) (string_bytes c.push-2.new.self) _
    (encoded_prints c.args.c c.if-c-lt32.false c.if-c-eq127.false) c.push-2.ensures.bytes
