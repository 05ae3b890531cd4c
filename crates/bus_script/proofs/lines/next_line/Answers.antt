use Rattle.std.proofs.Common.{◌<◌, ◌+◌, ℕ, [], length, take, drop, arith, sym, subst, length-take}
use Rattle.bus_script.specs.inner.Lines.{Faults}
use Rattle.bus_script.specs.declared.fault.RunFault.TheVariants.{LongLine}
use Rattle.script_lines.proofs.LineLaws.{found_line, no_line_feed}
use Rattle.bus_script.proofs.ReadingLaws.{Faults-long_line, Faults-long_front}
use Rattle.bus_script.proofs.FeedLaws.{found-starts}
use Rattle.bus_script.proofs.lines.next_line.Goals as goal

pub returns-then-len-gt-MAX_LINE-clause-fault : goal.returns-then-len-gt-MAX_LINE-clause-fault
returns-then-len-gt-MAX_LINE-clause-fault c =
    let found = c.in-Some.ensures in
    let line = found_line c.args.bytes.now c.in-Some.len found.within found.found found.first in
    let within : c.in-Some.len < length c.args.bytes.now = found.within in
    let long : 64 < length (take c.in-Some.len c.args.bytes.now) = omega (arith, length-take {A = ℕ}) in
    subst (λ xs. Faults c.args.lines xs [] (LongLine (c.args.lines + 1))) (sym line.1)
    (Faults-long_line c.args.lines (take c.in-Some.len c.args.bytes.now) (drop (c.in-Some.len + 1) c.args.bytes.now) (omega arith) long line.0)

pub returns-then-bytes-gt-MAX_LINE-clause-fault : goal.returns-then-bytes-gt-MAX_LINE-clause-fault
returns-then-bytes-gt-MAX_LINE-clause-fault c =
    Faults-long_front c.args.lines c.args.bytes.now (omega arith) (omega arith) (no_line_feed c.args.bytes.now c.in-None.ensures.none)

pub returns-else-len-gt-MAX_LINE-clause-ok : goal.returns-else-len-gt-MAX_LINE-clause-ok
returns-else-len-gt-MAX_LINE-clause-ok c =
    let found = c.in-Some.ensures in found-starts c.args.bytes.now c.in-Some.len found.within found.found found.first (omega arith) c.args.lines (omega arith)

pub returns-else-bytes-gt-MAX_LINE-clause-ok : goal.returns-else-bytes-gt-MAX_LINE-clause-ok
returns-else-bytes-gt-MAX_LINE-clause-ok c =
    record { none = no_line_feed c.args.bytes.now c.in-None.ensures.none; short = omega arith; room = λ h. omega arith }
