use Rattle.std.proofs.Common.{◌∙◌, ◌+◌, sym, ap, arith}
use Rattle.bus_script.specs.Reading.{reading, then_reads}
use Rattle.bus_script.proofs.ReadingLaws.{reading-line, reading-too_long, reading-long_line}
use Rattle.rt1553_page.proofs.listing.event_of.Goals as goal

pub returns-then-lines-clause-fault : goal.returns-then-lines-clause-fault
returns-then-lines-clause-fault c = λ more. reading-too_long c.args.lines c.args.line.now more (omega (arith, c.if-lines.true))

pub returns-then-line-gt-MAX_LINE-clause-fault : goal.returns-then-line-gt-MAX_LINE-clause-fault
returns-then-line-gt-MAX_LINE-clause-fault c = λ more.
    reading-long_line c.args.lines c.args.line.now more (omega (arith, c.requires, c.if-lines.false)) (omega (arith, c.if-line-gt-MAX_LINE.true))

pub returns-in-Err-clause-fault : goal.returns-in-Err-clause-fault
returns-in-Err-clause-fault c = λ more.
    reading-line c.args.lines c.args.line.now more (omega (arith, c.requires, c.if-lines.false)) (omega (arith, c.if-line-gt-MAX_LINE.false))
    ∙ ap (λ x. then_reads x c.args.lines (reading (c.args.lines + 1) more)) (sym c.read_event.ensures ∙ c.in-Err.is)
