use Rattle.std.proofs.Common.{arith}
use Rattle.recording_coverage.proofs.PlaceLaws.{row_begins, row_all}
use Rattle.recording_coverage.proofs.places.row_len.Goals as goal

pub loop-index-init : goal.loop-index-init
loop-index-init c = λ d. (omega arith, row_begins c.args.messages.now d c.requires)

pub returns-clause-row : goal.returns-clause-row
returns-clause-row c = row_all c.args.messages.now c.loop-index.index c.requires c.loop-index-test.false (c.loop-index.auto.index-end (omega (arith, c.requires))) c.loop-index.invariant
