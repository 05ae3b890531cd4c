use Rattle.std.proofs.Common.{[], refl, sym, ap}
use Rattle.bus_script.specs.Reading.{then_reads}
use Rattle.bus_script.proofs.PlayLaws.{Played-nil}
use Rattle.bus_script.proofs.answering.play_line.Goals as goal

pub returns-in-Ok-None-clause-ok : goal.returns-in-Ok-None-clause-ok
returns-in-Ok-None-clause-ok g c = let none = rw c.in-Ok-None.field-0-is at c.in-Ok-None.ensures in (
  [],
  refl,
  λ n r. ap (λ x. then_reads x n r) (sym none),
  Played-nil (c.args.terminal.now, c.args.writer.now),
)

pub returns-in-Err-clause-fault : goal.returns-in-Err-clause-fault
returns-in-Err-clause-fault g c = (λ r. ap (λ x. then_reads x c.args.lines r) (sym c.in-Err.ensures), Played-nil (c.args.terminal.now, c.args.writer.now))
