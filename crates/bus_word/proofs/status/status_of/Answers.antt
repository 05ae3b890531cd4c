use Rattle.std.proofs.Common.{arith}
use Rattle.bus_word.proofs.Masks.{status-by_steps}
use Rattle.bus_word.proofs.status.status_of.Goals as goal

pub returns : goal.returns
returns c =
    omega (arith, status-by_steps c.args.address c.args.parts, c.from.ensures, c.from-2.ensures, c.from-3.ensures, c.from-4.ensures, c.from-5.ensures, c.from-6.ensures, c.from-7.ensures, c.from-8.ensures)
