use Rattle.recorded_terminal.specs.Ways.{WaysHaveMet}
use Rattle.recorded_terminal.proofs.WayLaws.{any_here, cut_of}
use Rattle.recorded_terminal.proofs.ways.have_met.Goals as goal

pub returns-then-has_met : goal.returns-then-has_met
returns-then-has_met g c e =
    any_here (WaysHaveMet g.L.Legality.is_legal c.args.other.now) c.args.ways.now c.loop-way.way-index c.way-item.result
    (cut_of c.args.ways.now c.loop-way.way-index c.way-item.result c.loop-way-test.true c.way-item.is) (c.has_met.ensures c.if-has_met.true)
