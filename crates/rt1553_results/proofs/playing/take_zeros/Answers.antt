use Rattle.std.proofs.Common.{◌∷◌, subst}
use Rattle.terminal_exchanges.specs.Exchanges.{data_event}
use Rattle.bus_terminal.specs.Stands.{StandsAt}
use Rattle.rt1553_results.proofs.PlayLaws.{zeros_more, zeros_over}
use Rattle.rt1553_results.proofs.playing.take_zeros.Goals as goal

pub loop-i-preserved : goal.loop-i-preserved
loop-i-preserved g c P h s =
    let k = c.loop-i.invariant P h s in
    (data_event 0 ∷ k.0, c.take_valid.ensures.takes P k.0 k.1, zeros_more c.args.count c.loop-i.i k.0 _ c.loop-i-test.true k.2)

pub returns : goal.returns
returns g c P h s =
    let k = c.loop-i.invariant P h s in
    subst (λ h. StandsAt g.L.Legality.is_legal P h c.loop-i.terminal) (zeros_over c.args.count c.loop-i.i k.0 _ c.loop-i-test.false k.2) k.1
