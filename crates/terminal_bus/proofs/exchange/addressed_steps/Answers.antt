use Rattle.std.proofs.Common.{◌<◌, length, arith}
use Rattle.terminal_bus.specs.inner.Seats.{StepsIfAddressed}
use Rattle.terminal_bus.proofs.Places.{below_next}
use Rattle.terminal_bus.proofs.exchange.addressed_steps.Goals as goal

pub loop-place-preserved : goal.loop-place-preserved
loop-place-preserved g c =
    let within : c.loop-place.place-index < length c.loop-place.places = omega (arith, c.loop-place-test.true, c.loop-place.auto.places) in
    below_next (StepsIfAddressed g.L.Legality.is_legal c.args.address c.args.event.now) c.loop-place.place-index c.args.places.now c.loop-place.places c.place-item.result c.step_addressed.new.place within c.loop-place.invariant c.step_addressed.ensures
