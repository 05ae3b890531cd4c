use Rattle.std.proofs.Common.{◌≡◌}
use Rattle.bus_complete_test.specs.Trials.{trials_left}
use Rattle.bus_complete_test.specs.Left.{exchanges_left}
use Rattle.bus_complete_test.proofs.walk.Exchanges.refill.Given as goal

abbrev pub invariant-loop-trial : goal.invariant-loop-trial
invariant-loop-trial l = record {
  left : exchanges_left l.self ≡ exchanges_left l.initial.self;
  given : l.self.given ≡ l.initial.self.given;
}

abbrev pub decreases-loop-trial : goal.decreases-loop-trial
decreases-loop-trial l = trials_left l.self.trial
