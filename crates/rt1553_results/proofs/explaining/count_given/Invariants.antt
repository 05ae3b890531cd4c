use Rattle.std.proofs.Common.{◌≡◌, length}
use Rattle.bus_legal.specs.Parts.{description_in}
use Rattle.bus_complete_test.specs.Left.{exchanges_left}
use Rattle.rt1553_results.specs.Results.{answer}
use Rattle.rt1553_results.proofs.ExplainedLaws.{CountedSoFar}
use Rattle.rt1553_results.proofs.explaining.count_given.Given as goal

abbrev pub invariant-loop-exchange : goal.invariant-loop-exchange
invariant-loop-exchange l = (l.total ≡ l.exchanges.given) × CountedSoFar (description_in l.normal) (answer l.results) l.exchanges.given (exchanges_left l.exchanges) l.missing.items

abbrev pub decreases-loop-exchange : goal.decreases-loop-exchange
decreases-loop-exchange l = length (exchanges_left l.exchanges)
