use Rattle.std.proofs.Common.{length}
use Rattle.bus_legal.specs.Parts.{description_in}
use Rattle.bus_complete_test.specs.Left.{exchanges_left}
use Rattle.rt1553_results.specs.Results.{answer}
use Rattle.rt1553_results.proofs.RepliedLaws.{SeenSoFar}
use Rattle.rt1553_results.proofs.watching.watch_results.Given as goal

abbrev pub invariant-loop-exchange : goal.invariant-loop-exchange
invariant-loop-exchange l = SeenSoFar (description_in l.normal) (answer l.results) l.exchanges.given (exchanges_left l.exchanges) l.initial.watch l.watch

abbrev pub decreases-loop-exchange : goal.decreases-loop-exchange
decreases-loop-exchange l = length (exchanges_left l.exchanges)
