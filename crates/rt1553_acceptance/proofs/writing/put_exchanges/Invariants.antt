use Rattle.std.proofs.Common.{◌≡◌, List, ◌++◌, length}
use Rattle.bus_legal.specs.Parts.{description_in}
use Rattle.terminal_exchanges.specs.Exchanges.{Exchange}
use Rattle.bus_complete_test.specs.CompleteTest.{tried}
use Rattle.bus_complete_test.specs.Left.{exchanges_left}
use Rattle.rt1553_acceptance.specs.inner.Puts.{Puts}
use Rattle.rt1553_acceptance.proofs.writing.put_exchanges.Given as goal

-- what was written, and what is left, is all
abbrev pub invariant-loop-exchange : goal.invariant-loop-exchange
invariant-loop-exchange g l = (xs : List Exchange)
    × Puts g.L.Legality.is_legal g.W.Sink.written l.names (description_in l.p) l.initial.terminal l.terminal l.initial.sink l.sink xs
    × (xs ++ exchanges_left l.exchanges ≡ tried (description_in l.p))
    × (g.W.Sink.has_failed l.sink ≡ g.W.Sink.has_failed l.initial.sink)

abbrev pub decreases-loop-exchange : goal.decreases-loop-exchange
decreases-loop-exchange g l = length (exchanges_left l.exchanges)
