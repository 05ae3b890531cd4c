use Rattle.bus_complete_test.proofs.WaitingLaws.{is_trial-in_range, are_short-short}
use Rattle.bus_complete_test.proofs.walk.Exchanges.fetch.Goals as goal

pub invariant_of-self-clause-ranges : goal.invariant_of-self-clause-ranges
invariant_of-self-clause-ranges c = is_trial-in_range c.next_trial-self.result c.next_trial-self.ensures.range

pub invariant_of-self-clause-short : goal.invariant_of-self-clause-short
invariant_of-self-clause-short c = are_short-short c.exchanges_of-waiting.result.items c.exchanges_of-waiting.ensures.short
