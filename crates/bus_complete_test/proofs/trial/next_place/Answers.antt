use Rattle.std.proofs.Common.{arith}
use Rattle.bus_complete_test.proofs.TrialLaws.{place_next, place_line, place_last}
use Rattle.bus_complete_test.proofs.trial.next_place.Goals as goal

pub returns-then-count-lt32-clause-rest : goal.returns-then-count-lt32-clause-rest
returns-then-count-lt32-clause-rest c = λ f. place_next f c.args.subaddress c.args.count c.if-count-lt32.true

pub returns-then-subaddress-lt30-clause-rest : goal.returns-then-subaddress-lt30-clause-rest
returns-then-subaddress-lt30-clause-rest c = λ f. place_line f c.args.subaddress c.args.count c.requires (omega arith) c.if-subaddress-lt30.true

pub returns-else-subaddress-lt30-clause-rest : goal.returns-else-subaddress-lt30-clause-rest
returns-else-subaddress-lt30-clause-rest c = λ f. place_last f c.args.subaddress c.args.count c.requires (omega arith) (omega arith)
