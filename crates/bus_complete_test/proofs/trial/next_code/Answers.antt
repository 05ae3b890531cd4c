use Rattle.std.proofs.Common.{arith}
use Rattle.bus_complete_test.proofs.TrialLaws.{code_next, code_last}
use Rattle.bus_complete_test.proofs.trial.next_code.Goals as goal

pub returns-then-code-lt31-clause-rest : goal.returns-then-code-lt31-clause-rest
returns-then-code-lt31-clause-rest c = λ f. code_next f c.args.code c.if-code-lt31.true

pub returns-else-code-lt31-clause-rest : goal.returns-else-code-lt31-clause-rest
returns-else-code-lt31-clause-rest c = λ f. code_last f c.args.code c.requires (omega arith)
