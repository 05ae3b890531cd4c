use Rattle.rt1553_verify.proofs.PossibleLaws.{answers_can_be_stated}
use Rattle.rt1553_verify.proofs.laws.true_answers_pass.Goals as goal

pub returns : goal.returns
returns c = answers_can_be_stated
