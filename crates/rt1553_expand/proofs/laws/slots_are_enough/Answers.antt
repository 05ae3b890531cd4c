use Rattle.rt1553_expand.proofs.SlotLaws.{enough, no_spare}
use Rattle.rt1553_expand.proofs.laws.slots_are_enough.Goals as goal

pub returns : goal.returns
returns c = record { enough = enough; no_spare = no_spare }
