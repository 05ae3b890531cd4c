use Rattle.std.proofs.Common.{◌≡◌, ◌-◌, length, take, drop}
use Rattle.rt1553_expand.specs.Message.{cut}
use Rattle.rt1553_expand.proofs.CutLaws.{behind_front}
use Rattle.rt1553_expand.proofs.message.cut.Given as goal

abbrev pub invariant-loop-at : goal.invariant-loop-at
invariant-loop-at l = cut l.mark l.text ≡ behind_front (take l.at l.text) (cut l.mark (drop l.at l.text))

abbrev pub decreases-loop-at : goal.decreases-loop-at
decreases-loop-at l = length l.text - l.at
