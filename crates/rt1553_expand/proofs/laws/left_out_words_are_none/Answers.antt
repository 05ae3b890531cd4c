use Rattle.rt1553_expand.proofs.OwnLaws.{no_difference}
use Rattle.rt1553_expand.proofs.laws.left_out_words_are_none.Goals as goal

pub returns : goal.returns
returns c = no_difference
