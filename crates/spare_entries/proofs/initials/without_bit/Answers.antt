use Rattle.spare_entries.proofs.Bits.{bit_cleared}
use Rattle.spare_entries.proofs.initials.without_bit.Goals as goal

pub returns : goal.returns
returns c = λ i l. bit_cleared c.args.mask c.args.bit i c.requires l
