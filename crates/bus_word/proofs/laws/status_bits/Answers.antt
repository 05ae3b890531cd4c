use Rattle.bus_word.proofs.WordLaws.{status_has_bits}
use Rattle.bus_word.proofs.laws.status_bits.Goals as goal

pub returns : goal.returns
returns c = status_has_bits
