use Rattle.rt1553.proofs.CompareLaws.{headline}
use Rattle.rt1553.proofs.laws.same_bytes_same_terminal.Goals as goal

pub returns : goal.returns
returns c = headline
