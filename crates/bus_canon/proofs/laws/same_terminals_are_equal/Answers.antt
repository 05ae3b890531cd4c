use Rattle.bus_canon.proofs.SameLaws.{equal_where_same}
use Rattle.bus_canon.proofs.laws.same_terminals_are_equal.Goals as goal

pub returns : goal.returns
returns c = equal_where_same
