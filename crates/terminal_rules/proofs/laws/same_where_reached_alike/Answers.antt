use Rattle.terminal_rules.proofs.Reach.Same.{same_where_reached}
use Rattle.terminal_rules.proofs.laws.same_where_reached_alike.Goals as goal

pub returns : goal.returns
returns c = same_where_reached
