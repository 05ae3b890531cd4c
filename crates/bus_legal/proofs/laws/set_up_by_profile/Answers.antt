use Rattle.bus_legal.proofs.NormalLaws.{set_up_by}
use Rattle.bus_legal.proofs.laws.set_up_by_profile.Goals as goal

pub returns : goal.returns
returns c = set_up_by
