use Rattle.bus_legal.proofs.NormalLaws.{required-legal}
use Rattle.bus_legal.proofs.laws.normal_has_required_codes.Goals as goal

pub returns : goal.returns
returns c = required-legal
