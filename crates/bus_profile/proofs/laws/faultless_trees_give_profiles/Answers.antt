use Rattle.bus_profile.proofs.Faultless.{faultless_gives}
use Rattle.bus_profile.proofs.laws.faultless_trees_give_profiles.Goals as goal

pub returns : goal.returns
returns c = faultless_gives
