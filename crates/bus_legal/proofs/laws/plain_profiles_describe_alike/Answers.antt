use Rattle.bus_legal.proofs.PlainLaws.{described_alike}
use Rattle.bus_legal.proofs.laws.plain_profiles_describe_alike.Goals as goal

pub returns : goal.returns
returns c = described_alike
