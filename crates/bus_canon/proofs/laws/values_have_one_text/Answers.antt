use Rattle.bus_canon.proofs.CanonLaws.{text_one}
use Rattle.bus_canon.proofs.laws.values_have_one_text.Goals as goal

pub returns : goal.returns
returns c = text_one
