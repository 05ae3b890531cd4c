use Rattle.bus_canon.proofs.CanonLaws.{text_normal}
use Rattle.bus_canon.proofs.laws.texts_are_of_normals.Goals as goal

pub returns : goal.returns
returns c = text_normal
