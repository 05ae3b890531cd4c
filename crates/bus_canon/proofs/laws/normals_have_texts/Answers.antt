use Rattle.bus_canon.proofs.CanonLaws.{normal_text}
use Rattle.bus_canon.proofs.laws.normals_have_texts.Goals as goal

pub returns : goal.returns
returns c = normal_text
