use Rattle.bus_legal.proofs.SameNormals.{same_normals}
use Rattle.bus_legal.proofs.laws.same_normals.Goals as goal

pub returns : goal.returns
returns c = same_normals
