use Rattle.bus_legal.proofs.ReachedNormals.{normals_reached}
use Rattle.bus_legal.proofs.SameNormals.{normal_in_range}
use Rattle.bus_legal.proofs.laws.normals_are_reached.Goals as goal

pub returns : goal.returns
returns c = record { in_range = normal_in_range; exactly = normals_reached }
