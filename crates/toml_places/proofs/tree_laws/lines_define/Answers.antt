use Rattle.toml_places.proofs.TreeLaws.{lines_law}
use Rattle.toml_places.proofs.tree_laws.lines_define.Goals as goal

pub returns : goal.returns
returns c = lines_law
