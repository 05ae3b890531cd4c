use Rattle.toml_places.proofs.TreeLaws.{document_law}
use Rattle.toml_places.proofs.tree_laws.tree_is_defined.Goals as goal

pub returns : goal.returns
returns c = document_law
