-- The first statement whose name begins with the key gives the key.
use Rattle.toml_places.proofs.Indices.{key_is_place}
use Rattle.toml_places.proofs.key.key_place.Goals as goal

pub returns-clause-gives : goal.returns-clause-gives
returns-clause-gives c = key_is_place c.args.key.now c.args.statements.now c.first_with.result c.first_with.ensures.index
