-- The statement that is found gives the item the name.
use Rattle.std.proofs.Common.{Some}
use Rattle.toml_places.proofs.Indices.{item_is_place}
use Rattle.toml_places.proofs.array.ArrayPlaces.name.Goals as goal

pub returns-clause-gives : goal.returns-clause-gives
returns-clause-gives c = item_is_place c.args.self.now.key.now c.args.index (Some c.args.name.now) c.args.self.now.statements.now c.find.result c.find.ensures.index
