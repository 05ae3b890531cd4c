-- The statement that is found gives the item.
use Rattle.std.proofs.Common.{None}
use Rattle.toml_places.proofs.Indices.{item_is_place}
use Rattle.toml_places.proofs.array.ArrayPlaces.entry.Goals as goal

pub returns-clause-gives : goal.returns-clause-gives
returns-clause-gives c = item_is_place c.args.self.now.key.now c.args.index None c.args.self.now.statements.now c.find.result c.find.ensures.index
