-- The names behind the header of the item.
use Rattle.std.proofs.Common.{Some, None, ◌∙◌, length, map, refl}
use Rattle.std.proofs.lemmas.Option.{slice_get_read, slice_get_past}
use Rattle.toml_places.proofs.Among.{item_at}
use Rattle.toml_places.proofs.Indices.{header_within}
use Rattle.toml_places.proofs.array.ArrayPlaces.name_besides.Goals as goal

pub name_besides-requires : goal.name_besides-requires
name_besides-requires c =
    let found = slice_get_read c.as_slice.result.now (length c.as_slice.result.now) c.args.index c.in-Some.entry.now refl c.in-Some.ensures.lookup.3.0 c.in-Some.ensures.lookup.1 in
    header_within c.args.self.now.key.now c.args.self.now.statements.now c.as_slice.result.now (c.as_slice.ensures.value ∙ c.args.self.now.entries_are) c.args.index c.in-Some.entry.now found

pub returns-in-Some : goal.returns-in-Some
returns-in-Some c =
    let found = slice_get_read c.as_slice.result.now (length c.as_slice.result.now) c.args.index c.in-Some.entry.now refl c.in-Some.ensures.lookup.3.0 c.in-Some.ensures.lookup.1 in
    c.name_besides.ensures ∙ item_at c.args.self.now.key.now c.args.index (map (λ k. k.now) c.args.known.now) c.args.self.now.statements.now c.as_slice.result.now (Some c.in-Some.entry.now)
    (c.as_slice.ensures.value ∙ c.args.self.now.entries_are) found

pub returns-in-None : goal.returns-in-None
returns-in-None c =
    let found = slice_get_past c.as_slice.result.now c.args.index c.in-None.ensures.lookup.3 in
    item_at c.args.self.now.key.now c.args.index (map (λ k. k.now) c.args.known.now) c.args.self.now.statements.now c.as_slice.result.now None
    (c.as_slice.ensures.value ∙ c.args.self.now.entries_are) found
