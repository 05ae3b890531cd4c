-- The pair that gives the whole array, or else the header of the item or what stands behind it.
use Rattle.std.proofs.Common.{◌∙◌, length, refl, sym, option_copied}
use Rattle.std.proofs.lemmas.Option.{slice_get_read, slice_get_past}
use Rattle.toml_places.proofs.Indices.{whole_within, header_within, header_item, header_name, header_none}
use Rattle.toml_places.proofs.array.ArrayPlaces.find.Goals as goal

pub returns-then-is_some-clause-within : goal.returns-then-is_some-clause-within
returns-then-is_some-clause-within c = whole_within c.args.self.now.key.now c.args.self.now.statements.now c.args.self.now.whole c.args.self.now.whole_is

pub name_place-requires : goal.name_place-requires
name_place-requires c =
    let found = slice_get_read c.as_slice.result.now (length c.as_slice.result.now) c.args.index c.in-Some-Some.entry.now refl c.in-Some-Some.ensures.lookup.3.0 c.in-Some-Some.ensures.lookup.1 in
    header_within c.args.self.now.key.now c.args.self.now.statements.now c.as_slice.result.now (c.as_slice.ensures.value ∙ c.args.self.now.entries_are) c.args.index c.in-Some-Some.entry.now found

pub returns-in-Some-Some-clause-index : goal.returns-in-Some-Some-clause-index
returns-in-Some-Some-clause-index c =
    let found = slice_get_read c.as_slice.result.now (length c.as_slice.result.now) c.args.index c.in-Some-Some.entry.now refl c.in-Some-Some.ensures.lookup.3.0 c.in-Some-Some.ensures.lookup.1 in
    let names = header_name c.args.self.now.key.now c.args.self.now.statements.now c.as_slice.result.now (c.as_slice.ensures.value ∙ c.args.self.now.entries_are) c.args.index
    c.args.self.now.whole c.args.self.now.whole_is (sym c.is_some.ensures ∙ c.if-is_some.false) c.in-Some-Some.name.now c.in-Some-Some.entry.now found in
    rw c.in-Some-Some.is-1 (c.name_place.ensures.index ∙ names)

pub returns-in-Some-None-clause-index : goal.returns-in-Some-None-clause-index
returns-in-Some-None-clause-index c =
    let found = slice_get_read c.as_slice.result.now (length c.as_slice.result.now) c.args.index c.in-Some-None.entry.now refl c.in-Some-None.ensures.lookup.3.0 c.in-Some-None.ensures.lookup.1 in
    rw c.in-Some-None.is-1
    (header_item c.args.self.now.key.now c.args.self.now.statements.now c.as_slice.result.now (c.as_slice.ensures.value ∙ c.args.self.now.entries_are) c.args.index
    c.args.self.now.whole c.args.self.now.whole_is (sym c.is_some.ensures ∙ c.if-is_some.false) c.in-Some-None.entry.now found)

pub returns-in-Some-None-clause-within : goal.returns-in-Some-None-clause-within
returns-in-Some-None-clause-within c =
    let found = slice_get_read c.as_slice.result.now (length c.as_slice.result.now) c.args.index c.in-Some-None.entry.now refl c.in-Some-None.ensures.lookup.3.0 c.in-Some-None.ensures.lookup.1 in
    header_within c.args.self.now.key.now c.args.self.now.statements.now c.as_slice.result.now (c.as_slice.ensures.value ∙ c.args.self.now.entries_are) c.args.index c.in-Some-None.entry.now found

pub returns-in-None-default-clause-index : goal.returns-in-None-default-clause-index
returns-in-None-default-clause-index c =
    let found = slice_get_past c.as_slice.result.now c.args.index c.in-None-default.ensures.lookup.3 in
    header_none c.args.self.now.key.now c.args.self.now.statements.now c.as_slice.result.now (c.as_slice.ensures.value ∙ c.args.self.now.entries_are) c.args.index
    c.args.self.now.whole c.args.self.now.whole_is (sym c.is_some.ensures ∙ c.if-is_some.false) (option_copied c.args.name) found
