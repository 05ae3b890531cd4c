-- The search over the statements that are left finds what the whole one does.
use Rattle.std.proofs.Common.{◌≡◌, drop}
use Rattle.toml_places.specs.Search.{name_from}
use Rattle.toml_places.specs.Statements.{name_behind, named_in, section_view}
use Rattle.toml_places.proofs.array.name_place.Given as goal

abbrev pub invariant-loop-i : goal.invariant-loop-i
invariant-loop-i l =
    name_behind l.entry l.key l.name (drop l.entry l.statements) ≡ name_from l.i l.key l.name (named_in (section_view l.section) (drop l.i l.statements))
