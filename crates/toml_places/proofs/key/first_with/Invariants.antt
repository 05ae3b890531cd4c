-- The search over the statements that are left finds what the whole one does.
use Rattle.std.proofs.Common.{◌≡◌, drop}
use Rattle.toml_places.specs.Search.{key_from}
use Rattle.toml_places.specs.Statements.{whole_names, named_in, section_view}
use Rattle.toml_places.proofs.key.first_with.Given as goal

abbrev pub invariant-loop-i : goal.invariant-loop-i
invariant-loop-i l = key_from 0 l.key (whole_names l.statements) ≡ key_from l.i l.key (named_in (section_view l.section) (drop l.i l.statements))
