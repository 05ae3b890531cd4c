-- What was found so far, and what the statements that are left give, is what the search over all of them finds.
use Rattle.std.proofs.Common.{◌≡◌, ◌++◌, drop}
use Rattle.toml_places.specs.Search.{either, whole_from, entries_from}
use Rattle.toml_places.specs.Statements.{whole_names, named_in, section_view}
use Rattle.toml_places.proofs.array.array_places.Given as goal

abbrev pub invariant-loop-i : goal.invariant-loop-i
invariant-loop-i l = record {
  whole_is : whole_from 0 l.key (whole_names l.statements) ≡ either l.whole (whole_from l.i l.key (named_in (section_view l.section) (drop l.i l.statements)));
  entries_are : entries_from 0 l.key (whole_names l.statements) ≡ l.entries.items ++ entries_from l.i l.key (named_in (section_view l.section) (drop l.i l.statements));
}
