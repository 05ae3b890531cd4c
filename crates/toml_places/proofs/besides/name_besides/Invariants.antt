-- The search over the statements that are left finds what the whole one does.
use Rattle.std.proofs.Common.{◌≡◌, drop, map}
use Rattle.toml_places.specs.Besides.{name_besides, names_behind}
use Rattle.toml_places.specs.Statements.{named_in, section_view}
use Rattle.toml_places.proofs.besides.name_besides.Given as goal

abbrev pub invariant-loop-i : goal.invariant-loop-i
invariant-loop-i l =
    name_besides l.key (map (λ k. k.now) l.known) (names_behind (drop l.entry l.statements))
    ≡ name_besides l.key (map (λ k. k.now) l.known) (named_in (section_view l.section) (drop l.i l.statements))
