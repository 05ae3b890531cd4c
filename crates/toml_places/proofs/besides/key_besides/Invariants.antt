-- The search over the statements that are left finds what the whole one does.
use Rattle.std.proofs.Common.{◌≡◌, drop, map}
use Rattle.toml_places.specs.Besides.{key_besides}
use Rattle.toml_places.specs.Statements.{whole_names, named_in, section_view}
use Rattle.toml_places.proofs.besides.key_besides.Given as goal

abbrev pub invariant-loop-statement : goal.invariant-loop-statement
invariant-loop-statement l =
    key_besides (map (λ k. k.now) l.known) (whole_names l.statements) ≡ key_besides (map (λ k. k.now) l.known) (named_in (section_view l.section) (drop l.statement-index l.statements))
