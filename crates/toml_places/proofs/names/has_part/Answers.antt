-- The order of two texts tells them apart as `==` does.
use Rattle.std.proofs.Common.{sym, ◌∙◌}
use Rattle.std.proofs.lemmas.Map.Text.{is_eq-slice_cmp}
use Rattle.toml_places.proofs.names.has_part.Goals as goal

pub returns-in-Some : goal.returns-in-Some
returns-in-Some c = rw (← c.in-Some.ensures) (c.eq.ensures ∙ sym (is_eq-slice_cmp c.args.name.now c.in-Some.part.now))
