-- The names that are left decide what all do.
use Rattle.std.proofs.Common.{◌≡◌, drop, map}
use Rattle.toml_places.specs.Besides.{is_one_of}
use Rattle.toml_places.proofs.besides.is_one_of.Given as goal

abbrev pub invariant-loop-other : goal.invariant-loop-other
invariant-loop-other l = is_one_of l.name (map (λ k. k.now) l.known) ≡ is_one_of l.name (map (λ k. k.now) (drop l.other-index l.known))
