use Rattle.std.proofs.Common.{◌++◌, ℕ, Option, List, slice_get, take, sym, ap, ◌∙◌}
use Rattle.std.specs.Option.{option_to_list}
use Rattle.terminal_rules.specs.LookBack.{keep}
use Rattle.terminal_bus.specs.inner.Replying.{replier_at}
use Rattle.terminal_bus.proofs.Places.{keep_next}
use Rattle.terminal_bus.proofs.discipline.first_replier.Goals as goal

pub loop-place-preserved : goal.loop-place-preserved
loop-place-preserved g c =
    let so_far : List ℕ = keep replier_at (take c.loop-place.place-index c.args.places.now) in
    c.first_of-found.ensures so_far c.loop-place.invariant
    ∙ ap (λ (o : Option ℕ). slice_get (so_far ++ option_to_list o) 0) (c.replier.ensures ∙ ap replier_at c.place-item.is)
    ∙ ap (λ (ks : List ℕ). slice_get ks 0) (sym (keep_next replier_at c.args.places.now c.loop-place.place-index c.place-item.result c.loop-place-test.true))
