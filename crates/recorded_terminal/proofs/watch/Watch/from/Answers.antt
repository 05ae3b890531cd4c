use Rattle.std.proofs.Common.{◌∙◌, ◌++◌, ◌∷◌, [], ap, refl}
use Rattle.recorded_terminal.proofs.WatchLaws.{begins_following}
use Rattle.recorded_terminal.proofs.watch.Watch.from.Goals as goal

pub returns : goal.returns
returns g c P h low follows =
    (low, begins_following g.L.Legality.is_legal P h _ c.from.result (c.in_ok-push.ensures.items ∙ ap (λ l. l ++ c.from.result ∷ []) c.new-ways.ensures.items) (c.from.ensures P h follows) c.new.ensures.items c.new-2.ensures.items refl)
