-- Laws of what is told before a sighting.
use Rattle.std.proofs.Common.{◌≡◌, Bool, List, [], ◌∷◌, ◌++◌, refl, sym, subst}
use Rattle.bus_word.specs.declared.cell.Cell.{Cell}
use Rattle.bus_terminal.specs.Stands.{StandsAt}
use Rattle.bus_terminal.specs.declared.terminal.Terminal.{Terminal}
use Rattle.terminal_rules.specs.declared.event.Event.{Event}
use Rattle.terminal_rules.specs.Past.{history_after}
use Rattle.terminal_recordings.specs.Recordings.{AreUnseen}
use Rattle.terminal_recordings.proofs.Law.{proper_join}
use Rattle.recorded_terminal.specs.Follows.{AreTold, TakesEvents}

unseen_join : (xs ys : List Event) → AreUnseen xs → AreUnseen ys → AreUnseen (xs ++ ys)
unseen_join [] ys a b = b
unseen_join (x ∷ xs) ys a b = (a.0, unseen_join xs ys a.1 b)

pub told_join : (xs ys : List Event) → AreTold xs → AreTold ys → AreTold (xs ++ ys)
told_join xs ys a b = (unseen_join xs ys a.0 b.0, proper_join xs ys a.1 b.1)

pub history_join : (xs ys h : List Event) → history_after (xs ++ ys) h ≡ history_after ys (history_after xs h)
history_join [] ys h = refl
history_join (x ∷ xs) ys h = history_join xs ys (x ∷ h)

-- a terminal that takes events and then others takes all
pub takes_join : {L : Type 0} (is_legal : L → Cell → Bool) (xs ys : List Event) (t u v : Terminal L) → TakesEvents is_legal xs t u → TakesEvents is_legal ys u v → TakesEvents is_legal (xs ++ ys) t v
takes_join is_legal xs ys t u v a b P h s =
    subst (λ (k : List Event). StandsAt is_legal P k v) (sym (history_join xs ys h)) (b P (history_after xs h) (a P h s))
