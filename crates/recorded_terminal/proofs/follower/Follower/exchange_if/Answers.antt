use Rattle.std.proofs.Common.{[], ◌∷◌, sym, subst}
use Rattle.bus_word.specs.declared.word.Kind.TheVariants.{Com}
use Rattle.bus_word.specs.Word.{valid_word}
use Rattle.terminal_rules.specs.declared.event.Event.TheVariants.{Word, Gap, Slot}
use Rattle.terminal_rules.specs.Past.{history_after}
use Rattle.terminal_recordings.specs.Later.{if_shut}
use Rattle.bus_terminal.specs.Stands.{StandsAt}
use Rattle.recorded_terminal.proofs.follower.Follower.exchange_if.Goals as goal

pub returns-then-takes : goal.returns-then-takes
returns-then-takes g c P h s =
    subst (λ takes. StandsAt g.L.Legality.is_legal P (history_after (if_shut takes (Word c.args.bus (valid_word Com c.args.command) ∷ Gap c.args.bus ∷ Slot ∷ [])) h) c.take-then-takes.new.self)
    (sym c.if-takes.true) (c.take-then-takes.ensures.takes P _ (c.take.ensures.takes P _ (c.take_valid.ensures.takes P h s)))

pub returns-else-takes : goal.returns-else-takes
returns-else-takes g c P h s =
    subst (λ takes. StandsAt g.L.Legality.is_legal P (history_after (if_shut takes (Word c.args.bus (valid_word Com c.args.command) ∷ Gap c.args.bus ∷ Slot ∷ [])) h) c.args.self.now.terminal)
    (sym c.if-takes.false) s
