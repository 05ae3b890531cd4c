use Rattle.std.proofs.Common.{[], ◌∷◌, ℕ, List, sym, subst}
use Rattle.bus_word.specs.declared.word.Bus.{Bus}
use Rattle.bus_word.specs.declared.word.Bus.TheVariants.{A, B}
use Rattle.bus_word.specs.declared.word.Kind.TheVariants.{Com}
use Rattle.bus_word.specs.Word.{valid_word}
use Rattle.bus_legal.specs.Description.{Description, described}
use Rattle.terminal_rules.specs.declared.event.Event.{Event}
use Rattle.terminal_rules.specs.declared.event.Event.TheVariants.{Word, Gap, Slot}
use Rattle.terminal_rules.specs.Past.{history_after}
use Rattle.terminal_recordings.specs.Later.{shutdown_on, if_shut}
use Rattle.terminal_recordings.proofs.Leaving.{history_join}
use Rattle.recorded_terminal.specs.Follows.{FollowsAt}
use Rattle.recorded_terminal.proofs.follower.Follower.shut.Goals as goal

abbrev exchange : Bus → ℕ → List Event
exchange b command = Word b (valid_word Com command) ∷ Gap b ∷ Slot ∷ []

pub returns : goal.returns
returns g c =
    let P : Description = described c.args.setup (g.L.Legality.is_legal c.args.legality) in
    let of_a : List Event = if_shut c.args.shut.a (shutdown_on B P.address) in
    let of_b : List Event = if_shut c.args.shut.b (shutdown_on A P.address) in
    let stands : FollowsAt g.L.Legality.is_legal P (history_after of_b (history_after of_a [])) c.exchange_if-2.new.self =
    subst (λ command. FollowsAt g.L.Legality.is_legal P (history_after (if_shut c.args.shut.b (exchange A command)) (history_after (if_shut c.args.shut.a (exchange B command)) [])) c.exchange_if-2.new.self)
    c.shutdown_command-command.ensures (c.exchange_if-2.ensures P _ (c.exchange_if.ensures P [] c.power_up-follower.ensures)) in
    subst (λ h. FollowsAt g.L.Legality.is_legal P h c.exchange_if-2.new.self) (sym (history_join of_a of_b [])) stands
