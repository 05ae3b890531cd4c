use Rattle.std.proofs.Common.{◌≡◌, ap, sym, ◌∙◌, subst, List, ◌++◌, Option}
use Rattle.terminal_rules.specs.declared.event.Event.{Event}
use Rattle.terminal_rules.specs.History.{Replying}
use Rattle.terminal_rules.specs.Reply.{reply_now}
use Rattle.terminal_rules.specs.Past.{past, history_after}
use Rattle.terminal_recordings.specs.Completion.{flags_set, next_set}
use Rattle.bus_terminal.specs.Stands.{StandsAt}
use Rattle.recorded_terminal.specs.SentWords.{shown_data}
use Rattle.recorded_terminal.specs.Follows.{given_events, TakesEvents}
use Rattle.recorded_terminal.proofs.TellLaws.{told_join, takes_join}
use Rattle.recorded_terminal.proofs.follower.Follower.tell.Goals as goal

pub returns-clause-stands : goal.returns-clause-stands
returns-clause-stands g c P h s =
    let k : List Event = history_after (flags_set c.args.status) h in
    let told : given_events c.given.result ≡ next_set (reply_now (past P h)) (shown_data c.args.sent) =
    c.given.ensures.given ∙ ap (λ (r : Option Replying). next_set r (shown_data c.args.sent)) (c.next_word-next.ensures P h s) in
    subst (λ (es : List Event). StandsAt g.L.Legality.is_legal P (history_after es k) c.take_if.new.self.terminal) told
    (c.take_if.ensures P k (c.set-terminal.ensures.stands P _ (c.set-subsystem.ensures.stands P _ (c.set-busy.ensures.stands P _ (c.set-service.ensures.stands P h s)))))

pub returns-clause-told : goal.returns-clause-told
returns-clause-told g c =
    told_join _ _ c.set-service.ensures.told (told_join _ _ c.set-busy.ensures.told (told_join _ _ c.set-subsystem.ensures.told (told_join _ _ c.set-terminal.ensures.told c.given-2.ensures.told)))

pub returns-clause-stands_told : goal.returns-clause-stands_told
returns-clause-stands_told g c =
    let legal = g.L.Legality.is_legal in
    let same : given_events c.given.result ≡ given_events c.given-2.result = c.given.ensures.given ∙ sym c.given-2.ensures.given in
    let word : TakesEvents legal (given_events c.given-2.result) c.set-terminal.new.self.terminal c.take_if.new.self.terminal =
    subst (λ (es : List Event). TakesEvents legal es c.set-terminal.new.self.terminal c.take_if.new.self.terminal) same c.take_if.ensures in
    let last : List Event = given_events c.set-terminal.result ++ given_events c.given-2.result in
    let third : List Event = given_events c.set-subsystem.result ++ last in
    let second : List Event = given_events c.set-busy.result ++ third in
    takes_join legal (given_events c.set-service.result) second _ _ _ c.set-service.ensures.stands_told
    (takes_join legal (given_events c.set-busy.result) third _ _ _ c.set-busy.ensures.stands_told
    (takes_join legal (given_events c.set-subsystem.result) last _ _ _ c.set-subsystem.ensures.stands_told
    (takes_join legal (given_events c.set-terminal.result) (given_events c.given-2.result) _ _ _ c.set-terminal.ensures.stands_told word)))
