use Rattle.std.proofs.Common.{refl, sym, subst}
use Rattle.std.specs.Option.{option_to_list}
use Rattle.terminal_rules.specs.Past.{history_after}
use Rattle.tool_buses.specs.inner.Results.{HasWatched}
use Rattle.tool_buses.proofs.AloneLaws.{on_ok_weaker, watched_more}
use Rattle.tool_buses.proofs.alone.watch_event.Goals as goal

pub returns-in-Some : goal.returns-in-Some
returns-in-Some c = on_ok_weaker c.push_closed.result _ _
    (λ grown P h w.
    subst (λ o. HasWatched P (history_after (option_to_list o) h) c.step.new.self c.push_closed.new.messages.items) (sym c.in-Some.is)
    (watched_more P h c.in-Some.event c.args.watch.now c.step.new.self c.args.messages.now.items c.push_closed.new.messages.items c.step.result w (c.step.ensures.stands P (λ _. 0) h w.stands refl)
    (c.step.ensures.closed P (λ _. 0) h w.stands refl) grown))
    c.push_closed.ensures
