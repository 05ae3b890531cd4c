use Rattle.std.proofs.Common.{◌∙◌, ◌++◌, List, sym, subst}
use Rattle.std.specs.Option.{option_to_list}
use Rattle.terminal_rules.specs.declared.event.Event.{Event}
use Rattle.terminal_rules.specs.Past.{history_after}
use Rattle.terminal_bus.proofs.Sent.{after_both}
use Rattle.tool_buses.specs.inner.Results.{HasWatched}
use Rattle.tool_buses.proofs.AloneLaws.{on_ok_weaker}
use Rattle.tool_buses.proofs.alone.watch_came.Goals as goal

pub returns : goal.returns
returns c = on_ok_weaker c.watch_event-3.result _ _
    (λ third P h w.
    let e : List Event = option_to_list c.args.came.now.event in
    let a : List Event = option_to_list c.args.came.now.on_a in
    let b : List Event = option_to_list c.args.came.now.on_b in
    let first : List Event = history_after e h in
    subst (λ g. HasWatched P g c.watch_event-3.new.watch c.watch_event-3.new.messages.items) (sym (after_both e (a ++ b) h ∙ after_both a b first))
    (third P (history_after a first) (c.in_ok-watch_event-2.ensures P first (c.in_ok-watch_event.ensures P h w))))
    c.watch_event-3.ensures
