use Rattle.std.proofs.Common.{ap, sym, ◌∙◌, not, ◌&&◌, ◌||◌}
use Rattle.terminal_rules.specs.Reply.{is_other}
use Rattle.terminal_state.specs.Buses.{on_bus}
use Rattle.terminal_messages.specs.Told.{event_bus, is_first_command}
use Rattle.terminal_messages.proofs.fold.closes.Goals as goal

pub returns-then-begins : goal.returns-then-begins
returns-then-begins c ds =
    c.if-begins.true
    ∙ ap (λ x. x || (((is_first_command c.args.part || c.args.seen.now.starts) && is_other c.args.bus (event_bus c.args.seen.now.event)) && not (on_bus c.args.bus c.args.seen.now.engaged)))
    (sym c.if-begins.true ∙ c.begins.ensures ds)

pub returns-else-begins_elsewhere : goal.returns-else-begins_elsewhere
returns-else-begins_elsewhere c ds =
    c.if-begins_elsewhere.false
    ∙ (λ j. (sym c.if-begins.false ∙ c.begins.ensures ds) j
    || ((sym c.if-begins_elsewhere.false ∙ c.begins_elsewhere.ensures) j && not (on_bus c.args.bus c.args.seen.now.engaged)))
