use Rattle.std.proofs.Common.{refl, ap, ◌∙◌}
use Rattle.terminal_rules.specs.Turn.{is_answered}
use Rattle.terminal_rules.specs.Steps.{begun_if}
use Rattle.terminal_state.specs.Ended.{ending_of}
use Rattle.terminal_state.specs.Held.{held_after}
use Rattle.terminal_state.specs.Replies.{shown_reply}
use Rattle.bus_terminal.proofs.TakesLaw.{same_setup, settled_gap}
use Rattle.bus_terminal.proofs.terminal.Terminal.settle.Goals as goal

pub returns-clause-settles : goal.returns-clause-settles
returns-clause-settles g c ds i words =
    let t = c.args.self.now in
    let ended = c.args.ended.now in
    settled_gap g.L.Legality.is_legal c.args.bus (ending_of ended ds) (ending_of ended t.in_progress.words.items) c.is_answered-begins.result c.resets_at_gap-resets.result c.fails_sparing-spares.result (record t { in_progress = i }) _
    (c.is_answered-begins.ensures ds ∙ ap (λ off. is_answered off (ending_of ended ds)) c.on.ensures)
    (c.resets_at_gap-resets.ensures ds)
    (c.fails_sparing-spares.ensures ds)
    (same_setup g.L.Legality.is_legal (record t { in_progress = i }) _ refl refl c.settle.ensures.power_up c.settle-2.ensures.initial)
    c.set.ensures
    (c.settle.ensures.registers ds)
    (c.begin.ensures ∙ ap (λ cell. begun_if c.is_answered-begins.result c.args.bus cell (shown_reply t.reply)) (c.done_cell.ensures ds))
    (λ s n low high first last.
    c.settle-2.ensures.words s n low high first last
    ∙ ap (λ ws. held_after t.held t.settings.wrap s n c.resets_at_gap-resets.result (ending_of ended ws)) c.as_slice.ensures.value)
    words
