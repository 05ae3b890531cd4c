use Rattle.std.proofs.Common.{◌∙◌}
use Rattle.terminal_state.specs.Ended.{ending_of}
use Rattle.terminal_messages.specs.Ends.{end_after}
use Rattle.terminal_messages.proofs.state.MessageState.end_after.Goals as goal

pub returns : goal.returns
returns c ds = c.end_after.ensures ds ∙ (λ j. end_after (c.end_before.ensures ds j) (c.cause_at-cause.ensures j) (ending_of c.args.seen.now.ended ds))
