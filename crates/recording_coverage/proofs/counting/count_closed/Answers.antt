use Rattle.std.proofs.Common.{◌++◌}
use Rattle.terminal_messages.specs.View.{view_listed}
use Rattle.terminal_messages.specs.Shown.{shown_slot}
use Rattle.recording_coverage.specs.inner.Counted.{ends_told}
use Rattle.recording_coverage.proofs.SoFar.{covers_three}
use Rattle.recording_coverage.proofs.counting.count_closed.Goals as goal

pub returns : goal.returns
returns c = λ ends covers.
    let first = view_listed (shown_slot c.args.closed.now.first) in
    let second = view_listed (shown_slot c.args.closed.now.second) in
    covers_three c.args.own ends first second (view_listed (shown_slot c.args.closed.now.unheard)) c.count_message-3.new.coverage
    (c.count_message-3.ensures ((ends ++ ends_told c.args.own first) ++ ends_told c.args.own second) (c.count_message-2.ensures (ends ++ ends_told c.args.own first) (c.count_message.ensures ends covers)))
