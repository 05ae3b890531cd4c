use Rattle.std.proofs.Common.{ap, sym, ◌∙◌, ◌&&◌, nat_lt, if◌then◌else◌}
use Rattle.terminal_messages.specs.declared.ending.MessageEnding.TheVariants.{Open}
use Rattle.terminal_messages.specs.Ends.{with_gap_within}
use Rattle.terminal_messages.specs.State.{facts_in, has_datum}
use Rattle.terminal_messages.proofs.state.MessageState.end_before.Goals as goal

pub returns-else-seen : goal.returns-else-seen
returns-else-seen c ds =
    c.with_gap_within.ensures
    ∙ (ap (λ x. with_gap_within x c.args.self.now.«end») (c.is_short.ensures ds)
    ∙ ap (λ x. if x then Open else with_gap_within (has_datum (facts_in c.args.seen.now ds) && nat_lt c.args.count c.args.self.now.expected) c.args.self.now.«end») (sym c.if-seen.false))
