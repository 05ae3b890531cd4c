use Rattle.std.proofs.Common.{ap, ◌∙◌}
use Rattle.terminal_messages.specs.State.{facts_in, state_after}
use Rattle.terminal_messages.specs.View.{with_datum, left_after}
use Rattle.terminal_messages.specs.Shown.{shown_message}
use Rattle.terminal_messages.proofs.kept.KeptMessage.add.Goals as goal

pub returns : goal.returns
returns c ds = λ j. record (shown_message c.args.self.now) {
  state = (c.after-self.ensures ds ∙ ap (λ n. state_after c.args.own (facts_in c.args.seen.now ds) c.args.part n c.args.self.now.state) c.len-count.ensures.value) j;
  words = (c.push_word-self.ensures.words ∙ ap (with_datum c.args.self.now.words.items) (c.datum_told.ensures ds)) j;
  left_out = (c.push_word-self.ensures.left_out ∙ ap (left_after c.args.self.now.words.items c.args.self.now.left_out) (c.datum_told.ensures ds)) j;
  handed = c.keep_handed.ensures j;
}
