use Rattle.std.proofs.Common.{sym, ◌∙◌}
use Rattle.script_recordings.proofs.TallyLaws.{word_more}
use Rattle.script_recordings.proofs.tally.Tally.take.Goals as goal

pub returns-then-shows_word : goal.returns-then-shows_word
returns-then-shows_word c ms i =
    word_more ms c.args.marked.now c.args.self.now c.in-Some.seen c.saturating_add-self.result i (sym c.shows_word.ensures ∙ c.if-shows_word.true) c.in-Some.ensures c.saturating_add-self.ensures
