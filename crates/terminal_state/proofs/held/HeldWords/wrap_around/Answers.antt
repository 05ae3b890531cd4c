use Rattle.std.proofs.Common.{◌∙◌}
use Rattle.terminal_state.specs.Held.{word_in}
use Rattle.terminal_state.proofs.HeldLaw.{wrapped_law}
use Rattle.terminal_state.proofs.held.HeldWords.wrap_around.Goals as goal

pub returns-then-subaddress-wrap-clause-words : goal.returns-then-subaddress-wrap-clause-words
returns-then-subaddress-wrap-clause-words c s i low high first last =
    c.replace.ensures.words s i low high first last
    ∙ wrapped_law c.args.wrap s i c.args.subaddress c.args.words.now (word_in c.args.self.now s i) c.if-subaddress-wrap.true first
