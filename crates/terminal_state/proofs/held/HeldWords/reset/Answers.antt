use Rattle.terminal_state.proofs.HeldLaw.{block_in-unchanged}
use Rattle.terminal_state.proofs.held.HeldWords.reset.Goals as goal

pub returns-clause-words : goal.returns-clause-words
returns-clause-words c = block_in-unchanged c.args.self.now.blocks c.args.self.now.initial
