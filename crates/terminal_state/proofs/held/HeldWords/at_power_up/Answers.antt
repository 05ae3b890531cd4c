use Rattle.std.proofs.Common.{replicate}
use Rattle.terminal_state.proofs.HeldLaw.{block_in-unchanged}
use Rattle.terminal_state.proofs.held.HeldWords.at_power_up.Goals as goal

pub returns-clause-words : goal.returns-clause-words
returns-clause-words c = block_in-unchanged (replicate 30 (replicate 32 0)) c.args.initial
