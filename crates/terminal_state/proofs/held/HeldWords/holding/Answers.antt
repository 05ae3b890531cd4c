use Rattle.std.proofs.Common.{◌-◌, Bool, true, false, if◌then◌else◌, get_or, [], ap, arith}
use Rattle.std.proofs.lemmas.List.{get_or-replicate}
use Rattle.terminal_state.proofs.held.HeldWords.holding.Goals as goal

pub returns-clause-words : goal.returns-clause-words
returns-clause-words c s low high =
    ap (λ own. if own then get_or c.args.blocks (s - 1) [] else get_or c.args.initial (s - 1) []) (get_or-replicate {A = Bool} 30 (s - 1) true false (omega arith))
