-- What an event ends, as the terminal holds it: the words are in its buffer.
use Rattle.std.specs.Prelude.{List, ℕ}
use Rattle.terminal_state.specs.declared.ended.Ended.{Ended}
use Rattle.terminal_state.specs.declared.ended.Ended.TheVariants.{Nothing as EndedNothing, Badly as EndedBadly, Illegal as EndedIllegal, Blocked as EndedBlocked, Done as EndedDone}
use Rattle.terminal_rules.specs.History.{Ending, Nothing, Badly, Illegal, Blocked, Done}

-- an end in the words of the rules, with the data words from the buffer
abbrev pub ending_of : Ended → List ℕ → Ending
ending_of EndedNothing ds = Nothing
ending_of (EndedBadly c) ds = Badly c
ending_of (EndedIllegal c) ds = Illegal c
ending_of (EndedBlocked c cell) ds = Blocked c cell
ending_of (EndedDone c cell) ds = Done c cell ds
