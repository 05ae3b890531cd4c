-- Exchanges as values of the code, which keep of their data words the first and how many words of 0 come after it.
use Rattle.std.specs.Prelude.{ℕ, ◌≤◌, Option, Some, None, List, [], ◌∷◌, replicate}
use Rattle.terminal_exchanges.specs.Exchanges.{Exchange}
use Rattle.terminal_exchanges.specs.declared.exchange.Exchange.{Exchange as Value}

-- data words as the code keeps them: none, or a first one and words of 0 after it
abbrev pub words_in : Option ℕ → ℕ → List ℕ
words_in None n = []
words_in (Some first) n = first ∷ replicate n 0

-- the exchange that the code keeps so
abbrev pub exchange_in : Value → Exchange
exchange_in x = record { command = x.command; words = words_in x.first x.zeros; slots = x.slots }

-- at most 32 data words and 33 slots: no exchange needs more
abbrev pub IsShort : Value → Type 0
IsShort x = (x.zeros ≤ 31) × (x.slots ≤ 33)

-- each exchange of a list is short
abbrev pub AreShort : List Value → Type 0
AreShort [] = Unit {0}
AreShort (x ∷ xs) = IsShort x × AreShort xs
