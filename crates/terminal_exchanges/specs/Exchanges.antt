-- Exchanges: a command word with just the data words that it expects, and a gap, on bus A; and slots, in which it is answered.
use Rattle.std.specs.Prelude.{ℕ, zero, suc, List, [], ◌∷◌}
use Rattle.bus_word.specs.declared.word.Kind.TheVariants.{Com, Dat}
use Rattle.bus_word.specs.declared.word.Bus.TheVariants.{A}
use Rattle.bus_word.specs.Word.{valid_word}
use Rattle.terminal_rules.specs.declared.event.Event.{Event}
use Rattle.terminal_rules.specs.declared.event.Event.TheVariants.{Word, Gap, Slot}

-- a command, the data words after it, and the number of slots after its gap
pub record Exchange : Type 0 where
  pub command : ℕ
  pub words : List ℕ
  pub slots : ℕ

-- a valid command word on bus A
abbrev pub command_event : ℕ → Event
command_event c = Word A (valid_word Com c)

-- a valid data word on bus A
abbrev pub data_event : ℕ → Event
data_event d = Word A (valid_word Dat d)

-- the events of data words, in order, before others
abbrev pub words_then : List ℕ → List Event → List Event
words_then [] es = es
words_then (d ∷ ds) es = data_event d ∷ words_then ds es

-- slots, before other events
abbrev pub slots_then : ℕ → List Event → List Event
slots_then zero es = es
slots_then (suc n) es = Slot ∷ slots_then n es

-- the events of an exchange, before others
abbrev pub exchange_then : Exchange → List Event → List Event
exchange_then x es = command_event x.command ∷ words_then x.words (Gap A ∷ slots_then x.slots es)

-- the events of exchanges, the first first
abbrev pub script_of : List Exchange → List Event
script_of [] = []
script_of (x ∷ xs) = exchange_then x (script_of xs)
