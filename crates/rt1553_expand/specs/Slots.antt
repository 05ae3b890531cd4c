-- The slots behind a message are just enough for the reply to it.
use Rattle.std.specs.Prelude.{ℕ, ◌≡◌, ◌≤◌, Bool, true, false, List, Some}
use Rattle.bus_word.specs.declared.cell.Cell.{Cell}
use Rattle.bus_word.specs.Cell.{cell_of}
use Rattle.bus_legal.specs.Description.{Description}
use Rattle.terminal_rules.specs.Ends.{well}
use Rattle.terminal_exchanges.specs.ExchangeLaws.{slots_needed}
use Rattle.rt1553_expand.specs.Events.{reply_words}

-- Whatever terminal takes the message, busy or not, and whatever the data words: its reply has at most as many words as slots are
-- written behind the message.
abbrev pub SlotsAreEnough : Type 0
SlotsAreEnough = (P : Description) (busy : Bool) (c : ℕ) (ds : List ℕ) → slots_needed (well P busy c ds) ≤ reply_words c

-- Where the command is legal and the terminal isn't busy, the reply has a word for each of these slots: none is written in vain.
abbrev pub NoSlotIsSpare : Type 0
NoSlotIsSpare = (P : Description) (c : ℕ) (ds : List ℕ) (cell : Cell) → cell_of c ≡ Some cell → P.legal cell ≡ true → slots_needed (well P false c ds) ≡ reply_words c
