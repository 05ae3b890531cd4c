-- What a terminal is described by.
use Rattle.std.specs.Prelude.{ℕ, ◌-◌, Bool, ◌&&◌, if◌then◌else◌, List, [], get_or}
use Rattle.bus_word.specs.declared.cell.Cell.{Cell}
use Rattle.bus_word.specs.Cell.{is_data_place, is_allowed}
use Rattle.bus_legal.specs.declared.setup.Setup.{Setup}

-- What a terminal answers depends on these fields, on its history, and on nothing else.
pub record Description : Type 0 where
  -- the address, 0 to 30, and the broadcast option
  pub address : ℕ
  pub broadcast : Bool
  -- the wraparound subaddress, at which words that are received replace those held there, or 0 for none
  pub wrap : ℕ
  -- whether dynamic bus control is accepted
  pub accept : Bool
  -- the vector word and the BIT word at power-up
  pub vector : ℕ
  pub bit : ℕ
  -- the words held at power-up, by subaddress (1 to 30) and number (1 to 32)
  pub initial : ℕ → ℕ → ℕ
  pub legal : Cell → Bool

-- word number i of subaddress s, in a table by both, from 1
abbrev pub word_at : List (List ℕ) → ℕ → ℕ → ℕ
word_at words s i = get_or (get_or words (s - 1) []) (i - 1) 0

-- the words of such a table, which has places of data alone: at any other place 0
abbrev pub words_at_places : List (List ℕ) → ℕ → ℕ → ℕ
words_at_places words s i = if is_data_place s i then word_at words s i else 0

-- the description of a terminal that is set up so, with this legality: of the cells that no command
-- has, none is legal
abbrev pub described : Setup → (Cell → Bool) → Description
described setup is_legal = record {
  address = setup.address;
  broadcast = setup.broadcast;
  wrap = setup.wrap;
  accept = setup.accept;
  vector = setup.vector;
  bit = setup.bit;
  initial = words_at_places setup.initial;
  legal = λ cell. is_allowed cell && is_legal cell;
}
