-- What a `Normal` is seen as: a set-up and the masks of the legal cells, with nothing unreached in them.
use Rattle.std.specs.Prelude.{◌≡◌, ℕ, ◌<◌, ◌≤◌, ◌^◌, Bool, true, false, List, [], length, get_or, replicate, bit_and}
use Rattle.bus_word.specs.declared.cell.Cell.TheVariants.{OwnMode}
use Rattle.bus_word.specs.Mask.{has_bit}
use Rattle.bus_word.specs.Mode.{is_required_code, dynamic_bus_control, vector_word, bit_word}
use Rattle.bus_legal.specs.declared.setup.Setup.{Setup}
use Rattle.bus_legal.specs.declared.tables.Tables.{Tables}
use Rattle.bus_legal.specs.declared.tables.TheConstants.{OWN_CODES}
use Rattle.bus_legal.specs.Description.{Description, words_at_places}
use Rattle.bus_legal.specs.Reach.{reach}
use Rattle.bus_legal.specs.Tables.{tables_say, largest_in, masks_wrap, is_own_mask, is_broadcast_mask}

-- the fields of a set-up, and tables: bits and words by subaddress as in `Setup` and `Tables`
pub record Parts : Type 0 where
  pub address : ℕ
  pub broadcast : Bool
  pub wrap : ℕ
  pub accept : Bool
  pub vector : ℕ
  pub bit : ℕ
  pub initial : List (List ℕ)
  pub tables : Tables

-- the parts of a terminal that is set up so, with these tables of its legal cells
abbrev pub parts_of : Setup → Tables → Parts
parts_of setup tables = record {
  address = setup.address;
  broadcast = setup.broadcast;
  wrap = setup.wrap;
  accept = setup.accept;
  vector = setup.vector;
  bit = setup.bit;
  initial = setup.initial;
  tables = tables;
}

-- the description that these parts make
abbrev pub description_in : Parts → Description
description_in v = record {
  address = v.address;
  broadcast = v.broadcast;
  wrap = v.wrap;
  accept = v.accept;
  vector = v.vector;
  bit = v.bit;
  initial = words_at_places v.initial;
  legal = tables_say v.tables;
}

-- a mask for each subaddress of data
pub record AreMasks (masks : List ℕ) : Type 0 where
  pub thirty : length masks ≡ 30
  pub fit : (s : ℕ) → get_or masks s 0 < 2 ^ 32

-- the 32 words of a subaddress
pub record IsBlock (block : List ℕ) : Type 0 where
  pub long : length block ≡ 32
  pub fit : (i : ℕ) → get_or block i 0 < 2 ^ 16

-- a block for each subaddress of data
pub record AreWords (words : List (List ℕ)) : Type 0 where
  pub thirty : length words ≡ 30
  pub blocks : (s : ℕ) → s < 30 → IsBlock (get_or words s [])

-- Parts within their ranges: the address and the wraparound subaddress are at most 30, words have 16 bits, the tables have
-- the size of theirs, and masks of mode codes have no code that can't be legal.
pub record AreInRange (v : Parts) : Type 0 where
  pub address : v.address ≤ 30
  pub wrap : v.wrap ≤ 30
  pub vector : v.vector < 2 ^ 16
  pub bit : v.bit < 2 ^ 16
  pub words : AreWords v.initial
  pub own_receive : AreMasks v.tables.own_receive
  pub own_transmit : AreMasks v.tables.own_transmit
  pub broadcast_receive : AreMasks v.tables.broadcast_receive
  pub own_mode : bit_and v.tables.own_mode OWN_CODES ≡ v.tables.own_mode
  pub broadcast_mode : is_broadcast_mask v.tables.broadcast_mode ≡ true

-- All that the parts describe can be reached, and the own mode codes that must be legal are.
pub record AreReached (v : Parts) : Type 0 where
  pub whole : reach (description_in v) ≡ description_in v
  pub required : (code : ℕ) → is_required_code code ≡ true → tables_say v.tables (OwnMode code) ≡ true

-- The same part by part, as code can test it: parts within their ranges in which nothing is that can't be reached, and the
-- required own mode codes are.
pub record IsNormal (v : Parts) : Type 0 where
  pub address : v.address ≤ 30
  pub wrap : v.wrap ≤ 30
  pub vector : v.vector < 2 ^ 16
  pub bit : v.bit < 2 ^ 16
  pub words : AreWords v.initial
  pub own_receive : AreMasks v.tables.own_receive
  pub own_transmit : AreMasks v.tables.own_transmit
  pub broadcast_receive : AreMasks v.tables.broadcast_receive
  pub own_mode : is_own_mask v.tables.own_mode ≡ true
  pub broadcast_mode : is_broadcast_mask v.tables.broadcast_mode ≡ true
  -- without the broadcast option no broadcast cell
  pub unheard_receive : v.broadcast ≡ false → v.tables.broadcast_receive ≡ replicate 30 0
  pub unheard_mode : v.broadcast ≡ false → v.tables.broadcast_mode ≡ 0
  -- acceptance, vector word and BIT word only where an own mode code asks for them
  pub unasked_accept : has_bit v.tables.own_mode dynamic_bus_control ≡ false → v.accept ≡ false
  pub unasked_vector : has_bit v.tables.own_mode vector_word ≡ false → v.vector ≡ 0
  pub unasked_bit : has_bit v.tables.own_mode bit_word ≡ false → v.bit ≡ 0
  -- a wraparound subaddress only where words can be received and transmitted
  pub unwrapped : masks_wrap v.tables v.wrap ≡ false → v.wrap ≡ 0
  -- words only up to the largest legal transmit count
  pub unsent : (s i : ℕ) → s < 30 → i < 32 → largest_in (get_or v.tables.own_transmit s 0) ≤ i → get_or (get_or v.initial s []) i 0 ≡ 0
