-- The canonical text, versions 1 and 2, line by line.
use Rattle.std.specs.Prelude.{ℕ, zero, suc, ◌-◌, Bool, true, false, ◌==◌, ◌&&◌, ◌||◌, nat_le, if◌then◌else◌, List, [], ◌∷◌, ◌++◌, codes, replicate}
use Rattle.bus_word.specs.Command.{wraparound_subaddress}
use Rattle.bus_word.specs.Mode as mode
use Rattle.bus_word.specs.declared.cell.Cell.TheVariants.{OwnMode}
use Rattle.bus_legal.specs.declared.tables.Tables.{Tables}
use Rattle.bus_legal.specs.Tables.{tables_say, has_any, largest_in, masks_wrap, any_wraps, is_own_mask, is_broadcast_mask}
use Rattle.bus_legal.specs.Parts.{Parts}
use Rattle.line_format.specs.Format.{Field, Format, done, and_then, Spells}
use Rattle.line_format.specs.Shapes.{number_field, decimal, word, mask, number_line, bit_line, numbered_line, words_line}

infixl 10 ◌>>=◌
-- the lines of one format, then those of the format that depends on what they mean
abbrev pub ◌>>=◌ : {A B : Type 0} → Format A → (A → Format B) → Format B
f >>= g = and_then f g

-- these lines stand in the text if the test holds, and mean `absent` where they don't
abbrev pub when : {A : Type 0} → Bool → A → Format A → Format A
when true absent lines = lines
when false absent lines = done absent

-- a line for each of so many subaddresses from s on, with the mask of its legal word counts
unfoldable pub masks : List ℕ → ℕ → ℕ → Format (List ℕ)
masks name s zero = done []
masks name s (suc k) = do
  counts ← numbered_line name s
  others ← masks name (suc s) k
  done (counts ∷ others)

-- The legal cells. Those of broadcast commands have lines where the terminal has the broadcast option.
unfoldable pub cells : Bool → Format Tables
cells broadcast = do
  own_receive ← masks (codes "own-receive") 1 30
  own_transmit ← masks (codes "own-transmit") 1 30
  broadcast_receive ← when broadcast (replicate 30 0) (masks (codes "broadcast-receive") 1 30)
  own_mode ← number_line (codes "own-mode") mask is_own_mask
  broadcast_mode ← when broadcast 0 (number_line (codes "broadcast-mode") mask is_broadcast_mask)
  done (record { own_receive = own_receive; own_transmit = own_transmit; broadcast_receive = broadcast_receive; own_mode = own_mode; broadcast_mode = broadcast_mode })

-- the words of subaddress s, as many as stand in its line, and then zeros
unfoldable pub sent_words : ℕ → ℕ → Format (List ℕ)
sent_words s count = do
  words ← words_line (codes "initial") s count
  done (words ++ replicate (32 - count) 0)

-- The 32 words of subaddress s, whose legal transmit counts are these: there is a line where some count is
-- legal, with as many words as the largest of them.
unfoldable pub block : ℕ → ℕ → Format (List ℕ)
block s counts = when (has_any counts) (replicate 32 0) (sent_words s (largest_in counts))

-- the words of the subaddresses from s on, whose legal transmit counts are these
unfoldable pub blocks : ℕ → List ℕ → Format (List (List ℕ))
blocks s [] = done []
blocks s (counts ∷ masks) = do
  words ← block s counts
  others ← blocks (suc s) masks
  done (words ∷ others)

-- whether that is the wraparound subaddress
abbrev pub wrap_bit : Format ℕ
wrap_bit = do
  on ← bit_line (codes "wraparound")
  done (if on then wraparound_subaddress else 0)

-- In version 1 no other can be. The line stands where words can be received at it and transmitted from it.
unfoldable pub wrap_switch : Tables → Format ℕ
wrap_switch tables = when (masks_wrap tables wraparound_subaddress) 0 wrap_bit

-- none, or a subaddress at which words can be received and from which they can be transmitted
abbrev pub may_wrap : Tables → ℕ → Bool
may_wrap tables s = (s == 0) || (nat_le s 30 && masks_wrap tables s)

-- In version 2 a line names the wraparound subaddress, 00 for none, where words can be received at some subaddress and
-- transmitted from it.
unfoldable pub wrap_name : Tables → Format ℕ
wrap_name tables = when (any_wraps tables) 0 (number_line (codes "wraparound") decimal (may_wrap tables))

-- what the text of this version says of the wraparound subaddress
unfoldable pub wrap_lines : ℕ → Tables → Format ℕ
wrap_lines version tables = if version == 1 then wrap_switch tables else wrap_name tables

-- one decimal digit
abbrev pub version_field : Field
version_field = number_field 10 1

-- the version that is written
abbrev pub is_written : ℕ → Bool
is_written version = version == 2

-- a version that can be read
abbrev pub is_read : ℕ → Bool
is_read version = (version == 1) || (version == 2)

-- the one alone, or all
abbrev pub versions_of : Bool → ℕ → Bool
versions_of written version = if written then is_written version else is_read version

-- The lines of a canonical text of one of these versions, which means a `Normal`. There is a line for acceptance, the
-- vector word and the BIT word where the own mode code that asks for it is legal. What differs between the
-- versions is the line of wraparound alone.
unfoldable pub canon : (ℕ → Bool) → Format Parts
canon versions = do
  version ← number_line (codes "rt1553") version_field versions
  address ← number_line (codes "address") decimal (λ n. nat_le n 30)
  broadcast ← bit_line (codes "broadcast")
  tables ← cells broadcast
  accept ← when (tables_say tables (OwnMode mode.dynamic_bus_control)) false (bit_line (codes "accept"))
  vector ← when (tables_say tables (OwnMode mode.vector_word)) 0 (number_line (codes "vector") word (λ _. true))
  bit ← when (tables_say tables (OwnMode mode.bit_word)) 0 (number_line (codes "bit") word (λ _. true))
  wrap ← wrap_lines version tables
  initial ← blocks 1 tables.own_transmit
  done (record { address = address; broadcast = broadcast; wrap = wrap; accept = accept; vector = vector; bit = bit; initial = initial; tables = tables })

-- the bytes are the canonical text of this value
abbrev pub Text : Parts → List ℕ → Type 0
Text v bytes = Spells (canon is_written) v bytes

-- the bytes are a canonical text of this value, of either version
abbrev pub AnyText : Parts → List ℕ → Type 0
AnyText v bytes = Spells (canon is_read) v bytes
