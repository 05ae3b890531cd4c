-- The full table: a row for each setting, a row for each subaddress, direction and addressee, all the words held, and two rows of mode
-- codes.
use Rattle.std.specs.Prelude.{ℕ, ◌==◌, Bool, not, if◌then◌else◌, List, [], ◌∷◌, ◌++◌, drop, codes}
use Rattle.std.specs.List.{flat_map, zip}
use Rattle.script_lines.specs.Digits.{digits_of}
use Rattle.bus_legal.specs.declared.tables.Tables.{Tables}
use Rattle.bus_legal.specs.Parts.{Parts}
use Rattle.rt1553_toml.specs.Sets.{two_digits, set_text}
use Rattle.rt1553_toml.specs.inner.FullTree.{from_number}
use Rattle.rt1553_export.specs.inner.Rows.{header_cells, setting_cells, message_cells, mode_cells, rows_text}

-- ---- cells

-- a truth value as a cell
abbrev pub yes_no : Bool → List ℕ
yes_no b = if b then codes "yes" else codes "no"

-- which of a set is legal: what it says, or else that it isn't
abbrev pub legal_cell : ℕ → List ℕ
legal_cell mask = yes_no (not (mask == 0))

-- a word as a cell: 0x and four hexadecimal digits
abbrev pub word_cell : ℕ → List ℕ
word_cell word = 48 ∷ 120 ∷ digits_of word

-- the cell of the wraparound subaddress: `no`, or its two digits
abbrev pub wrap_cell : ℕ → List ℕ
wrap_cell wrap = if wrap == 0 then codes "no" else two_digits wrap

-- words, each behind a space
abbrev pub spaced_words : List ℕ → List ℕ
spaced_words words = flat_map (λ word. 32 ∷ digits_of word) words

-- words with spaces between them
abbrev pub words_cell : List ℕ → List ℕ
words_cell words = drop 1 (spaced_words words)

-- ---- rows

-- which receive commands to this addressee are legal at a subaddress
abbrev pub receive_row : List ℕ → ℕ → ℕ → List (List ℕ)
receive_row to subaddress mask = message_cells (codes "receive") (two_digits subaddress) (set_text 1 mask) to [] (legal_cell mask)

-- the transmit commands of a subaddress, and the words that it holds
abbrev pub transmit_row : ℕ → ℕ × List ℕ → List (List ℕ)
transmit_row subaddress held = message_cells (codes "transmit") (two_digits subaddress) (set_text 1 held.0) (codes "own") (words_cell held.1) (legal_cell held.0)

-- which mode codes to this addressee are legal
abbrev pub mode_codes_row : List ℕ → ℕ → List (List ℕ)
mode_codes_row to mask = mode_cells (set_text 0 mask) to (legal_cell mask) []

-- a row for each value of the profile's root
abbrev pub all_settings : Parts → List (List (List ℕ))
all_settings v =
    setting_cells (codes "address") (two_digits v.address)
    ∷ setting_cells (codes "broadcast") (yes_no v.broadcast)
    ∷ setting_cells (codes "wraparound") (wrap_cell v.wrap)
    ∷ setting_cells (codes "accept_bus_control") (yes_no v.accept)
    ∷ setting_cells (codes "vector") (word_cell v.vector)
    ∷ setting_cells (codes "bit") (word_cell v.bit)
    ∷ []

-- the rows of data: own receive commands first, then own transmit commands, then those by broadcast
abbrev pub all_messages : Parts → List (List (List ℕ))
all_messages v =
    from_number (receive_row (codes "own")) 1 v.tables.own_receive
    ++ (from_number transmit_row 1 (zip v.tables.own_transmit v.initial)
    ++ from_number (receive_row (codes "broadcast")) 1 v.tables.broadcast_receive)

-- two rows of mode codes, those to the own address and those by broadcast
abbrev pub all_codes : Tables → List (List (List ℕ))
all_codes t = mode_codes_row (codes "own") t.own_mode ∷ mode_codes_row (codes "broadcast") t.broadcast_mode ∷ []

-- all rows below the header
abbrev pub full_rows : Parts → List (List (List ℕ))
full_rows v = all_settings v ++ (all_messages v ++ all_codes v.tables)

-- ---- the text

-- the whole table as text, with its header
abbrev pub full_text : Parts → List ℕ
full_text v = rows_text (header_cells ∷ full_rows v)
