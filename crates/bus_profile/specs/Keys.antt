-- The keys of a profile text: how each is written, what it holds, and what an absent one means.
use Rattle.std.specs.Prelude.{ℕ, true, false, pos, List, [], ◌∷◌, ◌++◌, map, codes}
use Rattle.toml.specs.Data.{Data, string, integer, boolean, array, no_items}
use Rattle.bus_profile.specs.declared.fault.Key.{Key}
use Rattle.bus_profile.specs.declared.fault.Key.TheVariants.{Address, Broadcast, Wraparound, AcceptBusControl, Vector, Bit, Rule, Mode, Initial, To, Direction, Subaddresses, Counts, Legal, Codes, Subaddress, At, Words}

-- what a key holds
pub data ValueKind : Type 0 where
  -- true or false
  truth : ValueKind
  -- a whole number from low to high
  whole : (low high : ℕ) → ValueKind
  -- true or false, or a whole number from low to high
  truth_or_whole : (low high : ℕ) → ValueKind
  -- one of these texts
  choice : (texts : List (List ℕ)) → ValueKind
  -- numbers from low to high: a text of ranges, or one whole number
  ranges : (low high : ℕ) → ValueKind
  -- an array of whole numbers from low to high
  numbers : (low high : ℕ) → ValueKind
  -- an array of at most so many tables
  tables : (most : ℕ) → ValueKind

-- whether a key must be there, or what holds where it is not
pub data Presence : Type 0 where
  required : Presence
  optional : (default : Data) → Presence

-- one line of the table of keys
pub record KeyRow : Type 0 where
  pub key : Key
  pub kind : ValueKind
  pub presence : Presence

-- the line of the table for this key: what it holds, and whether it must be there
abbrev pub key_row : Key → ValueKind → Presence → KeyRow
key_row key kind presence = record { key = key; kind = kind; presence = presence }

-- the keys of these lines of the table
abbrev pub keys_of : List KeyRow → List Key
keys_of rows = map (λ r. r.key) rows

-- the key as it is written
abbrev pub key_name : Key → List ℕ
key_name Address = codes "address"
key_name Broadcast = codes "broadcast"
key_name Wraparound = codes "wraparound"
key_name AcceptBusControl = codes "accept_bus_control"
key_name Vector = codes "vector"
key_name Bit = codes "bit"
key_name Rule = codes "rule"
key_name Mode = codes "mode"
key_name Initial = codes "initial"
key_name To = codes "to"
key_name Direction = codes "direction"
key_name Subaddresses = codes "subaddresses"
key_name Counts = codes "counts"
key_name Legal = codes "legal"
key_name Codes = codes "codes"
key_name Subaddress = codes "subaddress"
key_name At = codes "at"
key_name Words = codes "words"

-- ---- the root

-- the terminal's address, which must be given
abbrev pub address_row : KeyRow
address_row = key_row Address (whole 0 30) required

-- whether the terminal hears commands to all terminals: false, unless it is given
abbrev pub broadcast_row : KeyRow
broadcast_row = key_row Broadcast truth (optional (boolean false))

-- the wraparound subaddress, or true for 30 and false for none: true, unless it is given
abbrev pub wraparound_row : KeyRow
wraparound_row = key_row Wraparound (truth_or_whole 1 30) (optional (boolean true))

-- whether the terminal accepts dynamic bus control: false, unless it is given
abbrev pub accept_row : KeyRow
accept_row = key_row AcceptBusControl truth (optional (boolean false))

-- the vector word at power-up: 0, unless it is given
abbrev pub vector_row : KeyRow
vector_row = key_row Vector (whole 0 65535) (optional (integer (pos 0)))

-- the BIT word at power-up: 0, unless it is given
abbrev pub bit_row : KeyRow
bit_row = key_row Bit (whole 0 65535) (optional (integer (pos 0)))

-- the array of rules: at most 256, none unless it is given
abbrev pub rules_key : KeyRow
rules_key = key_row Rule (tables 256) (optional (array no_items))

-- the array of mode entries: at most 256, none unless it is given
abbrev pub modes_key : KeyRow
modes_key = key_row Mode (tables 256) (optional (array no_items))

-- the array of initial entries: at most 256, none unless it is given
abbrev pub initials_key : KeyRow
initials_key = key_row Initial (tables 256) (optional (array no_items))

-- the keys of the root that hold one value
abbrev pub setting_rows : List KeyRow
setting_rows = address_row ∷ broadcast_row ∷ wraparound_row ∷ accept_row ∷ vector_row ∷ bit_row ∷ []

-- all the keys of the root
abbrev pub root_rows : List KeyRow
root_rows = setting_rows ++ rules_key ∷ modes_key ∷ initials_key ∷ []

-- ---- a rule

-- to which address the commands go: the terminal's own, that of all terminals, or either
abbrev pub to_row : KeyRow
to_row = key_row To (choice (codes "own" ∷ codes "broadcast" ∷ codes "both" ∷ [])) (optional (string (codes "own")))

-- whether the rule is of words that the terminal receives, transmits, or both
abbrev pub direction_row : KeyRow
direction_row = key_row Direction (choice (codes "receive" ∷ codes "transmit" ∷ codes "both" ∷ [])) required

-- the subaddresses of the rule
abbrev pub subaddresses_row : KeyRow
subaddresses_row = key_row Subaddresses (ranges 1 30) required

-- the word counts of the rule: all, unless they are given
abbrev pub counts_row : KeyRow
counts_row = key_row Counts (ranges 1 32) (optional (string (codes "1-32")))

-- whether the rule or mode entry makes its commands legal or illegal: legal, unless it is given
abbrev pub legal_row : KeyRow
legal_row = key_row Legal truth (optional (boolean true))

-- all the keys of a rule
abbrev pub rule_rows : List KeyRow
rule_rows = to_row ∷ direction_row ∷ subaddresses_row ∷ counts_row ∷ legal_row ∷ []

-- ---- a mode entry

-- the mode codes of the entry
abbrev pub codes_row : KeyRow
codes_row = key_row Codes (ranges 0 31) required

-- all the keys of a mode entry
abbrev pub mode_rows : List KeyRow
mode_rows = to_row ∷ codes_row ∷ legal_row ∷ []

-- ---- an initial entry

-- the subaddress that holds the words at power-up
abbrev pub subaddress_row : KeyRow
subaddress_row = key_row Subaddress (whole 1 30) required

-- the number of the first of the words in their subaddress: 1, unless it is given
abbrev pub at_row : KeyRow
at_row = key_row At (whole 1 32) (optional (integer (pos 1)))

-- the words, in their order
abbrev pub words_row : KeyRow
words_row = key_row Words (numbers 0 65535) required

-- all the keys of an initial entry
abbrev pub initial_rows : List KeyRow
initial_rows = subaddress_row ∷ at_row ∷ words_row ∷ []
