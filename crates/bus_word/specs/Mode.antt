-- Mode codes (MIL-STD-1553B, 4.3.3.5.1.7).
use Rattle.std.specs.Prelude.{ℕ, Bool, true, false, ◌==◌, if◌then◌else◌, Option, Some, None, List, [], ◌∷◌, codes}
use Rattle.std.specs.List.{list_any}
use Rattle.bus_word.specs.declared.mode.ModeRow.{ModeRow}

-- The mode codes by their names. Code 0: the terminal is offered control of the bus.
abbrev pub dynamic_bus_control : ℕ
dynamic_bus_control = 0

-- code 1: the subsystem is to synchronize itself
abbrev pub synchronize : ℕ
synchronize = 1

-- code 2: the terminal sends the status word that it has kept
abbrev pub transmit_status : ℕ
transmit_status = 2

-- code 3: the subsystem is to begin its self test
abbrev pub self_test : ℕ
self_test = 3

-- code 4: the transmitter of the other bus is shut down
abbrev pub shutdown : ℕ
shutdown = 4

-- code 5: the transmitter of the other bus is enabled again
abbrev pub override_shutdown : ℕ
override_shutdown = 5

-- code 6: the terminal flag bit of status words is 0, whatever the flag
abbrev pub inhibit_flag : ℕ
inhibit_flag = 6

-- code 7: the terminal flag bit shows the flag again
abbrev pub override_inhibit : ℕ
override_inhibit = 7

-- code 8: what the terminal keeps is again that of power-up, except for the flags and the runs
abbrev pub reset : ℕ
reset = 8

-- code 16: the terminal sends its vector word
abbrev pub vector_word : ℕ
vector_word = 16

-- code 17: the subsystem is to synchronize itself, by a data word that is received
abbrev pub synchronize_with_word : ℕ
synchronize_with_word = 17

-- code 18: the terminal sends the last command that it recorded
abbrev pub last_command : ℕ
last_command = 18

-- code 19: the terminal sends its BIT word, the report of its built-in test
abbrev pub bit_word : ℕ
bit_word = 19

-- what is said of a code: the T/R of its command, whether a data word goes with it, whether it may be broadcast
abbrev pub row : Bool → Bool → Bool → ModeRow
row transmit word broadcast = record { transmit = transmit; word = word; broadcast = broadcast }

-- a line of the table of mode codes
pub record ModeEntry : Type 0 where
  pub code : ℕ
  pub row : ModeRow

-- the line of this code
abbrev pub entry : ℕ → ModeRow → ModeEntry
entry code row = record { code = code; row = row }

-- The mode codes that may be legal. Every other code is always illegal.
abbrev pub mode_table : List ModeEntry
mode_table =
    --            T/R   data  broadcast
    entry dynamic_bus_control (row true false false)
    ∷ entry synchronize (row true false true)
    ∷ entry transmit_status (row true false false)
    ∷ entry self_test (row true false true)
    ∷ entry shutdown (row true false true)
    ∷ entry override_shutdown (row true false true)
    ∷ entry inhibit_flag (row true false true)
    ∷ entry override_inhibit (row true false true)
    ∷ entry reset (row true false true)
    ∷ entry vector_word (row true true false)
    ∷ entry synchronize_with_word (row false true true)
    ∷ entry last_command (row true true false)
    ∷ entry bit_word (row true true false)
    ∷ []

-- what the first line with this code says, or none
abbrev pub row_in : List ModeEntry → ℕ → Option ModeRow
row_in [] code = None
row_in (e ∷ entries) code = if code == e.code then Some e.row else row_in entries code

-- what the table says of a mode code
abbrev pub mode_row : ℕ → Option ModeRow
mode_row code = row_in mode_table code

-- The own mode codes that every profile must leave legal, those that Notice 2 has each terminal implement (30.4.2.1):
-- transmit status word, transmitter shutdown and its override, and reset remote terminal.
abbrev pub required_codes : List ℕ
required_codes = transmit_status ∷ shutdown ∷ override_shutdown ∷ reset ∷ []

-- every profile must leave this own mode code legal
abbrev pub is_required_code : ℕ → Bool
is_required_code code = list_any (λ c. c == code) required_codes

-- What a mode code is called. Those of selected transmitter shutdown, 20 and 21, are called so without the word transmitter.
abbrev pub mode_name : ℕ → List ℕ
mode_name code =
    if code == 0 then codes "dynamic bus control"
    else if code == 1 then codes "synchronize"
    else if code == 2 then codes "transmit status word"
    else if code == 3 then codes "initiate self test"
    else if code == 4 then codes "transmitter shutdown"
    else if code == 5 then codes "override transmitter shutdown"
    else if code == 6 then codes "inhibit terminal flag bit"
    else if code == 7 then codes "override inhibit terminal flag bit"
    else if code == 8 then codes "reset remote terminal"
    else if code == 16 then codes "transmit vector word"
    else if code == 17 then codes "synchronize with data word"
    else if code == 18 then codes "transmit last command"
    else if code == 19 then codes "transmit BIT word"
    else if code == 20 then codes "selected shutdown"
    else if code == 21 then codes "override selected shutdown"
    else codes "reserved"
