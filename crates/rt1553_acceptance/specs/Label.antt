-- What an exchange tries, in words: "transmit 3, 5 words: illegal".
use Rattle.std.specs.Prelude.{ℕ, ◌+◌, ◌/◌, ◌%◌, ◌==◌, nat_lt, Bool, false, if◌then◌else◌, Option, Some, None, List, [], ◌∷◌, ◌++◌, codes}
use Rattle.bus_word.specs.declared.cell.Cell.{Cell}
use Rattle.bus_word.specs.Cell.{cell_of}
use Rattle.bus_word.specs.Command.{transmits, subaddress_of, code_of, count_of, is_mode, is_broadcast}
use Rattle.bus_word.specs.Mode.{mode_name}
use Rattle.bus_legal.specs.Description.{Description}

-- a number below 100, in decimal digits
abbrev pub small_decimal : ℕ → List ℕ
small_decimal n = if nat_lt n 10 then (48 + n) ∷ [] else (48 + n / 10) ∷ (48 + n % 10) ∷ []

-- how many data words
abbrev pub words_counted : ℕ → List ℕ
words_counted n = small_decimal n ++ (if n == 1 then codes " word" else codes " words")

-- a command to a subaddress of data: its direction, subaddress and word count
abbrev pub data_asked : ℕ → List ℕ
data_asked c = (if transmits c then codes "transmit " else codes "receive ") ++ (small_decimal (subaddress_of c) ++ (codes ", " ++ words_counted (count_of c)))

-- what a command asks for; a mode code by its name
abbrev pub asked : ℕ → List ℕ
asked c = if is_mode c then mode_name (code_of c) else data_asked c

-- the terminal of P takes commands of this cell as legal; a command without a cell is always illegal
abbrev pub is_legal_by : Description → Option Cell → Bool
is_legal_by P None = false
is_legal_by P (Some cell) = P.legal cell

-- what an exchange with this command tries, and whether the command is legal to the terminal of P
abbrev pub label_of : Description → ℕ → List ℕ
label_of P c = (if is_broadcast c then codes "broadcast " else []) ++ (asked c ++ (if is_legal_by P (cell_of c) then codes ": legal" else codes ": illegal"))
