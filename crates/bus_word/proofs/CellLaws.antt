-- The allowed cells are just those that some command has.
use Rattle.std.proofs.Common.{◌≡◌, ℕ, ◌%◌, ◌^◌, ◌<◌, ◌≤◌, Bool, true, false, ◌&&◌, ◌||◌, ◌==◌, nat_le, if◌then◌else◌, Option, Some, None, is_some, List, [], ◌∷◌, refl, sym, ◌∙◌, ap, subst, arith}
use Rattle.std.proofs.lemmas.Bool.{and_parts}
use Rattle.std.proofs.lemmas.Bool.Decides.{nat_tests}
use Rattle.bus_word.specs.Word.{bit_of}
use Rattle.bus_word.specs.declared.mode.ModeRow.{ModeRow}
use Rattle.bus_word.specs.declared.cell.Cell.{Cell}
use Rattle.bus_word.specs.declared.cell.Cell.TheVariants.{OwnReceive, OwnTransmit, BroadReceive, OwnMode, BroadMode}
use Rattle.bus_word.specs.Command.{Fields, command_bits, fields_of, address_of, transmits, subaddress_of, code_of, count_in, count_of, is_mode, is_broadcast}
use Rattle.std.specs.List.{list_all}
use Rattle.bus_word.specs.Mode.{ModeEntry, row_in, mode_table, mode_row}
use Rattle.bus_word.specs.Cell.{data_cell, mode_cell_by, cell_of, is_data_place, is_allowed, allows_broadcast, same_bool}
use Rattle.bus_word.specs.Laws.{HasCommand, AllowedHaveCommands, CommandsHaveAllowed}
use Rattle.bus_word.proofs.WordLaws.{fields_are_unique, bit_of-below}

-- the cell, if there is one, is allowed
abbrev pub AllowsOf : Option Cell → Type 0
AllowsOf None = Unit {0}
AllowsOf (Some cell) = is_allowed cell ≡ true

chosen : (b : Bool) (x y : Option Cell) → (b ≡ true → AllowsOf x) → (b ≡ false → AllowsOf y) → AllowsOf (if b then x else y)
chosen true x y hx hy = hx refl
chosen false x y hx hy = hy refl

place_of : (s low : ℕ) → ((s == 0) || (s == 31)) ≡ false → s < 32 → low < 32 → is_data_place s (count_in low) ≡ true
place_of s low no_mode hs hl = grind (arith, nat_tests)

data_allowed : (command : ℕ) → is_mode command ≡ false → AllowsOf (data_cell command)
data_allowed command no_mode =
    let place : is_data_place (subaddress_of command) (count_of command) ≡ true = place_of (subaddress_of command) (code_of command) no_mode (omega arith) (omega arith) in
    chosen (transmits command) _ _ (λ _. chosen (is_broadcast command) _ _ (λ _. tt) (λ _. place)) (λ _. chosen (is_broadcast command) _ _ (λ _. place) (λ _. place))

mode_allowed : (command : ℕ) (o : Option ModeRow) → mode_row (code_of command) ≡ o → AllowsOf (mode_cell_by command o)
mode_allowed command None e = tt
mode_allowed command (Some row) e =
    chosen (same_bool (transmits command) row.transmit) _ _
    (λ _. chosen (is_broadcast command) _ _
    (λ _. chosen row.broadcast _ _ (λ by_broadcast. ap allows_broadcast e ∙ by_broadcast) (λ _. tt))
    (λ _. ap is_some e))
    (λ _. tt)

cell_allowed : (command : ℕ) → AllowsOf (cell_of command)
cell_allowed command = chosen (is_mode command) _ _ (λ _. mode_allowed command (mode_row (code_of command)) refl) (λ no_mode. data_allowed command no_mode)

pub commands_have_allowed : CommandsHaveAllowed
commands_have_allowed cell h = subst AllowsOf h.is (cell_allowed h.command)

-- a command with these fields has them
fields_at : (address tr s low : ℕ) → address ≤ 31 → tr ≤ 1 → s ≤ 31 → low ≤ 31 → (c : ℕ) × (c < 2 ^ 16) × (address_of c ≡ address) × ((fields_of c).tr ≡ tr) × (subaddress_of c ≡ s) × (code_of c ≡ low)
fields_at address tr s low ha ht hs hl =
    let f : Fields = record { address = address; tr = tr; subaddress = s; low = low } in
    let law : (command_bits f < 2 ^ 16) × (fields_of (command_bits f) ≡ f) = fields_are_unique f (record { address = ha; tr = ht; subaddress = hs; low = hl }) in
    (command_bits f, law.0, ap (λ (g : Fields). g.address) law.1, ap (λ (g : Fields). g.tr) law.1, ap (λ (g : Fields). g.subaddress) law.1, ap (λ (g : Fields). g.low) law.1)

-- the cell of a command of data, by its fields
abbrev pub data_by : Bool → Bool → ℕ → ℕ → Option Cell
data_by transmit by_broadcast s n =
    if transmit
    then (if by_broadcast then None else Some (OwnTransmit s n))
    else (if by_broadcast then Some (BroadReceive s n) else Some (OwnReceive s n))

-- the cell of a mode command, by its fields and its row
abbrev pub mode_by : Option ModeRow → Bool → Bool → ℕ → Option Cell
mode_by None transmit by_broadcast code = None
mode_by (Some row) transmit by_broadcast code =
    if same_bool transmit row.transmit then (if by_broadcast then (if row.broadcast then Some (BroadMode code) else None) else Some (OwnMode code)) else None

mode_by_is : (command : ℕ) (o : Option ModeRow) → mode_cell_by command o ≡ mode_by o (transmits command) (is_broadcast command) (code_of command)
mode_by_is command None = refl
mode_by_is command (Some row) = refl

-- the count that its own low field gives
count_again : (n : ℕ) → nat_le 1 n && nat_le n 32 ≡ true → count_in (n % 32) ≡ n
count_again n h = grind (arith, nat_tests)

-- a command of data, with these fields
data_command : (address tr s n : ℕ) → address ≤ 31 → tr ≤ 1 → is_data_place s n ≡ true → (c : ℕ) × (c < 2 ^ 16) × (cell_of c ≡ data_by (tr == 1) (address == 31) s n)
data_command address tr s n ha ht place =
    let small : s ≤ 31 = grind (arith, nat_tests) in
    let no_mode : ((s == 0) || (s == 31)) ≡ false = grind (arith, nat_tests) in
    let count : nat_le 1 n && nat_le n 32 ≡ true = grind (arith, nat_tests) in
    let f = fields_at address tr s (n % 32) ha ht small (omega arith) in
    let no_code : is_mode f.0 ≡ false = ap (λ k. (k == 0) || (k == 31)) f.4 ∙ no_mode in
    let n_is : count_of f.0 ≡ n = ap count_in f.5 ∙ count_again n count in
    let transmit : transmits f.0 ≡ (tr == 1) = ap (λ k. k == 1) f.3 in
    let by_broadcast : is_broadcast f.0 ≡ (address == 31) = ap (λ k. k == 31) f.2 in
    (f.0, f.1, λ i. if no_code i then mode_cell_by f.0 (mode_row (code_of f.0)) else data_by (transmit i) (by_broadcast i) (f.4 i) (n_is i))

-- a mode command, with these fields
mode_command : (address tr code : ℕ) → address ≤ 31 → tr ≤ 1 → code ≤ 31 → (c : ℕ) × (c < 2 ^ 16) × (cell_of c ≡ mode_by (mode_row code) (tr == 1) (address == 31) code)
mode_command address tr code ha ht hc =
    let f = fields_at address tr 0 code ha ht (omega arith) hc in
    let mode : is_mode f.0 ≡ true = ap (λ k. (k == 0) || (k == 31)) f.4 in
    let transmit : transmits f.0 ≡ (tr == 1) = ap (λ k. k == 1) f.3 in
    let by_broadcast : is_broadcast f.0 ≡ (address == 31) = ap (λ k. k == 31) f.2 in
    let at_mode : cell_of f.0 ≡ mode_cell_by f.0 (mode_row (code_of f.0)) = λ i. if mode i then mode_cell_by f.0 (mode_row (code_of f.0)) else data_cell f.0 in
    (f.0, f.1, at_mode ∙ mode_by_is f.0 (mode_row (code_of f.0)) ∙ (λ i. mode_by (mode_row (f.5 i)) (transmit i) (by_broadcast i) (f.5 i)))

-- a code is small if it is that of an entry with a small one, or else the rest of a table says so
small_by : (here : Bool) (code k : ℕ) (row : ModeRow) (later : Option ModeRow) → (code == k) ≡ here → nat_le k 31 ≡ true → (is_some later ≡ true → code ≤ 31) →
    is_some (if here then Some row else later) ≡ true → code ≤ 31
small_by true code k row later e h rest is = grind (arith, nat_tests)
small_by false code k row later e h rest is = rest is

-- the codes of a table are small, if all its entries' are
row_in-small : (entries : List ModeEntry) (code : ℕ) → list_all (λ (e : ModeEntry). nat_le e.code 31) entries ≡ true → is_some (row_in entries code) ≡ true → code ≤ 31
row_in-small [] code h is = absurd (cc)
row_in-small (e ∷ entries) code h is =
    let parts : (nat_le e.code 31 ≡ true) × (list_all (λ (e : ModeEntry). nat_le e.code 31) entries ≡ true) = and_parts (nat_le e.code 31) (list_all (λ (e : ModeEntry). nat_le e.code 31) entries) h in
    small_by (code == e.code) code e.code e.row (row_in entries code) refl parts.0 (λ later. row_in-small entries code parts.1 later) is

-- the row of a code that has one
pub row_of : (o : Option ModeRow) → is_some o ≡ true → (row : ModeRow) × (o ≡ Some row)
row_of (Some row) h = (row, refl)
row_of None h = absurd (cc)

same_again : (t : Bool) → same_bool (bit_of t == 1) t ≡ true
same_again true = refl
same_again false = refl

own_code : (code : ℕ) (row : ModeRow) → mode_row code ≡ Some row → code ≤ 31 → HasCommand (OwnMode code)
own_code code row e small =
    let c = mode_command 0 (bit_of row.transmit) code (omega arith) (omega (arith, bit_of-below row.transmit)) small in
    let at_row : mode_by (mode_row code) (bit_of row.transmit == 1) false code ≡ mode_by (Some row) (bit_of row.transmit == 1) false code = λ i. mode_by (e i) (bit_of row.transmit == 1) false code in
    let own : mode_by (Some row) (bit_of row.transmit == 1) false code ≡ Some (OwnMode code) = λ i. if same_again row.transmit i then Some (OwnMode code) else None in
    record { command = c.0; small = c.1; is = c.2 ∙ at_row ∙ own }

broadcast_code : (code : ℕ) (row : ModeRow) → mode_row code ≡ Some row → row.broadcast ≡ true → code ≤ 31 → HasCommand (BroadMode code)
broadcast_code code row e allowed small =
    let c = mode_command 31 (bit_of row.transmit) code (omega arith) (omega (arith, bit_of-below row.transmit)) small in
    let at_row : mode_by (mode_row code) (bit_of row.transmit == 1) true code ≡ mode_by (Some row) (bit_of row.transmit == 1) true code = λ i. mode_by (e i) (bit_of row.transmit == 1) true code in
    let all : mode_by (Some row) (bit_of row.transmit == 1) true code ≡ Some (BroadMode code) = λ i. if same_again row.transmit i then (if allowed i then Some (BroadMode code) else None) else None in
    record { command = c.0; small = c.1; is = c.2 ∙ at_row ∙ all }

allows-some : (o : Option ModeRow) → allows_broadcast o ≡ true → is_some o ≡ true
allows-some (Some row) h = refl
allows-some None h = absurd (cc)

pub allowed_have_commands : AllowedHaveCommands
allowed_have_commands (OwnReceive s n) h = let c = data_command 0 0 s n (omega arith) (omega arith) h in record { command = c.0; small = c.1; is = c.2 }
allowed_have_commands (OwnTransmit s n) h = let c = data_command 0 1 s n (omega arith) (omega arith) h in record { command = c.0; small = c.1; is = c.2 }
allowed_have_commands (BroadReceive s n) h = let c = data_command 31 0 s n (omega arith) (omega arith) h in record { command = c.0; small = c.1; is = c.2 }
allowed_have_commands (OwnMode code) h =
    let row = row_of (mode_row code) h in
    own_code code row.0 row.1 (row_in-small mode_table code refl h)
allowed_have_commands (BroadMode code) h =
    let has_row = allows-some (mode_row code) h in
    let row = row_of (mode_row code) has_row in
    broadcast_code code row.0 row.1 (ap allows_broadcast (sym row.1) ∙ h) (row_in-small mode_table code refl has_row)
