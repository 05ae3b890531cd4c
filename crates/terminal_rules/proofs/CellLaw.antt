-- The cell of a command is one that some command has.
use Rattle.std.proofs.Common.{◌≡◌, ℕ, ◌≤◌, ◌<◌, Bool, true, false, ◌&&◌, ◌||◌, ◌==◌, if◌then◌else◌, List, Option, Some, None, refl, ap, sym, ◌∙◌, arith, is_some}
use Rattle.std.proofs.lemmas.Bool.Decides.{nat_tests}
use Rattle.bus_word.specs.declared.mode.ModeRow.{ModeRow}
use Rattle.bus_word.specs.declared.cell.Cell.{Cell}
use Rattle.bus_word.specs.declared.cell.Cell.TheVariants.{OwnReceive, OwnTransmit, BroadReceive, OwnMode, BroadMode}
use Rattle.bus_word.specs.Command.{transmits, subaddress_of, code_of, count_of, is_mode, is_broadcast}
use Rattle.bus_word.specs.Mode.{mode_row}
use Rattle.bus_word.specs.Cell.{data_cell, same_bool, mode_cell_by, cell_of, is_data_place, allows_broadcast, is_allowed}
use Rattle.terminal_rules.specs.History.{Illegal, Blocked, Done}
use Rattle.bus_legal.specs.Description.{Description}
use Rattle.terminal_rules.specs.Ends.{verdict, well, is_blocked_by_busy}
use Rattle.terminal_rules.specs.Turn.{done_cell}

abbrev pub none_or_allowed : Option Cell → Bool
none_or_allowed None = true
none_or_allowed (Some cell) = is_allowed cell

mode_tests : (c : ℕ) (row : ModeRow) (t b r : Bool) → mode_row (code_of c) ≡ Some row → row.broadcast ≡ r →
    none_or_allowed (if t then (if b then (if r then Some (BroadMode (code_of c)) else None) else Some (OwnMode (code_of c))) else None) ≡ true
mode_tests c row false b r e f = refl
mode_tests c row true true true e f = ap allows_broadcast e ∙ f
mode_tests c row true true false e f = refl
mode_tests c row true false r e f = ap is_some e

mode_allowed : (c : ℕ) (o : Option ModeRow) → mode_row (code_of c) ≡ o → none_or_allowed (mode_cell_by c o) ≡ true
mode_allowed c None e = refl
mode_allowed c (Some row) e = mode_tests c row (same_bool (transmits c) row.transmit) (is_broadcast c) row.broadcast e refl

data_place : (s n : ℕ) → (s == 0) || (s == 31) ≡ false → s < 32 → 1 ≤ n → n ≤ 32 → is_data_place s n ≡ true
data_place s n e below low high = grind (arith, nat_tests)

count-ge : (b : Bool) (low : ℕ) → (low == 0) ≡ b → 1 ≤ (if b then 32 else low)
count-ge true low e = omega arith
count-ge false low e = grind (arith, nat_tests)

count-le : (b : Bool) (low : ℕ) → low < 32 → (if b then 32 else low) ≤ 32
count-le true low h = omega arith
count-le false low h = omega arith

data_tests : (s n : ℕ) (t b : Bool) → is_data_place s n ≡ true →
    none_or_allowed (if t then (if b then None else Some (OwnTransmit s n)) else (if b then Some (BroadReceive s n) else Some (OwnReceive s n))) ≡ true
data_tests s n true true e = refl
data_tests s n true false e = e
data_tests s n false true e = e
data_tests s n false false e = e

data_allowed : (c : ℕ) → is_mode c ≡ false → none_or_allowed (data_cell c) ≡ true
data_allowed c e =
    data_tests (subaddress_of c) (count_of c) (transmits c) (is_broadcast c)
    (data_place (subaddress_of c) (count_of c) e (omega arith) (count-ge (code_of c == 0) (code_of c) refl) (count-le (code_of c == 0) (code_of c) (omega arith)))

by_mode : (c : ℕ) (m : Bool) → is_mode c ≡ m → none_or_allowed (if m then mode_cell_by c (mode_row (code_of c)) else data_cell c) ≡ true
by_mode c true e = mode_allowed c (mode_row (code_of c)) refl
by_mode c false e = data_allowed c e

pub cell_of-allowed : (c : ℕ) → none_or_allowed (cell_of c) ≡ true
cell_of-allowed c = by_mode c (is_mode c) refl

-- the same of a cell that a command has
pub is_allowed-cell : (c : ℕ) (cell : Cell) → cell_of c ≡ Some cell → is_allowed cell ≡ true
is_allowed-cell c cell e = sym (ap none_or_allowed e) ∙ cell_of-allowed c

allowed_and : (b : Bool) (l m : Bool) → b ≡ true → l ≡ m → l ≡ b && m
allowed_and true l m e f = f
allowed_and false l m e f = cc

-- a message that has its words ends by the legality of its cell: some command has that cell
pub well_law : (legal : Cell → Bool) (busy : Bool) (c : ℕ) (ds : List ℕ) (cell : Cell) (l : Bool) → cell_of c ≡ Some cell → l ≡ legal cell →
    verdict (λ _. l) busy c ds (Some cell) ≡ verdict (λ cell. is_allowed cell && legal cell) busy c ds (cell_of c)
well_law legal busy c ds cell l e f =
    ap (λ l. verdict (λ _. l) busy c ds (Some cell)) (allowed_and (is_allowed cell) l (legal cell) (is_allowed-cell c cell e) f)
    ∙ ap (λ o. verdict (λ cell. is_allowed cell && legal cell) busy c ds o) (sym e)

-- and so is the cell of what is done
verdict_allowed : (legal : Cell → Bool) (busy : Bool) (c : ℕ) (ds : List ℕ) (o : Option Cell) → none_or_allowed o ≡ true → none_or_allowed (done_cell (verdict legal busy c ds o)) ≡ true
verdict_allowed legal busy c ds None e = refl
verdict_allowed legal busy c ds (Some cell) e = by_tests (legal cell) (busy && is_blocked_by_busy cell)
  where
    by_tests : (l b : Bool) → none_or_allowed (done_cell (if l then (if b then Blocked c cell else Done c cell ds) else Illegal c)) ≡ true
    by_tests true true = refl
    by_tests true false = e
    by_tests false b = refl

pub well_allowed : (P : Description) (busy : Bool) (c : ℕ) (ds : List ℕ) → none_or_allowed (done_cell (well P busy c ds)) ≡ true
well_allowed P busy c ds = verdict_allowed P.legal busy c ds (cell_of c) (cell_of-allowed c)
