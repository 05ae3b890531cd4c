-- What a command is that has a cell of data.
use Rattle.std.proofs.Common.{◌≡◌, ℕ, Bool, true, false, not, ◌&&◌, nat_le, if◌then◌else◌, Option, Some, None, refl, ap, sym, ◌∙◌}
use Rattle.bus_word.specs.declared.mode.ModeRow.{ModeRow}
use Rattle.bus_word.specs.declared.cell.Cell.{Cell}
use Rattle.bus_word.specs.declared.cell.Cell.TheVariants.{OwnReceive, OwnTransmit, BroadReceive, OwnMode, BroadMode}
use Rattle.bus_word.specs.Command.{transmits, subaddress_of, code_of, count_of, is_mode, is_broadcast, is_receive, expected}
use Rattle.bus_word.specs.Mode.{mode_row}
use Rattle.bus_word.specs.Cell.{same_bool, mode_cell_by, cell_of}

abbrev is_data_cell : Option Cell → Bool
is_data_cell (Some (OwnReceive s n)) = true
is_data_cell (Some (OwnTransmit s n)) = true
is_data_cell _ = false

by_row : (a b r : Bool) (code : ℕ) → is_data_cell (if a then (if b then (if r then Some (BroadMode code) else None) else Some (OwnMode code)) else None) ≡ false
by_row false b r code = refl
by_row true true true code = refl
by_row true true false code = refl
by_row true false r code = refl

no_mode : (c : ℕ) (o : Option ModeRow) → is_data_cell (mode_cell_by c o) ≡ false
no_mode c None = refl
no_mode c (Some row) = by_row (same_bool (transmits c) row.transmit) (is_broadcast c) row.broadcast (code_of c)

-- a receive command
pub record Receives (c n : ℕ) : Type 0 where
  pub receive : is_receive c ≡ true
  pub own : is_broadcast c ≡ false
  pub count : expected c ≡ n

pub receives_law : (c s n : ℕ) → cell_of c ≡ Some (OwnReceive s n) → Receives c n
receives_law c s n e = by_tests (is_mode c) (transmits c) (is_broadcast c) refl refl refl e
  where
    by_tests : (m t b : Bool) → is_mode c ≡ m → transmits c ≡ t → is_broadcast c ≡ b →
        (if m then mode_cell_by c (mode_row (code_of c)) else (if t then (if b then None else Some (OwnTransmit (subaddress_of c) (count_of c))) else (if b then Some (BroadReceive (subaddress_of c) (count_of c)) else Some (OwnReceive (subaddress_of c) (count_of c))))) ≡ Some (OwnReceive s n) →
        Receives c n
    by_tests true t b p q r e = let no : true ≡ false = sym (ap is_data_cell e) ∙ no_mode c (mode_row (code_of c)) in cc
    by_tests false true true p q r e = cc
    by_tests false true false p q r e = cc
    by_tests false false true p q r e = cc
    by_tests false false false p q r e =
        let count : count_of c ≡ n = cc in
        record {
          receive = (λ j. not (q j) && not (p j));
          own = r;
          count = (λ j. if q j then 0 else if p j then (if nat_le 16 (code_of c) then 1 else 0) else count_of c) ∙ count;
        }

-- a transmit command
pub record Transmits (c : ℕ) : Type 0 where
  pub transmit : transmits c ≡ true
  pub own : is_broadcast c ≡ false
  pub count : expected c ≡ 0

pub transmits_law : (c s n : ℕ) → cell_of c ≡ Some (OwnTransmit s n) → Transmits c
transmits_law c s n e = by_tests (is_mode c) (transmits c) (is_broadcast c) refl refl refl e
  where
    by_tests : (m t b : Bool) → is_mode c ≡ m → transmits c ≡ t → is_broadcast c ≡ b →
        (if m then mode_cell_by c (mode_row (code_of c)) else (if t then (if b then None else Some (OwnTransmit (subaddress_of c) (count_of c))) else (if b then Some (BroadReceive (subaddress_of c) (count_of c)) else Some (OwnReceive (subaddress_of c) (count_of c))))) ≡ Some (OwnTransmit s n) →
        Transmits c
    by_tests true t b p q r e = let no : true ≡ false = sym (ap is_data_cell e) ∙ no_mode c (mode_row (code_of c)) in cc
    by_tests false true true p q r e = cc
    by_tests false true false p q r e = record { transmit = q; own = r; count = (λ j. if q j then 0 else if p j then (if nat_le 16 (code_of c) then 1 else 0) else count_of c) }
    by_tests false false true p q r e = cc
    by_tests false false false p q r e = cc
