-- A message that has a cell has no other, and no other message has it.
use Rattle.std.proofs.Common.{◌≡◌, ℕ, ◌≤◌, ◌<◌, ◌%◌, Bool, true, false, ◌&&◌, ◌||◌, ◌==◌, if◌then◌else◌, Option, Some, None, refl, ap, sym, subst, ◌∙◌, arith}
use Rattle.std.proofs.lemmas.Bool.{eqb-true, and_parts}
use Rattle.std.proofs.lemmas.Bool.Decides.{nat_tests}
use Rattle.bus_word.specs.declared.cell.Cell.{Cell}
use Rattle.bus_word.specs.declared.cell.Cell.TheVariants.{OwnReceive, OwnTransmit, BroadReceive, OwnMode, BroadMode}
use Rattle.bus_word.specs.declared.mode.ModeRow.{ModeRow}
use Rattle.bus_word.specs.Cell.{data_cell, mode_cell_by, cell_of, same_bool, is_allowed}
use Rattle.bus_word.specs.Command.{transmits, subaddress_of, code_of, count_in, is_mode, is_broadcast}
use Rattle.bus_word.specs.Mode.{mode_row}
use Rattle.bus_word.specs.Laws.{HasCommand}
use Rattle.bus_word.proofs.CellLaws.{data_by, mode_by, allowed_have_commands}
use Rattle.terminal_rules.proofs.CellLaw.{none_or_allowed, cell_of-allowed}
use Rattle.terminal_rules.specs.WorkedExamples.Words.{same_cell}
use Rattle.recording_coverage.specs.Messages.{message_number, is_this_cell, has_this_cell}
use Rattle.recording_coverage.specs.inner.CellNumbers.{row_transmits, number_by, number_of_cell}

-- the cell of a message, by its parts
abbrev cell_by : Bool → Bool → ℕ → ℕ → Option Cell
cell_by by_broadcast transmit s low = if s == 0 then mode_by (mode_row low) transmit by_broadcast low else data_by transmit by_broadcast s (count_in low)

-- the subaddress of a message, 0 for mode codes
abbrev place_in : Bool → ℕ → ℕ
place_in mode s = if mode then 0 else s

mode_cell_is : (c : ℕ) (o : Option ModeRow) → mode_cell_by c o ≡ mode_by o (transmits c) (is_broadcast c) (code_of c)
mode_cell_is c None = refl
mode_cell_is c (Some row) = refl

cell_is : (c : ℕ) → cell_of c ≡ cell_by (is_broadcast c) (transmits c) (place_in (is_mode c) (subaddress_of c)) (code_of c)
cell_is c = by_mode (is_mode c) refl
  where
    by_mode : (m : Bool) → is_mode c ≡ m → (if m then mode_cell_by c (mode_row (code_of c)) else data_cell c) ≡ cell_by (is_broadcast c) (transmits c) (place_in m (subaddress_of c)) (code_of c)
    by_mode true e = mode_cell_is c (mode_row (code_of c))
    by_mode false e =
        let some : (subaddress_of c == 0) ≡ false = first_false (subaddress_of c == 0) (subaddress_of c == 31) e in
        sym (ap (λ b. if b then mode_by (mode_row (code_of c)) (transmits c) (is_broadcast c) (code_of c) else data_by (transmits c) (is_broadcast c) (subaddress_of c) (count_in (code_of c))) some)
      where
        first_false : (a b : Bool) → (a || b) ≡ false → a ≡ false
        first_false true b e = cc
        first_false false b e = refl

-- equal numbers are of equal parts
parts_of_number : (b t b' t' : Bool) (s l s' l' : ℕ) → s ≤ 31 → l ≤ 31 → s' ≤ 31 → l' ≤ 31 → number_by b t s l ≡ number_by b' t' s' l' → cell_by b t s l ≡ cell_by b' t' s' l'
parts_of_number true true true true s l s' l' p q r u e = let x : s ≡ s' = omega arith in let y : l ≡ l' = omega arith in λ j. cell_by true true (x j) (y j)
parts_of_number true true true false s l s' l' p q r u e = absurd (omega arith)
parts_of_number true true false true s l s' l' p q r u e = absurd (omega arith)
parts_of_number true true false false s l s' l' p q r u e = absurd (omega arith)
parts_of_number true false true true s l s' l' p q r u e = absurd (omega arith)
parts_of_number true false true false s l s' l' p q r u e = let x : s ≡ s' = omega arith in let y : l ≡ l' = omega arith in λ j. cell_by true false (x j) (y j)
parts_of_number true false false true s l s' l' p q r u e = absurd (omega arith)
parts_of_number true false false false s l s' l' p q r u e = absurd (omega arith)
parts_of_number false true true true s l s' l' p q r u e = absurd (omega arith)
parts_of_number false true true false s l s' l' p q r u e = absurd (omega arith)
parts_of_number false true false true s l s' l' p q r u e = let x : s ≡ s' = omega arith in let y : l ≡ l' = omega arith in λ j. cell_by false true (x j) (y j)
parts_of_number false true false false s l s' l' p q r u e = absurd (omega arith)
parts_of_number false false true true s l s' l' p q r u e = absurd (omega arith)
parts_of_number false false true false s l s' l' p q r u e = absurd (omega arith)
parts_of_number false false false true s l s' l' p q r u e = absurd (omega arith)
parts_of_number false false false false s l s' l' p q r u e = let x : s ≡ s' = omega arith in let y : l ≡ l' = omega arith in λ j. cell_by false false (x j) (y j)

place_small : (m : Bool) (c : ℕ) → place_in m (subaddress_of c) ≤ 31
place_small true c = omega arith
place_small false c = omega arith

same_number_same_cell : (c d : ℕ) → message_number c ≡ message_number d → cell_of c ≡ cell_of d
same_number_same_cell c d e =
    cell_is c
    ∙ (parts_of_number (is_broadcast c) (transmits c) (is_broadcast d) (transmits d) (place_in (is_mode c) (subaddress_of c)) (code_of c) (place_in (is_mode d) (subaddress_of d)) (code_of d)
    (place_small (is_mode c) c) (omega arith) (place_small (is_mode d) d) (omega arith) e
    ∙ sym (cell_is d))

-- the number of a cell is that of its message
count_low : (l : ℕ) → l ≤ 31 → count_in l % 32 ≡ l
count_low l h = grind (arith, nat_tests)

data_number : (b t : Bool) (s l : ℕ) (cell : Cell) → l ≤ 31 → data_by t b s (count_in l) ≡ Some cell → number_by b t s l ≡ number_of_cell cell
data_number true true s l cell h e = absurd (cc)
data_number true false s l cell h e = let at : BroadReceive s (count_in l) ≡ cell = cc in ap (number_by true false s) (sym (count_low l h)) ∙ ap number_of_cell at
data_number false true s l cell h e = let at : OwnTransmit s (count_in l) ≡ cell = cc in ap (number_by false true s) (sym (count_low l h)) ∙ ap number_of_cell at
data_number false false s l cell h e = let at : OwnReceive s (count_in l) ≡ cell = cc in ap (number_by false false s) (sym (count_low l h)) ∙ ap number_of_cell at

same_is : (a b : Bool) → same_bool a b ≡ true → a ≡ b
same_is true true e = refl
same_is true false e = cc
same_is false true e = cc
same_is false false e = refl

mode_number : (b t : Bool) (l : ℕ) (cell : Cell) (o : Option ModeRow) → mode_row l ≡ o → mode_by o t b l ≡ Some cell → number_by b t 0 l ≡ number_of_cell cell
mode_number b t l cell None at e = absurd (cc)
mode_number b t l cell (Some row) at e = by_same (same_bool t row.transmit) refl b row.broadcast e
  where
    t_is : same_bool t row.transmit ≡ true → t ≡ row_transmits (mode_row l)
    t_is same = same_is t row.transmit same ∙ sym (ap row_transmits at)

    by_same : (k : Bool) → same_bool t row.transmit ≡ k → (b by_it : Bool) → (if k then (if b then (if by_it then Some (BroadMode l) else None) else Some (OwnMode l)) else None) ≡ Some cell → number_by b t 0 l ≡ number_of_cell cell
    by_same false same b by_it e = absurd (cc)
    by_same true same true false e = absurd (cc)
    by_same true same true true e = let is : BroadMode l ≡ cell = cc in ap (λ x. number_by true x 0 l) (t_is same) ∙ ap number_of_cell is
    by_same true same false by_it e = let is : OwnMode l ≡ cell = cc in ap (λ x. number_by false x 0 l) (t_is same) ∙ ap number_of_cell is

number_is : (c : ℕ) (cell : Cell) → cell_of c ≡ Some cell → message_number c ≡ number_of_cell cell
number_is c cell e = by_place (place_in (is_mode c) (subaddress_of c) == 0) refl
  where
    s : ℕ
    s = place_in (is_mode c) (subaddress_of c)

    low : code_of c ≤ 31
    low = omega arith

    by_place : (k : Bool) → (place_in (is_mode c) (subaddress_of c) == 0) ≡ k → message_number c ≡ number_of_cell cell
    by_place true at =
        let zero_is : place_in (is_mode c) (subaddress_of c) ≡ 0 = eqb-true (place_in (is_mode c) (subaddress_of c)) 0 at in
        ap (λ x. number_by (is_broadcast c) (transmits c) x (code_of c)) zero_is
        ∙ mode_number (is_broadcast c) (transmits c) (code_of c) cell (mode_row (code_of c)) refl
        (ap (λ k. if k then mode_by (mode_row (code_of c)) (transmits c) (is_broadcast c) (code_of c) else data_by (transmits c) (is_broadcast c) (place_in (is_mode c) (subaddress_of c)) (count_in (code_of c))) (sym at) ∙ (sym (cell_is c) ∙ e))
    by_place false at =
        data_number (is_broadcast c) (transmits c) (place_in (is_mode c) (subaddress_of c)) (code_of c) cell low
        (ap (λ k. if k then mode_by (mode_row (code_of c)) (transmits c) (is_broadcast c) (code_of c) else data_by (transmits c) (is_broadcast c) (place_in (is_mode c) (subaddress_of c)) (count_in (code_of c))) (sym at) ∙ (sym (cell_is c) ∙ e))

same_here : (n : ℕ) → (n == n) ≡ true
same_here n = grind (arith, nat_tests)

same_as_itself : (cell : Cell) → same_cell cell cell ≡ true
same_as_itself (OwnReceive s n) = λ j. same_here s j && same_here n j
same_as_itself (OwnTransmit s n) = λ j. same_here s j && same_here n j
same_as_itself (BroadReceive s n) = λ j. same_here s j && same_here n j
same_as_itself (OwnMode c) = same_here c
same_as_itself (BroadMode c) = same_here c

equal_pair : (f : ℕ → ℕ → Cell) (s t n m : ℕ) → ((s == t) && (n == m)) ≡ true → f s n ≡ f t m
equal_pair f s t n m e = let both = and_parts (s == t) (n == m) e in λ j. f (eqb-true s t both.0 j) (eqb-true n m both.1 j)

equal_cells : (x y : Cell) → same_cell x y ≡ true → x ≡ y
equal_cells (OwnReceive s n) (OwnReceive t m) e = equal_pair OwnReceive s t n m e
equal_cells (OwnReceive s n) (OwnTransmit t m) e = absurd (cc)
equal_cells (OwnReceive s n) (BroadReceive t m) e = absurd (cc)
equal_cells (OwnReceive s n) (OwnMode d) e = absurd (cc)
equal_cells (OwnReceive s n) (BroadMode d) e = absurd (cc)
equal_cells (OwnTransmit s n) (OwnReceive t m) e = absurd (cc)
equal_cells (OwnTransmit s n) (OwnTransmit t m) e = equal_pair OwnTransmit s t n m e
equal_cells (OwnTransmit s n) (BroadReceive t m) e = absurd (cc)
equal_cells (OwnTransmit s n) (OwnMode d) e = absurd (cc)
equal_cells (OwnTransmit s n) (BroadMode d) e = absurd (cc)
equal_cells (BroadReceive s n) (OwnReceive t m) e = absurd (cc)
equal_cells (BroadReceive s n) (OwnTransmit t m) e = absurd (cc)
equal_cells (BroadReceive s n) (BroadReceive t m) e = equal_pair BroadReceive s t n m e
equal_cells (BroadReceive s n) (OwnMode d) e = absurd (cc)
equal_cells (BroadReceive s n) (BroadMode d) e = absurd (cc)
equal_cells (OwnMode c) (OwnReceive t m) e = absurd (cc)
equal_cells (OwnMode c) (OwnTransmit t m) e = absurd (cc)
equal_cells (OwnMode c) (BroadReceive t m) e = absurd (cc)
equal_cells (OwnMode c) (OwnMode d) e = ap OwnMode (eqb-true c d e)
equal_cells (OwnMode c) (BroadMode d) e = absurd (cc)
equal_cells (BroadMode c) (OwnReceive t m) e = absurd (cc)
equal_cells (BroadMode c) (OwnTransmit t m) e = absurd (cc)
equal_cells (BroadMode c) (BroadReceive t m) e = absurd (cc)
equal_cells (BroadMode c) (OwnMode d) e = absurd (cc)
equal_cells (BroadMode c) (BroadMode d) e = ap BroadMode (eqb-true c d e)

-- the commands of a cell are those with its number
pub same_test : (cell : Cell) → is_allowed cell ≡ true → (d : ℕ) → (message_number d == number_of_cell cell) ≡ has_this_cell cell d
same_test cell allowed d = by_number (message_number d == number_of_cell cell) refl
  where
    h : HasCommand cell
    h = allowed_have_commands cell allowed

    by_cell : (o : Option Cell) → cell_of d ≡ o → (message_number d == number_of_cell cell) ≡ false → is_this_cell cell o ≡ false
    by_cell None at e = refl
    by_cell (Some other) at e = by_test (same_cell cell other) refl
      where
        by_test : (k : Bool) → same_cell cell other ≡ k → k ≡ false
        by_test false t = refl
        by_test true t =
            let is : message_number d ≡ number_of_cell cell = number_is d other at ∙ ap number_of_cell (sym (equal_cells cell other t)) in
            absurd (grind (arith, nat_tests))

    by_number : (k : Bool) → (message_number d == number_of_cell cell) ≡ k → k ≡ has_this_cell cell d
    by_number true e =
        let number : message_number d ≡ message_number h.command = eqb-true (message_number d) (number_of_cell cell) e ∙ sym (number_is h.command cell h.is) in
        sym (ap (is_this_cell cell) (same_number_same_cell d h.command number ∙ h.is) ∙ same_as_itself cell)
    by_number false e = sym (by_cell (cell_of d) refl e)

number_small_by : (b t : Bool) (s l : ℕ) → s ≤ 31 → l ≤ 31 → number_by b t s l < 4096
number_small_by true true s l p q = omega arith
number_small_by true false s l p q = omega arith
number_small_by false true s l p q = omega arith
number_small_by false false s l p q = omega arith

message_small : (c : ℕ) → message_number c < 4096
message_small c = by_parts (is_broadcast c) (transmits c) (is_mode c)
  where
    by_parts : (b t m : Bool) → number_by b t (place_in m (subaddress_of c)) (code_of c) < 4096
    by_parts b t m = let p = place_small m c in let q : code_of c ≤ 31 = omega arith in number_small_by b t (place_in m (subaddress_of c)) (code_of c) p q

-- a number of few, since some command has it
pub number_small : (cell : Cell) → is_allowed cell ≡ true → number_of_cell cell < 4096
number_small cell allowed = let h : HasCommand cell = allowed_have_commands cell allowed in subst (λ n. n < 4096) (number_is h.command cell h.is) (message_small h.command)

-- no command has a cell that is not allowed
pub none_has : (cell : Cell) → is_allowed cell ≡ false → (d : ℕ) → has_this_cell cell d ≡ false
none_has cell unallowed d = by_cell (cell_of d) refl
  where
    by_cell : (o : Option Cell) → cell_of d ≡ o → is_this_cell cell o ≡ false
    by_cell None at = refl
    by_cell (Some other) at = by_test (same_cell cell other) refl
      where
        by_test : (k : Bool) → same_cell cell other ≡ k → k ≡ false
        by_test false t = refl
        by_test true t =
            let allowed : is_allowed cell ≡ true = ap is_allowed (equal_cells cell other t) ∙ (sym (ap none_or_allowed at) ∙ cell_of-allowed d) in
            absurd (cc)
