-- The slots behind a message are just enough for the reply to it.
use Rattle.std.proofs.Common.{◌≡◌, ℕ, suc, ◌+◌, ◌≤◌, nat_le, Bool, true, false, not, ◌&&◌, ◌||◌, if◌then◌else◌, Option, Some, None, List, refl, ap, sym, ◌∙◌, subst, arith}
use Rattle.std.proofs.lemmas.Option.{none-some}
use Rattle.bus_word.specs.declared.mode.ModeRow.{ModeRow}
use Rattle.bus_word.specs.declared.cell.Cell.{Cell}
use Rattle.bus_word.specs.declared.cell.Cell.TheVariants.{OwnReceive, OwnTransmit, BroadReceive, OwnMode, BroadMode}
use Rattle.bus_word.specs.Command.{transmits, is_mode, is_broadcast, code_of, count_of, subaddress_of}
use Rattle.bus_word.specs.Mode.{ModeEntry, mode_table, mode_row}
use Rattle.bus_word.specs.Cell.{same_bool, data_cell, mode_cell_by, cell_of}
use Rattle.bus_word.proofs.ModeLaws.{passes_in, same_bool-true}
use Rattle.bus_legal.specs.Description.{Description}
use Rattle.terminal_rules.specs.History.{Illegal, Blocked, Done}
use Rattle.terminal_rules.specs.Ends.{is_blocked_by_busy, verdict, well}
use Rattle.terminal_rules.specs.Reply.{has_word, words_after_status}
use Rattle.terminal_exchanges.specs.ExchangeLaws.{slots_needed}
use Rattle.rt1553_expand.specs.Events.{data_words_sent, reply_words}

-- ---- data words behind the status word

-- a mode code is answered with a data word exactly where it is one of those from 16 on that transmit
abbrev is_answered_with_word : ModeEntry → Bool
is_answered_with_word e = same_bool (e.row.transmit && nat_le 16 e.code) (has_word e.code)

abbrev one_if : Bool → ℕ
one_if b = if b then 1 else 0

by_parts : (transmit high word : Bool) → (transmit && high) ≡ word → one_if word ≡ (if transmit then one_if high else 0)
by_parts true high word e = ap one_if (sym e)
by_parts false high word e = ap one_if (sym e)

mode_words : (transmit : Bool) (code : ℕ) (row : ModeRow) → mode_row code ≡ Some row → same_bool transmit row.transmit ≡ true
    → one_if (has_word code) ≡ (if transmit then one_if (nat_le 16 code) else 0)
mode_words transmit code row is same =
    let by_row : (row.transmit && nat_le 16 code) ≡ has_word code = same_bool-true (row.transmit && nat_le 16 code) (has_word code) (passes_in is_answered_with_word mode_table code row refl is) in
    let own : transmit ≡ row.transmit = same_bool-true transmit row.transmit same in
    by_parts transmit (nat_le 16 code) (has_word code) (ap (λ t. t && nat_le 16 code) own ∙ by_row)

-- where a mode code has a cell, and is not sent to all terminals
own_mode_words : (c : ℕ) (o : Option ModeRow) (cell : Cell) → mode_row (code_of c) ≡ o → mode_cell_by c o ≡ Some cell → is_broadcast c ≡ false
    → words_after_status (Some cell) ≡ (if transmits c then (if nat_le 16 (code_of c) then 1 else 0) else 0)
own_mode_words c None cell is e own = absurd (none-some cell e)
own_mode_words c (Some row) cell is e own =
    by_test (same_bool (transmits c) row.transmit) refl
    (subst (λ b. (if same_bool (transmits c) row.transmit then (if b then (if row.broadcast then Some (BroadMode (code_of c)) else None) else Some (OwnMode (code_of c))) else None) ≡ Some cell) own e)
  where
    by_test : (same : Bool) → same_bool (transmits c) row.transmit ≡ same → (if same then Some (OwnMode (code_of c)) else None) ≡ Some cell
        → words_after_status (Some cell) ≡ (if transmits c then (if nat_le 16 (code_of c) then 1 else 0) else 0)
    by_test true same e = ap words_after_status (sym e) ∙ mode_words (transmits c) (code_of c) row is same
    by_test false same e = absurd (none-some cell e)

-- where a command to a subaddress of data has a cell, and is not sent to all terminals
own_data_words : (c : ℕ) (cell : Cell) → data_cell c ≡ Some cell → is_broadcast c ≡ false → words_after_status (Some cell) ≡ (if transmits c then count_of c else 0)
own_data_words c cell e own = by_test (transmits c) (subst (λ b. by_broadcast (transmits c) b ≡ Some cell) own e)
  where
    by_broadcast : Bool → Bool → Option Cell
    by_broadcast t b =
        if t then (if b then None else Some (OwnTransmit (subaddress_of c) (count_of c)))
        else (if b then Some (BroadReceive (subaddress_of c) (count_of c)) else Some (OwnReceive (subaddress_of c) (count_of c)))

    by_test : (t : Bool) → by_broadcast t false ≡ Some cell → words_after_status (Some cell) ≡ (if t then count_of c else 0)
    by_test true e = ap words_after_status (sym e)
    by_test false e = ap words_after_status (sym e)

own_words : (c : ℕ) (cell : Cell) → cell_of c ≡ Some cell → is_broadcast c ≡ false → words_after_status (Some cell) ≡ data_words_sent c
own_words c cell e own = by_test (is_mode c) e
  where
    by_test : (mode : Bool) → (if mode then mode_cell_by c (mode_row (code_of c)) else data_cell c) ≡ Some cell
        → words_after_status (Some cell) ≡ (if transmits c then (if mode then (if nat_le 16 (code_of c) then 1 else 0) else count_of c) else 0)
    by_test true e = own_mode_words c (mode_row (code_of c)) cell refl e own
    by_test false e = own_data_words c cell e own

-- ---- slots

-- a reply with this many data words behind its status word, unless the command was sent to all terminals
abbrev slots_with : ℕ → ℕ → ℕ
slots_with c words = if not (is_broadcast c || false) then suc words else 0

fits : (c words : ℕ) → (is_broadcast c ≡ false → words ≤ data_words_sent c) → slots_with c words ≤ reply_words c
fits c words few = by_test (is_broadcast c) few
  where
    by_test : (b : Bool) → (b ≡ false → words ≤ data_words_sent c) → (if not (b || false) then suc words else 0) ≤ (if b then 0 else data_words_sent c + 1)
    by_test true few = omega arith
    by_test false few = let l : words ≤ data_words_sent c = few refl in omega arith

fills : (c words : ℕ) → (is_broadcast c ≡ false → words ≡ data_words_sent c) → slots_with c words ≡ reply_words c
fills c words same = by_test (is_broadcast c) same
  where
    by_test : (b : Bool) → (b ≡ false → words ≡ data_words_sent c) → (if not (b || false) then suc words else 0) ≡ (if b then 0 else data_words_sent c + 1)
    by_test true same = refl
    by_test false same = let e : words ≡ data_words_sent c = same refl in omega arith

pub enough : (P : Description) (busy : Bool) (c : ℕ) (ds : List ℕ) → slots_needed (well P busy c ds) ≤ reply_words c
enough P busy c ds = by_cell (cell_of c) refl
  where
    none : slots_with c 0 ≤ reply_words c
    none = fits c 0 (λ own. omega arith)

    by_cell : (o : Option Cell) → cell_of c ≡ o → slots_needed (verdict P.legal busy c ds o) ≤ reply_words c
    by_cell None e = none
    by_cell (Some cell) e = by_test (P.legal cell) (busy && is_blocked_by_busy cell)
      where
        by_test : (legal blocked : Bool) → slots_needed (if legal then (if blocked then Blocked c cell else Done c cell ds) else Illegal c) ≤ reply_words c
        by_test true true = none
        by_test true false = fits c (words_after_status (Some cell)) (λ own. let same : words_after_status (Some cell) ≡ data_words_sent c = own_words c cell e own in omega arith)
        by_test false blocked = none

pub no_spare : (P : Description) (c : ℕ) (ds : List ℕ) (cell : Cell) → cell_of c ≡ Some cell → P.legal cell ≡ true → slots_needed (well P false c ds) ≡ reply_words c
no_spare P c ds cell e legal =
    let done : well P false c ds ≡ Done c cell ds = ap (λ o. verdict P.legal false c ds o) e ∙ ap (λ b. if b then Done c cell ds else Illegal c) legal in
    ap slots_needed done ∙ fills c (words_after_status (Some cell)) (own_words c cell e)
