-- Terminals that differ in the legality of a cell, own or by broadcast, are told apart by message error.
use Rattle.std.proofs.Common.{◌≡◌, ℕ, ◌≤◌, Bool, true, false, ◌≢◌, Some, is_some, [], ◌∷◌, replicate, refl, ap, sym, ◌∙◌, arith}
use Rattle.std.proofs.lemmas.List.{length-replicate}
use Rattle.bus_word.specs.declared.cell.Cell.{Cell}
use Rattle.bus_word.specs.declared.cell.Cell.TheVariants.{OwnReceive, OwnTransmit, BroadReceive, OwnMode, BroadMode}
use Rattle.bus_word.specs.Mode.{mode_row}
use Rattle.bus_word.specs.Cell.{is_data_place, allows_broadcast}
use Rattle.bus_word.specs.Status.{status_word}
use Rattle.bus_legal.specs.Description.{Description}
use Rattle.terminal_rules.specs.Status.{accepts}
use Rattle.terminal_exchanges.specs.Exchanges.{Exchange, script_of}
use Rattle.terminal_exchanges.specs.Distinguish.{TellsApart, all_terminals, receive_zeros, transmit, mode_code, ask, own_receive_script, own_transmit_script, broadcast_receive_script, own_code_script, broadcast_code_script}
use Rattle.terminal_exchanges.proofs.Distinguish.Commands.{IsTo, zeros_small, receive_to_own, receive_to_all, transmit_from_own, code_to_own, code_to_all, moved}
use Rattle.terminal_exchanges.proofs.Distinguish.Last.{apart_by_one, bits_in}
use Rattle.terminal_exchanges.proofs.Distinguish.Own.{is_reset_cell, parts_by, status_told}
use Rattle.terminal_exchanges.proofs.Distinguish.Broadcast.{is_of_broadcast, parts_after, asked_apart}

pub own_told : (a : ℕ) (l m x y : Bool) → status_word a (parts_by l x) ≡ status_word a (parts_by m y) → l ≡ m
own_told a true true x y e = refl
own_told a true false true y e = absurd (omega arith)
own_told a true false false y e = absurd (omega arith)
own_told a false true x true e = absurd (omega arith)
own_told a false true x false e = absurd (omega arith)
own_told a false false x y e = refl

-- one exchange with the own address, whose cell is legal in the one and not in the other
own_cell_tells : (P Q : Description) (x : Exchange) (cell : Cell) → P.address ≤ 30 → P.address ≡ Q.address → IsTo P.address (Some cell) x → P.legal cell ≢ Q.legal cell → TellsApart P Q (script_of (x ∷ []))
own_cell_tells P Q x cell low same to other =
    let low_q : Q.address ≤ 30 = omega arith in
    apart_by_one bits_in 0 P Q P.address (Some cell) x
    (status_word P.address (parts_by (P.legal cell) (accepts P.accept cell)))
    (status_word P.address (parts_by (Q.legal cell) (accepts Q.accept cell)))
    to (to.some_slots low)
    (status_told P [] x cell low to (λ _. refl) tt)
    (status_told Q [] x cell low_q (moved P.address Q.address (Some cell) x same to) (λ _. refl) tt
    ∙ ap (λ a. status_word a (parts_by (Q.legal cell) (accepts Q.accept cell))) (sym same))
    (λ e. other (own_told P.address (P.legal cell) (Q.legal cell) (accepts P.accept cell) (accepts Q.accept cell) e))

-- 3: an own receive cell
pub own_receive_tells : (P Q : Description) (s n : ℕ) → P.address ≤ 30 → P.address ≡ Q.address → is_data_place s n ≡ true → P.legal (OwnReceive s n) ≢ Q.legal (OwnReceive s n) →
    TellsApart P Q (own_receive_script P.address s n)
own_receive_tells P Q s n low same place other =
    own_cell_tells P Q (receive_zeros P.address s n) (OwnReceive s n) low same (receive_to_own P.address s n (replicate n 0) low place (length-replicate n 0) (zeros_small n)) other

-- 4: an own transmit cell
pub own_transmit_tells : (P Q : Description) (s n : ℕ) → P.address ≤ 30 → P.address ≡ Q.address → is_data_place s n ≡ true → P.legal (OwnTransmit s n) ≢ Q.legal (OwnTransmit s n) →
    TellsApart P Q (own_transmit_script P.address s n)
own_transmit_tells P Q s n low same place other =
    own_cell_tells P Q (transmit P.address s n 1) (OwnTransmit s n) low same (transmit_from_own P.address s n 1 low place (omega arith) (omega arith)) other

-- a broadcast, whose cell is legal in the one and not in the other, where both hear it
pub broadcast_told : (a : ℕ) (l m reset : Bool) → status_word a (parts_after true l reset) ≡ status_word a (parts_after true m reset) → l ≡ m
broadcast_told a true true reset e = refl
broadcast_told a true false true e = absurd (omega arith)
broadcast_told a true false false e = absurd (omega arith)
broadcast_told a false true true e = absurd (omega arith)
broadcast_told a false true false e = absurd (omega arith)
broadcast_told a false false reset e = refl

broadcast_cell_tells : (P Q : Description) (x : Exchange) (cell : Cell) → P.address ≤ 30 → P.address ≡ Q.address → P.broadcast ≡ true → Q.broadcast ≡ true →
    P.legal (OwnMode 2) ≡ true → Q.legal (OwnMode 2) ≡ true → IsTo all_terminals (Some cell) x → is_of_broadcast (Some cell) ≡ true → P.legal cell ≢ Q.legal cell →
    TellsApart P Q (script_of (x ∷ ask P.address ∷ []))
broadcast_cell_tells P Q x cell low same p_hears q_hears p_asks q_asks to by_broadcast other =
    asked_apart P Q x (Some cell) low same p_asks q_asks to by_broadcast
    (λ e. other (broadcast_told P.address (P.legal cell) (Q.legal cell) (is_reset_cell cell)
    (ap (λ b. status_word P.address (parts_after b (P.legal cell) (is_reset_cell cell))) (sym p_hears)
    ∙ (e ∙ ap (λ b. status_word P.address (parts_after b (Q.legal cell) (is_reset_cell cell))) q_hears))))

-- 5: a broadcast receive cell
pub broadcast_receive_tells : (P Q : Description) (s n : ℕ) → P.address ≤ 30 → P.address ≡ Q.address → P.broadcast ≡ true → Q.broadcast ≡ true →
    P.legal (OwnMode 2) ≡ true → Q.legal (OwnMode 2) ≡ true → is_data_place s n ≡ true → P.legal (BroadReceive s n) ≢ Q.legal (BroadReceive s n) →
    TellsApart P Q (broadcast_receive_script P.address s n)
broadcast_receive_tells P Q s n low same p_hears q_hears p_asks q_asks place other =
    broadcast_cell_tells P Q (receive_zeros all_terminals s n) (BroadReceive s n) low same p_hears q_hears p_asks q_asks
    (receive_to_all s n (replicate n 0) place (length-replicate n 0) (zeros_small n)) refl other

-- 6: an own mode code
pub own_code_tells : (P Q : Description) (code : ℕ) → P.address ≤ 30 → P.address ≡ Q.address → is_some (mode_row code) ≡ true → P.legal (OwnMode code) ≢ Q.legal (OwnMode code) →
    TellsApart P Q (own_code_script P.address code)
own_code_tells P Q code low same known other =
    own_cell_tells P Q (mode_code P.address code) (OwnMode code) low same (code_to_own P.address code low known) other

-- 7: a broadcast mode code
pub broadcast_code_tells : (P Q : Description) (code : ℕ) → P.address ≤ 30 → P.address ≡ Q.address → P.broadcast ≡ true → Q.broadcast ≡ true →
    P.legal (OwnMode 2) ≡ true → Q.legal (OwnMode 2) ≡ true → allows_broadcast (mode_row code) ≡ true → P.legal (BroadMode code) ≢ Q.legal (BroadMode code) →
    TellsApart P Q (broadcast_code_script P.address code)
broadcast_code_tells P Q code low same p_hears q_hears p_asks q_asks allowed other =
    broadcast_cell_tells P Q (mode_code all_terminals code) (BroadMode code) low same p_hears q_hears p_asks q_asks (code_to_all code allowed) refl other
