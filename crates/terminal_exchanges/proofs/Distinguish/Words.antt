-- Terminals that differ in acceptance, in the vector word or in the BIT word.
use Rattle.std.proofs.Common.{◌≡◌, ℕ, ◌≤◌, Bool, true, false, ◌≢◌, Some, List, [], refl, ap, sym, ◌∙◌, arith}
use Rattle.bus_word.specs.declared.cell.Cell.TheVariants.{OwnMode}
use Rattle.bus_word.specs.Status.{status_word}
use Rattle.bus_legal.specs.Description.{Description}
use Rattle.terminal_rules.specs.LookBack.{or_else}
use Rattle.terminal_rules.specs.SinceReset.{vector_word_set, bit_word_set}
use Rattle.terminal_exchanges.specs.Exchanges.{Exchange}
use Rattle.terminal_exchanges.specs.ExchangeLaws.{AreAnswered}
use Rattle.terminal_exchanges.specs.Distinguish.{TellsApart, mode_code, mode_code_with, acceptance_script, vector_script, bit_script}
use Rattle.terminal_exchanges.proofs.Distinguish.Commands.{IsTo, slots_for-own, code_to_own, code_to_own_with, moved}
use Rattle.terminal_exchanges.proofs.Distinguish.Last.{slot_at, apart_by_one, bits_in}
use Rattle.terminal_exchanges.proofs.Distinguish.Quiet.{plain}
use Rattle.terminal_exchanges.proofs.Distinguish.Own.{parts_by, own_sent, own_back, status_told}
use Rattle.terminal_exchanges.proofs.Distinguish.Said.{any, all_any, nothing_said}

-- 8: acceptance of dynamic bus control
pub acceptance_told : (a : ℕ) (x y : Bool) → status_word a (plain false false x) ≡ status_word a (plain false false y) → x ≡ y
acceptance_told a true true e = refl
acceptance_told a true false e = absurd (omega arith)
acceptance_told a false true e = absurd (omega arith)
acceptance_told a false false e = refl

acceptance_status : (P : Description) (x : Exchange) → P.address ≤ 30 → IsTo P.address (Some (OwnMode 0)) x → P.legal (OwnMode 0) ≡ true →
    bits_in (slot_at 0 P [] x) ≡ status_word P.address (plain false false P.accept)
acceptance_status P x low to legal =
    status_told P [] x (OwnMode 0) low to (λ _. refl) tt
    ∙ ap (λ l. status_word P.address (parts_by l P.accept)) legal

pub acceptance_tells : (P Q : Description) → P.address ≤ 30 → P.address ≡ Q.address → P.legal (OwnMode 0) ≡ true → Q.legal (OwnMode 0) ≡ true → P.accept ≢ Q.accept →
    TellsApart P Q (acceptance_script P.address)
acceptance_tells P Q low same p_legal q_legal other =
    let x : Exchange = mode_code P.address 0 in
    let to : IsTo P.address (Some (OwnMode 0)) x = code_to_own P.address 0 low refl in
    let low_q : Q.address ≤ 30 = omega arith in
    apart_by_one bits_in 0 P Q P.address (Some (OwnMode 0)) x (status_word P.address (plain false false P.accept)) (status_word P.address (plain false false Q.accept)) to (to.some_slots low)
    (acceptance_status P x low to p_legal)
    (acceptance_status Q x low_q (moved P.address Q.address (Some (OwnMode 0)) x same to) q_legal ∙ ap (λ a. status_word a (plain false false Q.accept)) (sym same))
    (λ e. other (acceptance_told P.address P.accept Q.accept e))

-- 9: the vector word is that of power-up
pub vector_sent : (P : Description) (xs : List Exchange) (x : Exchange) → P.address ≤ 30 → IsTo P.address (Some (OwnMode 16)) x → P.legal (OwnMode 16) ≡ true → AreAnswered P xs →
    bits_in (slot_at 1 P xs x) ≡ P.vector
vector_sent P xs x low to legal a =
    ap bits_in (own_sent P xs x (OwnMode 16) true 1 low to legal a refl)
    ∙ ap (λ o. or_else o P.vector)
    (own_back P (λ p. vector_word_set p.event) xs x (OwnMode 16) 1 low to legal a refl (λ k. refl) (λ d. refl) refl refl
    ∙ nothing_said P (λ p. vector_word_set p.event) (λ d. refl) (λ c. refl) (λ k. refl) any (λ x k p. refl) xs (all_any xs))

pub vector_tells : (P Q : Description) → P.address ≤ 30 → P.address ≡ Q.address → P.legal (OwnMode 16) ≡ true → Q.legal (OwnMode 16) ≡ true → P.vector ≢ Q.vector →
    TellsApart P Q (vector_script P.address)
vector_tells P Q low same p_legal q_legal other =
    let x : Exchange = mode_code_with 2 P.address 16 in
    let to : IsTo P.address (Some (OwnMode 16)) x = code_to_own_with 2 P.address 16 (omega arith) (omega arith) low refl in
    let low_q : Q.address ≤ 30 = omega arith in
    let two : x.slots ≡ 2 = slots_for-own P.address 2 low in
    apart_by_one bits_in 1 P Q P.address (Some (OwnMode 16)) x P.vector Q.vector to (omega arith)
    (vector_sent P [] x low to p_legal tt)
    (vector_sent Q [] x low_q (moved P.address Q.address (Some (OwnMode 16)) x same to) q_legal tt)
    other

-- 10: the BIT word is that of power-up
pub bit_sent : (P : Description) (xs : List Exchange) (x : Exchange) → P.address ≤ 30 → IsTo P.address (Some (OwnMode 19)) x → P.legal (OwnMode 19) ≡ true → AreAnswered P xs →
    bits_in (slot_at 1 P xs x) ≡ P.bit
bit_sent P xs x low to legal a =
    ap bits_in (own_sent P xs x (OwnMode 19) true 1 low to legal a refl)
    ∙ ap (λ o. or_else o P.bit)
    (own_back P (λ p. bit_word_set p.event) xs x (OwnMode 19) 1 low to legal a refl (λ k. refl) (λ d. refl) refl refl
    ∙ nothing_said P (λ p. bit_word_set p.event) (λ d. refl) (λ c. refl) (λ k. refl) any (λ x k p. refl) xs (all_any xs))

pub bit_tells : (P Q : Description) → P.address ≤ 30 → P.address ≡ Q.address → P.legal (OwnMode 19) ≡ true → Q.legal (OwnMode 19) ≡ true → P.bit ≢ Q.bit →
    TellsApart P Q (bit_script P.address)
bit_tells P Q low same p_legal q_legal other =
    let x : Exchange = mode_code_with 2 P.address 19 in
    let to : IsTo P.address (Some (OwnMode 19)) x = code_to_own_with 2 P.address 19 (omega arith) (omega arith) low refl in
    let low_q : Q.address ≤ 30 = omega arith in
    let two : x.slots ≡ 2 = slots_for-own P.address 2 low in
    apart_by_one bits_in 1 P Q P.address (Some (OwnMode 19)) x P.bit Q.bit to (omega arith)
    (bit_sent P [] x low to p_legal tt)
    (bit_sent Q [] x low_q (moved P.address Q.address (Some (OwnMode 19)) x same to) q_legal tt)
    other
