-- Exchanges that are put together to scripts.
use Rattle.std.proofs.Common.{◌≡◌, ℕ, zero, suc, ◌+◌, ◌-◌, ◌≤◌, true, ◌&&◌, nat_le, List, [], ◌∷◌, ◌++◌, replicate, get_or, sym, ap, ◌∙◌, arith}
use Rattle.bus_legal.specs.declared.tables.Tables.{Tables}
use Rattle.bus_legal.specs.Reach.{largest_count, transmits_at}
use Rattle.bus_legal.specs.Tables.{largest_in}
use Rattle.bus_legal.specs.Parts.{Parts, description_in}
use Rattle.bus_legal.proofs.TablesReach.{largest_count-said}
use Rattle.terminal_rules.specs.declared.event.Event.{Event}
use Rattle.terminal_exchanges.specs.Exchanges.{Exchange, exchange_then, script_of}
use Rattle.terminal_exchanges.specs.Distinguish.{receive, receive_zeros, transmit, initial_script}
use Rattle.terminal_exchanges.proofs.EventLaws.{exchange-append}

-- a script of two exchanges
pub script-of-two : (x y : Exchange) (none one two : List Event) → none ≡ [] → one ≡ none ++ exchange_then x [] → two ≡ one ++ exchange_then y [] → two ≡ script_of (x ∷ y ∷ [])
script-of-two x y none one two e f g =
    g
    ∙ (ap (λ es. es ++ exchange_then y []) (f ∙ ap (λ es. es ++ exchange_then x []) e)
    ∙ exchange-append x (exchange_then y []))

-- as many words of 0
all_zeros : (n : ℕ) → 1 ≤ n → ◌≡◌ {A = List ℕ} (0 ∷ replicate (n - 1) 0) (replicate n 0)
all_zeros zero low = absurd (omega arith)
all_zeros (suc n) low = let back : suc n - 1 ≡ n = omega arith in ap (λ k. 0 ∷ replicate k 0) back

pub received_zeros : (address s n : ℕ) → 1 ≤ n → receive address s n (0 ∷ replicate (n - 1) 0) ≡ receive_zeros address s n
received_zeros address s n low = ap (receive address s n) (all_zeros n low)

-- the words that are held at power-up, by the largest count of a mask
pub initial_shown : (v : Parts) (t : Tables) (own block s count : ℕ) (x : Exchange) (script : List Event) → t ≡ v.tables → own ≡ v.address → block ≡ s - 1 → nat_le 1 s && nat_le s 30 ≡ true →
    count ≡ largest_in (get_or t.own_transmit block 0) → x ≡ transmit own s count (count + 1) → script ≡ script_of (x ∷ []) → script ≡ initial_script (description_in v) s
initial_shown v t own block s count x script tables address at place e f g =
    let counted : count ≡ largest_count (transmits_at (description_in v) s) =
    e ∙ ((λ j. largest_in (get_or ((tables j).own_transmit) (at j) 0)) ∙ sym (largest_count-said v.tables.own_transmit s place)) in
    g ∙ (ap (λ x. script_of (x ∷ [])) f ∙ (λ j. script_of (transmit (address j) s (counted j) (counted j + 1) ∷ [])))
