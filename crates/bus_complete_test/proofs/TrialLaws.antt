-- The exchanges of a trial, before those of the later ones.
use Rattle.std.proofs.Common.{◌≡◌, ℕ, suc, ◌+◌, ◌-◌, ◌<◌, ◌≤◌, true, if◌then◌else◌, List, [], ◌++◌, refl, ap, sym, ◌∙◌, append_assoc, append-nil, arith}
use Rattle.std.proofs.lemmas.Bool.Decides.{nat_tests}
use Rattle.bus_word.specs.Cell.{is_data_place}
use Rattle.bus_legal.specs.Description.{Description}
use Rattle.bus_word.proofs.Places.{place_count}
use Rattle.terminal_exchanges.specs.Exchanges.{Exchange}
use Rattle.bus_complete_test.specs.CompleteTest.{each_in, each_place, each_code, each_subaddress, receive_tried, own_code_tried, broadcast_receive_tried, broadcast_code_tried, broadcasts_tried, wraparound_tried}
use Rattle.bus_complete_test.specs.declared.trial.Trial.{Trial}
use Rattle.bus_complete_test.specs.Trials.{tried_at, tried_from}
use Rattle.bus_complete_test.specs.Steps.{from_place, from_code}

pub by_trial : (P : Description) (trial other : Trial) (rest : List Exchange) → trial ≡ other → tried_from P other ≡ tried_at P other ++ rest → tried_from P trial ≡ tried_at P trial ++ rest
by_trial P trial other rest is e = ap (tried_from P) is ∙ (e ∙ ap (λ t. tried_at P t ++ rest) (sym is))

each_next : (first n next m : ℕ) (f : ℕ → List Exchange) → n ≡ suc m → next ≡ suc first → each_in first n f ≡ f first ++ each_in next m f
unfolding each_in
each_next first n next m f e g = ap (λ k. each_in first k f) e ∙ ap (λ k. f first ++ each_in k m f) (sym g)

each_over : (first n : ℕ) (f : ℕ → List Exchange) → n ≡ 0 → each_in first n f ≡ []
unfolding each_in
each_over first n f e = ap (λ k. each_in first k f) e

each_last : (first n : ℕ) (f : ℕ → List Exchange) → n ≡ 1 → each_in first n f ≡ f first
each_last first n f e = each_next first n (suc first) 0 f e refl ∙ (ap (λ xs. f first ++ xs) (each_over (suc first) 0 f refl) ∙ append-nil (f first))

-- of mode codes
pub code_next : (f : ℕ → List Exchange) (code : ℕ) → code < 31 → from_code f code ≡ f code ++ from_code f (code + 1)
code_next f code few = each_next code (32 - code) (code + 1) (32 - (code + 1)) f (omega arith) (omega arith)

pub code_last : (f : ℕ → List Exchange) (code : ℕ) → code < 32 → 31 ≤ code → from_code f code ≡ f code ++ []
code_last f code below end = each_last code (32 - code) f (omega arith) ∙ sym (append-nil (f code))

-- of subaddresses
pub subaddress_next : (f : ℕ → List Exchange) (s : ℕ) → s < 30 → each_in s (31 - s) f ≡ f s ++ each_in (s + 1) (31 - (s + 1)) f
subaddress_next f s few = each_next s (31 - s) (s + 1) (31 - (s + 1)) f (omega arith) (omega arith)

pub subaddress_last : (f : ℕ → List Exchange) (s : ℕ) → is_data_place s 1 ≡ true → 30 ≤ s → each_in s (31 - s) f ≡ f s ++ []
subaddress_last f s place end = each_last s (31 - s) f (at_end s place end) ∙ sym (append-nil (f s))
  where
    at_end : (s : ℕ) → is_data_place s 1 ≡ true → 30 ≤ s → 31 - s ≡ 1
    at_end s place end = grind (arith, nat_tests)

-- of places of data
pub place_first : (f : ℕ → ℕ → List Exchange) → each_place f ≡ from_place f 1 1
place_first f = each_next 1 30 2 29 (λ s. each_in 1 32 (f s)) refl refl

pub place_next : (f : ℕ → ℕ → List Exchange) (s n : ℕ) → n < 32 → from_place f s n ≡ f s n ++ from_place f s (n + 1)
place_next f s n few =
    let later : List Exchange = each_in (suc s) (30 - s) (λ t. each_in 1 32 (f t)) in
    let more : List Exchange = each_in (n + 1) (33 - (n + 1)) (f s) in
    ap (λ xs. xs ++ later) (each_next n (33 - n) (n + 1) (33 - (n + 1)) (f s) (omega arith) (omega arith)) ∙ append_assoc (f s n) more later

line_next : (f : ℕ → ℕ → List Exchange) (s t : ℕ) → t ≡ suc s → s < 30 → each_in (suc s) (30 - s) (λ t. each_in 1 32 (f t)) ≡ each_in 1 32 (f t) ++ each_in (suc t) (30 - t) (λ t. each_in 1 32 (f t))
line_next f s t e few =
    each_next (suc s) (30 - s) (suc t) (30 - t) (λ t. each_in 1 32 (f t)) (omega arith) (ap suc e)
    ∙ ap (λ k. each_in 1 32 (f k) ++ each_in (suc t) (30 - t) (λ t. each_in 1 32 (f t))) (sym e)

pub place_line : (f : ℕ → ℕ → List Exchange) (s n : ℕ) → is_data_place s n ≡ true → 32 ≤ n → s < 30 → from_place f s n ≡ f s n ++ from_place f (s + 1) 1
place_line f s n place last few =
    let high : n ≤ 32 = place_count s n place in
    (λ j. each_last n (33 - n) (f s) (omega arith) j ++ line_next f s (s + 1) (omega arith) few j)

pub place_last : (f : ℕ → ℕ → List Exchange) (s n : ℕ) → is_data_place s n ≡ true → 32 ≤ n → 30 ≤ s → from_place f s n ≡ f s n ++ []
place_last f s n place last end =
    let high : n ≤ 32 = place_count s n place in
    (λ j. each_last n (33 - n) (f s) (omega arith) j ++ each_over (suc s) (30 - s) (λ t. each_in 1 32 (f t)) (omega arith) j)

-- the last of its kind, with what comes after all of its kind
pub place_end : (f : ℕ → ℕ → List Exchange) (s n : ℕ) (rest : List Exchange) → from_place f s n ≡ f s n ++ [] → from_place f s n ++ rest ≡ f s n ++ rest
place_end f s n rest e = ap (λ xs. xs ++ rest) (e ∙ append-nil (f s n))

pub code_end : (f : ℕ → List Exchange) (code : ℕ) (rest : List Exchange) → from_code f code ≡ f code ++ [] → from_code f code ++ rest ≡ f code ++ rest
code_end f code rest e = ap (λ xs. xs ++ rest) (e ∙ append-nil (f code))

-- what is tried after all transmit commands, receive commands, own mode codes, and broadcast receive commands
abbrev pub after_transmits : Description → List Exchange
after_transmits P = each_place (receive_tried P) ++ (each_code (own_code_tried P) ++ (broadcasts_tried P ++ each_subaddress (wraparound_tried P)))

abbrev pub after_receives : Description → List Exchange
after_receives P = each_code (own_code_tried P) ++ (broadcasts_tried P ++ each_subaddress (wraparound_tried P))

abbrev pub after_codes : Description → List Exchange
after_codes P = broadcasts_tried P ++ each_subaddress (wraparound_tried P)

abbrev pub after_broadcast_receives : Description → List Exchange
after_broadcast_receives P = each_code (broadcast_code_tried P) ++ each_subaddress (wraparound_tried P)

pub receives_first : (P : Description) → after_transmits P ≡ from_place (receive_tried P) 1 1 ++ after_receives P
receives_first P = ap (λ xs. xs ++ after_receives P) (place_first (receive_tried P))

pub heard_first : (P : Description) → P.broadcast ≡ true → after_codes P ≡ from_place (broadcast_receive_tried P) 1 1 ++ after_broadcast_receives P
heard_first P hears =
    ap (λ b. (if b then each_place (broadcast_receive_tried P) ++ each_code (broadcast_code_tried P) else []) ++ each_subaddress (wraparound_tried P)) hears
    ∙ (append_assoc (each_place (broadcast_receive_tried P)) (each_code (broadcast_code_tried P)) (each_subaddress (wraparound_tried P))
    ∙ ap (λ xs. xs ++ after_broadcast_receives P) (place_first (broadcast_receive_tried P)))
