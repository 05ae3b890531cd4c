-- How many events the complete test has.
use Rattle.std.proofs.Common.{◌≡◌, ℕ, zero, suc, ◌+◌, ◌-◌, ◌<◌, ◌≤◌, ◌==◌, Bool, true, false, if◌then◌else◌, is_some, List, [], ◌∷◌, ◌++◌, length, replicate, refl, arith}
use Rattle.std.proofs.lemmas.List.{length-replicate}
use Rattle.bus_word.specs.declared.cell.Cell.TheVariants.{OwnReceive, OwnTransmit, BroadReceive}
use Rattle.bus_word.specs.Mode.{mode_row}
use Rattle.bus_word.specs.Cell.{is_data_place, allows_broadcast}
use Rattle.bus_legal.specs.Description.{Description}
use Rattle.bus_legal.specs.Reach.{any_count, transmits_at, can_wrap}
use Rattle.bus_word.proofs.Places.{place_count}
use Rattle.terminal_exchanges.specs.Exchanges.{Exchange, script_of}
use Rattle.terminal_exchanges.specs.Distinguish.{all_terminals, slots_for, command_of, receive_zeros, mode_code, mode_code_with, ask, least_count, transmit, receives_own, receives_broadcast, receive_complement, shortest_transmit, sent_back}
use Rattle.terminal_exchanges.proofs.Distinguish.Last.{exchange_length}
use Rattle.terminal_exchanges.proofs.Distinguish.Held.{words_length}
use Rattle.terminal_exchanges.proofs.Distinguish.Reached.{IsReached, ComeBack, come_back}
use Rattle.bus_complete_test.specs.CompleteTest.{each_in, each_place, each_code, each_subaddress, option_tried, transmit_tried, receive_tried, code_slots, own_code_tried, broadcast_receive_tried, broadcast_code_tried, broadcasts_tried, wraparound_tried, tried, complete_test}
use Rattle.bus_complete_test.proofs.Played.{in_place}

-- the events of an exchange, and of some exchanges
abbrev events_of : Exchange → ℕ
events_of x = length x.words + x.slots + 2

abbrev events_in : List Exchange → ℕ
events_in [] = 0
events_in (x ∷ xs) = events_of x + events_in xs

script_length : (xs : List Exchange) → length (script_of xs) ≡ events_in xs
script_length [] = refl
script_length (x ∷ xs) =
    let rest : length (script_of xs) ≡ events_in xs = script_length xs in
    let here : length (script_of (x ∷ xs)) ≡ length x.words + x.slots + length (script_of xs) + 2 = exchange_length x (script_of xs) in
    omega arith

join_length : (xs ys : List Exchange) (m n : ℕ) → events_in xs ≤ m → events_in ys ≤ n → events_in (xs ++ ys) ≤ m + n
join_length [] ys m n a b = omega arith
join_length (x ∷ xs) ys m n a b = let rest : events_in (xs ++ ys) ≤ (m - events_of x) + n = join_length xs ys (m - events_of x) n (omega arith) b in omega arith

abbrev sum_in : ℕ → ℕ → (ℕ → ℕ) → ℕ
sum_in first zero g = 0
sum_in first (suc n) g = g first + sum_in (suc first) n g

each_length : (first n : ℕ) (f : ℕ → List Exchange) (g : ℕ → ℕ) → ((k : ℕ) → first ≤ k → k < first + n → events_in (f k) ≤ g k) → events_in (each_in first n f) ≤ sum_in first n g
unfolding each_in
each_length first zero f g few = omega arith
each_length first (suc n) f g few =
    join_length (f first) (each_in (suc first) n f) (g first) (sum_in (suc first) n g)
    (few first (omega arith) (omega arith)) (each_length (suc first) n f g (λ k from upto. few k (omega arith) (omega arith)))

place_length : (f : ℕ → ℕ → List Exchange) (g : ℕ → ℕ → ℕ) (h : ℕ) → ((s n : ℕ) → is_data_place s n ≡ true → events_in (f s n) ≤ g s n) → ((s : ℕ) → sum_in 1 32 (g s) ≡ h) → events_in (each_place f) ≤ sum_in 1 30 (λ s. h)
place_length f g h few same =
    each_length 1 30 (λ s. each_in 1 32 (f s)) (λ s. h) (λ s s_from s_upto. (
    let here : events_in (each_in 1 32 (f s)) ≤ sum_in 1 32 (g s) = each_length 1 32 (f s) (g s) (λ n n_from n_upto. few s n (in_place s n s_from s_upto n_from n_upto)) in
    let is : sum_in 1 32 (g s) ≡ h = same s in
    omega (arith, here, is)))

slots_few : (a n : ℕ) → slots_for a n ≤ n
slots_few a n = by_all (a == all_terminals)
  where
    by_all : (b : Bool) → (if b then 0 else n) ≤ n
    by_all true = omega arith
    by_all false = omega arith

ask_length : (a : ℕ) → events_of (ask a) ≤ 3
ask_length a = let few : slots_for a 1 ≤ 1 = slots_few a 1 in omega arith

option_length : (P : Description) → events_in (option_tried P) ≤ 5
option_length P = let few : events_of (ask P.address) ≤ 3 = ask_length P.address in omega arith

zeros_length : (a s n : ℕ) → events_of (receive_zeros a s n) ≤ n + slots_for a 1 + 2
zeros_length a s n = let zeros : List ℕ = replicate n 0 in let long : length zeros ≡ n = length-replicate n 0 in omega arith

-- a mode code
abbrev code_length : ℕ → ℕ → ℕ
code_length slots code = (if code == 17 then 1 else 0) + slots + 2

mode_length : (slots a code : ℕ) → events_of (mode_code_with slots a code) ≤ code_length (slots_for a slots) code
mode_length slots a code = by_17 (code == 17)
  where
    by_17 : (b : Bool) → (let x : Exchange = if b then (record { command = command_of a 0 0 code; words = 0 ∷ []; slots = slots_for a slots }) else (record { command = command_of a 1 0 code; words = []; slots = slots_for a slots }) in
        events_of x ≤ (if b then 1 else 0) + slots_for a slots + 2)
    by_17 true = omega arith
    by_17 false = omega arith

code_length_few : (slots n code : ℕ) → slots ≤ n → code_length slots code ≤ code_length n code
code_length_few slots n code few = omega arith

own_code_length : (P : Description) (code : ℕ) → events_in (own_code_tried P code) ≤ (if is_some (mode_row code) then code_length (code_slots code) code else 0)
own_code_length P code = by_known (is_some (mode_row code))
  where
    by_known : (b : Bool) → events_in (if b then mode_code_with (code_slots code) P.address code ∷ [] else []) ≤ (if b then code_length (code_slots code) code else 0)
    by_known true =
        let one : events_of (mode_code_with (code_slots code) P.address code) ≤ code_length (slots_for P.address (code_slots code)) code = mode_length (code_slots code) P.address code in
        let few : code_length (slots_for P.address (code_slots code)) code ≤ code_length (code_slots code) code =
        code_length_few (slots_for P.address (code_slots code)) (code_slots code) code (slots_few P.address (code_slots code)) in
        omega arith
    by_known false = omega arith

broadcast_code_length : (P : Description) (code : ℕ) → events_in (broadcast_code_tried P code) ≤ (if allows_broadcast (mode_row code) then code_length 0 code + 3 else 0)
broadcast_code_length P code = by_allowed (allows_broadcast (mode_row code))
  where
    by_allowed : (b : Bool) → events_in (if b then mode_code all_terminals code ∷ ask P.address ∷ [] else []) ≤ (if b then code_length 0 code + 3 else 0)
    by_allowed true =
        let one : events_of (mode_code all_terminals code) ≤ code_length 0 code = mode_length 1 all_terminals code in
        let few : events_of (ask P.address) ≤ 3 = ask_length P.address in
        omega arith
    by_allowed false = omega arith

broadcast_receive_length : (P : Description) (s n : ℕ) → events_in (broadcast_receive_tried P s n) ≤ n + 5
broadcast_receive_length P s n =
    let one : events_of (receive_zeros all_terminals s n) ≤ n + 0 + 2 = zeros_length all_terminals s n in
    let few : events_of (ask P.address) ≤ 3 = ask_length P.address in
    omega arith

broadcasts_length : (P : Description) → events_in (broadcasts_tried P) ≤ 20640 + 41
broadcasts_length P = by_option P.broadcast
  where
    by_option : (b : Bool) → events_in (if b then each_place (broadcast_receive_tried P) ++ each_code (broadcast_code_tried P) else []) ≤ 20640 + 41
    by_option true =
        join_length (each_place (broadcast_receive_tried P)) (each_code (broadcast_code_tried P)) 20640 41
        (place_length (broadcast_receive_tried P) (λ s n. n + 5) 688 (λ s n place. broadcast_receive_length P s n) (λ s. refl))
        (each_length 0 32 (broadcast_code_tried P) (λ code. if allows_broadcast (mode_row code) then code_length 0 code + 3 else 0) (λ code from upto. broadcast_code_length P code))
    by_option false = omega arith

back_length : (P : Description) (s to n m : ℕ) → is_data_place s n ≡ true → is_data_place s m ≡ true → events_in (receive_complement P s to n ∷ transmit P.address s m (m + 1) ∷ []) ≤ 70
back_length P s to n m place place_m =
    let long : length ((65535 - P.initial s 1) ∷ replicate (n - 1) 0) ≡ n = words_length s n (65535 - P.initial s 1) place in
    let few : slots_for to 1 ≤ 1 = slots_few to 1 in
    let n_few : n ≤ 32 = place_count s n place in
    let m_few : m ≤ 32 = place_count s m place_m in
    omega arith

wraparound_length : (P : Description) (s : ℕ) → IsReached P → events_in (wraparound_tried P s) ≤ 70
wraparound_length P s p = by_wraps (can_wrap P s) refl
  where
    by_own : ComeBack P s → (b : Bool) → any_count (receives_own P s) ≡ b →
        events_in ((if b then receive_complement P s P.address (least_count (receives_own P s)) else receive_complement P s all_terminals (least_count (receives_broadcast P s))) ∷ shortest_transmit P s ∷ []) ≤ 70
    by_own back true e =
        let n : ℕ = least_count (receives_own P s) in
        let m : ℕ = least_count (transmits_at P s) in
        back_length P s P.address n m (p.allowed (OwnReceive s n) (back.own e)) (p.allowed (OwnTransmit s m) back.sends)
    by_own back false e =
        let n : ℕ = least_count (receives_broadcast P s) in
        let m : ℕ = least_count (transmits_at P s) in
        back_length P s all_terminals n m (p.allowed (BroadReceive s n) (back.heard e).1) (p.allowed (OwnTransmit s m) back.sends)

    by_wraps : (b : Bool) → can_wrap P s ≡ b → events_in (if b then sent_back P s else []) ≤ 70
    by_wraps true wraps = by_own (come_back P s wraps) (any_count (receives_own P s)) refl
    by_wraps false wraps = omega arith

pub test_length : (P : Description) → IsReached P → length (complete_test P) ≤ 60269
test_length P p =
    let long : length (complete_test P) ≡ events_in (tried P) = script_length (tried P) in
    let few : events_in (tried P) ≤ 5 + (18720 + (18720 + (43 + (20681 + 2100)))) =
    join_length (option_tried P) _ 5 _ (option_length P)
    (join_length (each_place (transmit_tried P)) _ 18720 _ (place_length (transmit_tried P) (λ s n. n + 3) 624 (λ s n place. omega arith) (λ s. refl))
    (join_length (each_place (receive_tried P)) _ 18720 _ (place_length (receive_tried P) (λ s n. n + 3) 624 (λ s n place. receive_length P s n) (λ s. refl))
    (join_length (each_code (own_code_tried P)) _ 43 _
    (each_length 0 32 (own_code_tried P) (λ code. if is_some (mode_row code) then code_length (code_slots code) code else 0) (λ code from upto. own_code_length P code))
    (join_length (broadcasts_tried P) (each_subaddress (wraparound_tried P)) 20681 2100 (broadcasts_length P)
    (each_length 1 30 (wraparound_tried P) (λ s. 70) (λ s from upto. wraparound_length P s p)))))) in
    omega (arith, long, few)
  where
    receive_length : (P : Description) (s n : ℕ) → events_in (receive_tried P s n) ≤ n + 3
    receive_length P s n =
        let one : events_of (receive_zeros P.address s n) ≤ n + slots_for P.address 1 + 2 = zeros_length P.address s n in
        let few : slots_for P.address 1 ≤ 1 = slots_few P.address 1 in
        omega arith
