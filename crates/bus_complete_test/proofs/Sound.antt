-- The exchanges of the complete test can come, have just the data words that their commands expect, and as many slots as
-- any reply to them needs.
use Rattle.std.proofs.Common.{◌≡◌, ℕ, suc, ◌+◌, ◌<◌, ◌≤◌, Bool, true, false, ◌==◌, if◌then◌else◌, Option, Some, None, is_some, [], ◌∷◌, ◌++◌, replicate, refl, ap, ◌∙◌, arith}
use Rattle.std.proofs.lemmas.List.{length-replicate}
use Rattle.bus_word.specs.declared.mode.ModeRow.{ModeRow}
use Rattle.bus_word.specs.declared.cell.Cell.{Cell}
use Rattle.bus_word.specs.declared.cell.Cell.TheVariants.{OwnReceive, OwnTransmit, BroadReceive, OwnMode, BroadMode}
use Rattle.bus_word.specs.Mode.{mode_row}
use Rattle.bus_word.specs.Cell.{is_data_place, cell_of, allows_broadcast}
use Rattle.bus_legal.specs.Description.{Description}
use Rattle.bus_legal.specs.Reach.{any_count, transmits_at, can_wrap}
use Rattle.terminal_rules.specs.Reply.{has_word, words_after_status}
use Rattle.bus_word.proofs.Places.{place_count}
use Rattle.terminal_exchanges.specs.Exchanges.{Exchange}
use Rattle.terminal_exchanges.specs.Distinguish.{all_terminals, slots_for, command_of, receive_zeros, transmit, mode_code, mode_code_with, ask, least_count, receives_own, receives_broadcast, receive_complement, shortest_transmit, sent_back}
use Rattle.terminal_exchanges.proofs.Distinguish.Commands.{IsTo, zeros_small, slots_for-own, receive_to_own, receive_to_all, transmit_from_own, code_to_own, code_to_own_with, code_to_all, ask_to_all, own_no_broadcast, scripted, small_code, row_of}
use Rattle.terminal_exchanges.proofs.Distinguish.Broadcast.{to_all}
use Rattle.terminal_exchanges.proofs.Distinguish.Held.{complement_to_own, complement_to_all}
use Rattle.terminal_exchanges.proofs.Distinguish.Reached.{IsReached, ComeBack, come_back}
use Rattle.bus_complete_test.specs.CompleteTest.{each_place, each_code, each_subaddress, option_tried, transmit_tried, receive_tried, code_slots, own_code_tried, broadcast_receive_tried, broadcast_code_tried, broadcasts_tried, wraparound_tried, tried}
use Rattle.bus_complete_test.proofs.SlotWalk.{slots_of, IsSound, AreSound, sound_join}
use Rattle.bus_complete_test.proofs.Played.{sound_each, sound_place}

own_sound : (a : ℕ) (cell : Cell) (x : Exchange) → a ≤ 30 → IsTo a (Some cell) x → suc (words_after_status (Some cell)) ≤ x.slots → IsSound x
own_sound a cell x low to few = record {
  whole = to.whole;
  small = to.small;
  words_small = to.words_small;
  enough =
      (let e : slots_of x.command ≡ suc (words_after_status (Some cell)) = (λ j. if own_no_broadcast a (Some cell) x low to j then 0 else suc (words_after_status (to.cell j))) in
      omega arith);
}

all_sound : (o : Option Cell) (x : Exchange) → IsTo all_terminals o x → IsSound x
all_sound o x to = record {
  whole = to.whole;
  small = to.small;
  words_small = to.words_small;
  enough = (let e : slots_of x.command ≡ 0 = ap (λ b. if b then 0 else suc (words_after_status (cell_of x.command))) (to_all x o to) in omega arith);
}

pub ask_to : (P : Description) → P.address ≤ 30 → IsTo P.address (Some (OwnMode 2)) (ask P.address)
ask_to P low = code_to_own P.address 2 low refl

ask_sound : (P : Description) → P.address ≤ 30 → IsSound (ask P.address)
ask_sound P low = own_sound P.address (OwnMode 2) (ask P.address) low (ask_to P low) ((ask_to P low).some_slots low)

pub option_sound : (P : Description) → P.address ≤ 30 → AreSound (option_tried P)
option_sound P low = (all_sound None (mode_code all_terminals 2) ask_to_all, (ask_sound P low, tt))

pub transmit_to : (P : Description) (s n : ℕ) → P.address ≤ 30 → is_data_place s n ≡ true → IsTo P.address (Some (OwnTransmit s n)) (transmit P.address s n (n + 1))
transmit_to P s n low place = let few : n ≤ 32 = place_count s n place in transmit_from_own P.address s n (n + 1) low place (omega arith) (omega arith)

pub transmit_sound : (P : Description) (s n : ℕ) → P.address ≤ 30 → is_data_place s n ≡ true → AreSound (transmit_tried P s n)
transmit_sound P s n low place = (own_sound P.address (OwnTransmit s n) (transmit P.address s n (n + 1)) low (transmit_to P s n low place) (omega arith), tt)

pub receive_zeros_to : (P : Description) (s n : ℕ) → P.address ≤ 30 → is_data_place s n ≡ true → IsTo P.address (Some (OwnReceive s n)) (receive_zeros P.address s n)
receive_zeros_to P s n low place = receive_to_own P.address s n (replicate n 0) low place (length-replicate n 0) (zeros_small n)

pub receive_sound : (P : Description) (s n : ℕ) → P.address ≤ 30 → is_data_place s n ≡ true → AreSound (receive_tried P s n)
receive_sound P s n low place =
    let to : IsTo P.address (Some (OwnReceive s n)) (receive_zeros P.address s n) = receive_zeros_to P s n low place in
    (own_sound P.address (OwnReceive s n) (receive_zeros P.address s n) low to (to.some_slots low), tt)

code_slots_few : (code : ℕ) → code_slots code ≤ 33
code_slots_few code = by_word (has_word code)
  where
    by_word : (b : Bool) → suc (if b then 1 else 0) ≤ 33
    by_word true = omega arith
    by_word false = omega arith

mode_slots : (slots a code : ℕ) → (mode_code_with slots a code).slots ≡ slots_for a slots
mode_slots slots a code = by_17 (code == 17)
  where
    by_17 : (b : Bool) → (let x : Exchange = if b then (record { command = command_of a 0 0 code; words = 0 ∷ []; slots = slots_for a slots }) else (record { command = command_of a 1 0 code; words = []; slots = slots_for a slots }) in x.slots ≡ slots_for a slots)
    by_17 true = refl
    by_17 false = refl

pub own_code_to : (P : Description) (code : ℕ) → P.address ≤ 30 → is_some (mode_row code) ≡ true → IsTo P.address (Some (OwnMode code)) (mode_code_with (code_slots code) P.address code)
own_code_to P code low known = code_to_own_with (code_slots code) P.address code (omega arith) (code_slots_few code) low known

pub own_code_slots : (P : Description) (code : ℕ) → P.address ≤ 30 → (mode_code_with (code_slots code) P.address code).slots ≡ code_slots code
own_code_slots P code low = mode_slots (code_slots code) P.address code ∙ slots_for-own P.address (code_slots code) low

pub own_code_sound : (P : Description) (code : ℕ) → P.address ≤ 30 → AreSound (own_code_tried P code)
own_code_sound P code low = by_known (is_some (mode_row code)) refl
  where
    by_known : (b : Bool) → is_some (mode_row code) ≡ b → AreSound (if b then mode_code_with (code_slots code) P.address code ∷ [] else [])
    by_known true known =
        let enough : (mode_code_with (code_slots code) P.address code).slots ≡ code_slots code = own_code_slots P code low in
        (own_sound P.address (OwnMode code) (mode_code_with (code_slots code) P.address code) low (own_code_to P code low known) (omega arith), tt)
    by_known false known = tt

pub zeros_to_all : (s n : ℕ) → is_data_place s n ≡ true → IsTo all_terminals (Some (BroadReceive s n)) (receive_zeros all_terminals s n)
zeros_to_all s n place = receive_to_all s n (replicate n 0) place (length-replicate n 0) (zeros_small n)

pub broadcast_receive_sound : (P : Description) (s n : ℕ) → P.address ≤ 30 → is_data_place s n ≡ true → AreSound (broadcast_receive_tried P s n)
broadcast_receive_sound P s n low place = (all_sound (Some (BroadReceive s n)) (receive_zeros all_terminals s n) (zeros_to_all s n place), (ask_sound P low, tt))

pub broadcast_code_sound : (P : Description) (code : ℕ) → P.address ≤ 30 → AreSound (broadcast_code_tried P code)
broadcast_code_sound P code low = by_allowed (allows_broadcast (mode_row code)) refl
  where
    by_allowed : (b : Bool) → allows_broadcast (mode_row code) ≡ b → AreSound (if b then mode_code all_terminals code ∷ ask P.address ∷ [] else [])
    by_allowed true allowed = (all_sound (Some (BroadMode code)) (mode_code all_terminals code) (code_to_all code allowed), (ask_sound P low, tt))
    by_allowed false allowed = tt

-- mode codes are below 32
pub code_below : (code : ℕ) → is_some (mode_row code) ≡ true → code < 0 + 32
code_below code known =
    let row : (row : ModeRow) × (mode_row code ≡ Some row) = row_of (mode_row code) known in
    let high : code ≤ 31 = small_code code (scripted code row.0 row.1).0 in
    omega arith

-- wraparound
pub own_back_sound : (P : Description) (s n m : ℕ) → P.address ≤ 30 → is_data_place s n ≡ true → is_data_place s m ≡ true → AreSound (receive_complement P s P.address n ∷ transmit P.address s m (m + 1) ∷ [])
own_back_sound P s n m low place place_m =
    let to : IsTo P.address (Some (OwnReceive s n)) (receive_complement P s P.address n) = complement_to_own P s n low place in
    (own_sound P.address (OwnReceive s n) (receive_complement P s P.address n) low to (to.some_slots low), transmit_sound P s m low place_m)

pub broadcast_back_sound : (P : Description) (s n m : ℕ) → P.address ≤ 30 → is_data_place s n ≡ true → is_data_place s m ≡ true → AreSound (receive_complement P s all_terminals n ∷ transmit P.address s m (m + 1) ∷ [])
broadcast_back_sound P s n m low place place_m =
    (all_sound (Some (BroadReceive s n)) (receive_complement P s all_terminals n) (complement_to_all P s n place), transmit_sound P s m low place_m)

back_sound : (P : Description) (s : ℕ) → IsReached P → can_wrap P s ≡ true → AreSound (sent_back P s)
back_sound P s p wraps = by_own (any_count (receives_own P s)) refl
  where
    back : ComeBack P s
    back = come_back P s wraps

    by_own : (b : Bool) → any_count (receives_own P s) ≡ b →
        AreSound ((if b then receive_complement P s P.address (least_count (receives_own P s)) else receive_complement P s all_terminals (least_count (receives_broadcast P s))) ∷ shortest_transmit P s ∷ [])
    by_own true e =
        let n : ℕ = least_count (receives_own P s) in
        let m : ℕ = least_count (transmits_at P s) in
        own_back_sound P s n m p.low (p.allowed (OwnReceive s n) (back.own e)) (p.allowed (OwnTransmit s m) back.sends)
    by_own false e =
        let n : ℕ = least_count (receives_broadcast P s) in
        let m : ℕ = least_count (transmits_at P s) in
        broadcast_back_sound P s n m p.low (p.allowed (BroadReceive s n) (back.heard e).1) (p.allowed (OwnTransmit s m) back.sends)

pub wraparound_sound : (P : Description) (s : ℕ) → IsReached P → AreSound (wraparound_tried P s)
wraparound_sound P s p = by_wraps (can_wrap P s) refl
  where
    by_wraps : (b : Bool) → can_wrap P s ≡ b → AreSound (if b then sent_back P s else [])
    by_wraps true wraps = back_sound P s p wraps
    by_wraps false wraps = tt

pub broadcast_receives_sound : (P : Description) → P.address ≤ 30 → AreSound (each_place (broadcast_receive_tried P))
broadcast_receives_sound P low = sound_place (broadcast_receive_tried P) (λ s n place. broadcast_receive_sound P s n low place)

pub broadcasts_sound : (P : Description) → P.address ≤ 30 → AreSound (broadcasts_tried P)
broadcasts_sound P low = by_option P.broadcast
  where
    by_option : (b : Bool) → AreSound (if b then each_place (broadcast_receive_tried P) ++ each_code (broadcast_code_tried P) else [])
    by_option true =
        sound_join (each_place (broadcast_receive_tried P)) (each_code (broadcast_code_tried P))
        (broadcast_receives_sound P low)
        (sound_each 0 32 (broadcast_code_tried P) (λ code from upto. broadcast_code_sound P code low))
    by_option false = tt

pub transmits_sound : (P : Description) → P.address ≤ 30 → AreSound (each_place (transmit_tried P))
transmits_sound P low = sound_place (transmit_tried P) (λ s n place. transmit_sound P s n low place)

pub receives_sound : (P : Description) → P.address ≤ 30 → AreSound (each_place (receive_tried P))
receives_sound P low = sound_place (receive_tried P) (λ s n place. receive_sound P s n low place)

pub own_codes_sound : (P : Description) → P.address ≤ 30 → AreSound (each_code (own_code_tried P))
own_codes_sound P low = sound_each 0 32 (own_code_tried P) (λ code from upto. own_code_sound P code low)

pub tried_sound : (P : Description) → IsReached P → AreSound (tried P)
tried_sound P p =
    sound_join (option_tried P) _ (option_sound P p.low)
    (sound_join (each_place (transmit_tried P)) _ (transmits_sound P p.low)
    (sound_join (each_place (receive_tried P)) _ (receives_sound P p.low)
    (sound_join (each_code (own_code_tried P)) _ (own_codes_sound P p.low)
    (sound_join (broadcasts_tried P) (each_subaddress (wraparound_tried P)) (broadcasts_sound P p.low)
    (sound_each 1 30 (wraparound_tried P) (λ s from upto. wraparound_sound P s p))))))
