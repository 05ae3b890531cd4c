-- The parts of a `Normal` and the reached part of a description.
use Rattle.std.proofs.Common.{◌≡◌, ℕ, zero, suc, ◌-◌, ◌≤◌, Bool, true, false, ◌&&◌, ◌||◌, cond, nat_le, nat_lt, get_or, refl, ap, sym, ◌∙◌, arith}
use Rattle.std.proofs.lemmas.Bool.Decides.{nat_tests}
use Rattle.bus_word.specs.Mode.{dynamic_bus_control, vector_word, bit_word}
use Rattle.bus_word.specs.declared.cell.Cell.{Cell}
use Rattle.bus_word.specs.declared.cell.Cell.TheVariants.{OwnReceive, OwnTransmit, BroadReceive, OwnMode}
use Rattle.bus_word.specs.Cell.{is_data_place}
use Rattle.bus_word.specs.Mask.{has_bit}
use Rattle.bus_legal.specs.Description.{Description, word_at}
use Rattle.bus_legal.specs.Reach.{largest_count, any_count, is_heard, transmits_at, can_wrap, can_transmit, reach}
use Rattle.bus_legal.specs.Tables.{tables_say, largest_in, masks_wrap}
use Rattle.bus_legal.specs.Parts.{Parts, description_in, AreMasks}
use Rattle.bus_legal.proofs.Bools.{left_of}
use Rattle.bus_legal.proofs.Counts.{sent_place}
use Rattle.bus_legal.proofs.Descriptions.{same_description, cond-none}
use Rattle.bus_word.proofs.Places.{place_from}
use Rattle.bus_legal.proofs.TablesReach.{is_subaddress, masks_wrap-said, largest_count-said}

-- how the parts were made of a description
pub record AreMadeOf (P : Description) (v : Parts) : Type 0 where
  pub address : v.address ≡ P.address
  pub broadcast : v.broadcast ≡ P.broadcast
  pub own_receive : AreMasks v.tables.own_receive
  pub own_transmit : AreMasks v.tables.own_transmit
  pub broadcast_receive : AreMasks v.tables.broadcast_receive
  pub legal : (cell : Cell) → tables_say v.tables cell ≡ (is_heard P.broadcast cell && P.legal cell)
  pub small : P.wrap ≤ 30
  pub wrap : v.wrap ≡ cond (masks_wrap v.tables P.wrap) P.wrap 0
  pub accept : v.accept ≡ (has_bit v.tables.own_mode dynamic_bus_control && P.accept)
  pub vector : v.vector ≡ cond (has_bit v.tables.own_mode vector_word) P.vector 0
  pub bit : v.bit ≡ cond (has_bit v.tables.own_mode bit_word) P.bit 0
  pub initial : (s i : ℕ) → is_data_place s i ≡ true →
      word_at v.initial s i ≡ cond (nat_lt (i - 1) (largest_in (get_or v.tables.own_transmit (s - 1) 0))) (P.initial s i) 0

-- wraparound by the masks and by the legal cells
wraps : (P : Description) (v : Parts) (s : ℕ) → is_subaddress s ≡ true → AreMadeOf P v → masks_wrap v.tables s ≡ can_wrap P s
wraps P v s place made =
    sym (masks_wrap-said v.tables s place made.own_receive made.own_transmit made.broadcast_receive)
    ∙ (λ j. any_count (λ n. made.legal (OwnReceive s n) j || made.legal (BroadReceive s n) j) && any_count (λ n. made.legal (OwnTransmit s n) j))

wrap_alike : (P : Description) (v : Parts) (s : ℕ) → s ≤ 30 → AreMadeOf P v → cond (masks_wrap v.tables s) s 0 ≡ cond (can_wrap P s) s 0
wrap_alike P v zero small made = cond-none (masks_wrap v.tables 0) 0 refl ∙ sym (cond-none (can_wrap P 0) 0 refl)
wrap_alike P v (suc s) small made = ap (λ b. cond b (suc s) 0) (wraps P v (suc s) (inside (suc s) (omega arith) small) made)
  where
    inside : (s : ℕ) → 1 ≤ s → s ≤ 30 → is_subaddress s ≡ true
    inside s low high = grind (arith, nat_tests)

-- the words that can be transmitted by the masks and by the legal cells
sent : (P : Description) (v : Parts) → AreMadeOf P v → (s i : ℕ) → is_data_place s i ≡ true →
    nat_lt (i - 1) (largest_in (get_or v.tables.own_transmit (s - 1) 0)) ≡ can_transmit P s i
sent P v made s i place =
    let most : largest_count (transmits_at P s) ≡ largest_in (get_or v.tables.own_transmit (s - 1) 0) =
    (λ j. largest_count (λ n. sym (made.legal (OwnTransmit s n)) j)) ∙ largest_count-said v.tables.own_transmit s (left_of _ _ place) in
    by_number (largest_in (get_or v.tables.own_transmit (s - 1) 0)) (place_from s i place) ∙ ap (λ n. nat_le 1 i && nat_le i n) (sym most)
  where
    by_number : (n : ℕ) → 1 ≤ i → nat_lt (i - 1) n ≡ (nat_le 1 i && nat_le i n)
    by_number n low = grind (arith, nat_tests)

unsent : (t : Bool) (word : ℕ) → (t ≡ true → false ≡ true) → 0 ≡ cond t word 0
unsent true word h = let wrong = h refl in cc
unsent false word h = refl

-- the description of parts that were made so is the reached part
pub description_in-made : (P : Description) (v : Parts) → AreMadeOf P v → description_in v ≡ reach P
description_in-made P v made = same_description (description_in v) (reach P) made.address made.broadcast
    (made.wrap ∙ wrap_alike P v P.wrap made.small made)
    (made.accept ∙ ap (λ b. b && P.accept) (made.legal (OwnMode dynamic_bus_control)))
    (made.vector ∙ ap (λ b. cond b P.vector 0) (made.legal (OwnMode vector_word)))
    (made.bit ∙ ap (λ b. cond b P.bit 0) (made.legal (OwnMode bit_word)))
    (λ s i. words s i (is_data_place s i) refl)
    made.legal
  where
    places : (s n : ℕ) → P.legal (OwnTransmit s n) ≡ true → is_data_place s n ≡ true
    places s n e = left_of (is_data_place s n) _ (made.legal (OwnTransmit s n) ∙ e)

    words : (s i : ℕ) (t : Bool) → is_data_place s i ≡ t → cond t (word_at v.initial s i) 0 ≡ cond (can_transmit P s i) (P.initial s i) 0
    words s i true place = made.initial s i place ∙ ap (λ b. cond b (P.initial s i) 0) (sent P v made s i place)
    words s i false place = unsent (can_transmit P s i) (P.initial s i) (λ e. sym place ∙ sent_place P places s i e)
