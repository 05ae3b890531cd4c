-- Parts within their ranges with one description are equal, and so are `Normal`s.
use Rattle.std.proofs.Common.{◌≡◌, ℕ, ◌+◌, ◌-◌, ◌<◌, ◌≤◌, ◌^◌, Bool, true, ◌&&◌, cond, bit_and, is_some, List, [], get_or, length, ap, sym, ◌∙◌, arith}
use Rattle.std.proofs.lemmas.Bool.{eqb-true}
use Rattle.std.proofs.lemmas.Bool.Decides.{nat_tests}
use Rattle.std.proofs.lemmas.List.{ext_get_or}
use Rattle.std.proofs.lemmas.Nat.{and_le_r}
use Rattle.bus_word.specs.declared.cell.Cell.{Cell}
use Rattle.bus_word.specs.declared.cell.Cell.TheVariants.{OwnReceive, OwnTransmit, BroadReceive, OwnMode, BroadMode}
use Rattle.bus_word.specs.Cell.{is_data_place, allows_broadcast}
use Rattle.bus_word.specs.Mode.{mode_row}
use Rattle.bus_word.specs.Mask.{has_bit}
use Rattle.bus_legal.specs.declared.tables.Tables.{Tables}
use Rattle.bus_legal.specs.Description.{word_at}
use Rattle.bus_legal.specs.Tables.{has_count, tables_say, is_own_mask, is_broadcast_mask}
use Rattle.bus_legal.specs.Parts.{Parts, description_in, AreMasks, AreWords, AreInRange, IsNormal}
use Rattle.bus_legal.proofs.Bits.{same_mask, has_bit-and}
use Rattle.bus_legal.proofs.Bools.{left_of}
use Rattle.bus_legal.proofs.TableSteps.{own_codes-bits, broadcast_codes-bits}

-- the place of data that stands so in tables
data_place : (s i : ℕ) → s < 30 → i < 32 → is_data_place (s + 1) (i + 1) ≡ true
data_place s i l k = grind (arith, nat_tests)

-- what is said at each place of data decides a table of masks
same_masks : (a b : List ℕ) → AreMasks a → AreMasks b → ((s n : ℕ) → (is_data_place s n && has_count a s n) ≡ (is_data_place s n && has_count b s n)) → a ≡ b
same_masks a b are be said = ext_get_or 0 a b (are.thirty ∙ sym be.thirty) (λ s l. same_mask (get_or a s 0) (get_or b s 0) (are.fit s) (be.fit s) (λ i k. bit s i (omega (arith, are.thirty)) k))
  where
    bit : (s i : ℕ) → s < 30 → i < 32 → has_bit (get_or a s 0) i ≡ has_bit (get_or b s 0) i
    bit s i l k =
        let place : is_data_place (s + 1) (i + 1) ≡ true = data_place s i l k in
        let row : s + 1 - 1 ≡ s = omega arith in
        let number : i + 1 - 1 ≡ i = omega arith in
        let at : (masks : List ℕ) → (is_data_place (s + 1) (i + 1) && has_count masks (s + 1) (i + 1)) ≡ has_bit (get_or masks s 0) i =
        (λ masks. ap (λ t. t && has_count masks (s + 1) (i + 1)) place ∙ (ap (λ r. has_bit (get_or masks r 0) (i + 1 - 1)) row ∙ ap (has_bit (get_or masks s 0)) number)) in
        sym (at a) ∙ (said (s + 1) (i + 1) ∙ at b)

-- what is held at each place of data decides a table of words
same_words : (a b : List (List ℕ)) → AreWords a → AreWords b → ((s i : ℕ) →
    cond (is_data_place s i) (word_at a s i) 0 ≡ cond (is_data_place s i) (word_at b s i) 0) → a ≡ b
same_words a b are be held = ext_get_or [] a b (are.thirty ∙ sym be.thirty) (λ s l. row s (omega (arith, are.thirty)))
  where
    word : (s i : ℕ) → s < 30 → i < 32 → get_or (get_or a s []) i 0 ≡ get_or (get_or b s []) i 0
    word s i l k =
        let place : is_data_place (s + 1) (i + 1) ≡ true = data_place s i l k in
        let row : s + 1 - 1 ≡ s = omega arith in
        let number : i + 1 - 1 ≡ i = omega arith in
        let at : (words : List (List ℕ)) → cond (is_data_place (s + 1) (i + 1)) (word_at words (s + 1) (i + 1)) 0 ≡ get_or (get_or words s []) i 0 =
        (λ words. ap (λ t. cond t (word_at words (s + 1) (i + 1)) 0) place ∙ (ap (λ r. get_or (get_or words r []) (i + 1 - 1) 0) row ∙ ap (λ n. get_or (get_or words s []) n 0) number)) in
        sym (at a) ∙ (held (s + 1) (i + 1) ∙ at b)

    row : (s : ℕ) → s < 30 → get_or a s [] ≡ get_or b s []
    row s l =
        let one : length (get_or a s []) ≡ 32 = (are.blocks s l).long in
        ext_get_or 0 (get_or a s []) (get_or b s []) (one ∙ sym (be.blocks s l).long) (λ i k. word s i l (omega (arith, one)))

-- a mask that has none but these bits
no_other : (mask codes : ℕ) (may_be : ℕ → Bool) → bit_and mask codes ≡ mask → ((c : ℕ) → c < 32 → has_bit codes c ≡ may_be c) → (c : ℕ) → c < 32 →
    has_bit mask c ≡ (may_be c && has_bit mask c)
no_other mask codes may_be e table c l = ap (λ m. has_bit m c) (sym e) ∙ (has_bit-and mask codes c ∙ ap (λ b. b && has_bit mask c) (table c l))

codes_below : (mask codes : ℕ) → bit_and mask codes ≡ mask → codes < 2 ^ 32 → mask < 2 ^ 32
codes_below mask codes e l = let below : bit_and mask codes ≤ codes = and_le_r mask codes in omega arith

-- what is said of each mode code that may be legal decides the mask of such codes
same_codes : (a b codes : ℕ) (may_be : ℕ → Bool) → codes < 2 ^ 32 → bit_and a codes ≡ a → bit_and b codes ≡ b → ((c : ℕ) → c < 32 →
    has_bit codes c ≡ may_be c) → ((c : ℕ) → (may_be c && has_bit a c) ≡ (may_be c && has_bit b c)) → a ≡ b
same_codes a b codes may_be l e f table said =
    same_mask a b (codes_below a codes e l) (codes_below b codes f l) (λ c k. no_other a codes may_be e table c k ∙ (said c ∙ sym (no_other b codes may_be f table c k)))

abbrev built : ℕ → Bool → ℕ → Bool → ℕ → ℕ → List (List ℕ) → Tables → Parts
built a b w c v t i l = record { address = a; broadcast = b; wrap = w; accept = c; vector = v; bit = t; initial = i; tables = l }

own_only : (mask : ℕ) → is_own_mask mask ≡ true → bit_and mask 0x000f01ff ≡ mask
own_only mask e = eqb-true (bit_and mask 0x000f01ff) mask (left_of _ _ e)

broadcast_only : (mask : ℕ) → is_broadcast_mask mask ≡ true → bit_and mask 0x000201fa ≡ mask
broadcast_only mask e = eqb-true (bit_and mask 0x000201fa) mask e

-- the ranges of a `Normal`
pub normal_in_range : (v : Parts) → IsNormal v → AreInRange v
normal_in_range v is = record {
  address = is.address;
  wrap = is.wrap;
  vector = is.vector;
  bit = is.bit;
  words = is.words;
  own_receive = is.own_receive;
  own_transmit = is.own_transmit;
  broadcast_receive = is.broadcast_receive;
  own_mode = own_only v.tables.own_mode is.own_mode;
  broadcast_mode = is.broadcast_mode;
}

pub same_in_range : (v w : Parts) → AreInRange v → AreInRange w → description_in v ≡ description_in w → v ≡ w
same_in_range v w is also same =
    let legal : (cell : Cell) → tables_say v.tables cell ≡ tables_say w.tables cell = (λ cell. ap (λ P. P.legal cell) same) in
    let receive : v.tables.own_receive ≡ w.tables.own_receive = same_masks _ _ is.own_receive also.own_receive (λ s n. legal (OwnReceive s n)) in
    let transmit : v.tables.own_transmit ≡ w.tables.own_transmit = same_masks _ _ is.own_transmit also.own_transmit (λ s n. legal (OwnTransmit s n)) in
    let broadcast : v.tables.broadcast_receive ≡ w.tables.broadcast_receive = same_masks _ _ is.broadcast_receive also.broadcast_receive (λ s n. legal (BroadReceive s n)) in
    let own_mode : v.tables.own_mode ≡ w.tables.own_mode =
    same_codes _ _ 0x000f01ff (λ c. is_some (mode_row c)) (omega arith) is.own_mode also.own_mode own_codes-bits (λ c. legal (OwnMode c)) in
    let broadcast_mode : v.tables.broadcast_mode ≡ w.tables.broadcast_mode =
    same_codes _ _ 0x000201fa (λ c. allows_broadcast (mode_row c)) (omega arith) (broadcast_only _ is.broadcast_mode) (broadcast_only _ also.broadcast_mode) broadcast_codes-bits (λ c. legal (BroadMode c)) in
    let words : v.initial ≡ w.initial = same_words _ _ is.words also.words (λ s i. ap (λ P. P.initial s i) same) in
    λ j. built ((same j).address) ((same j).broadcast) ((same j).wrap) ((same j).accept) ((same j).vector) ((same j).bit) (words j)
    (record { own_receive = receive j; own_transmit = transmit j; broadcast_receive = broadcast j; own_mode = own_mode j; broadcast_mode = broadcast_mode j })

pub same_normals : (v w : Parts) → IsNormal v → IsNormal w → description_in v ≡ description_in w → v ≡ w
same_normals v w is also same = same_in_range v w (normal_in_range v is) (normal_in_range w also) same
