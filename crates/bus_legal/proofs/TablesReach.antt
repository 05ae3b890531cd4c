-- What the masks say of what can be reached.
use Rattle.std.proofs.Common.{◌≡◌, ℕ, ◌-◌, ◌≤◌, Bool, true, false, ◌&&◌, ◌||◌, nat_le, List, get_or, replicate, refl, ap, ◌∙◌, arith}
use Rattle.std.proofs.lemmas.Bool.Decides.{nat_tests}
use Rattle.bus_word.specs.declared.cell.Cell.{Cell}
use Rattle.bus_word.specs.declared.cell.Cell.TheVariants.{OwnReceive, OwnTransmit, BroadReceive, OwnMode, BroadMode}
use Rattle.bus_word.specs.Cell.{is_data_place, allows_broadcast}
use Rattle.bus_word.specs.Mode.{mode_row}
use Rattle.bus_legal.specs.declared.tables.Tables.{Tables}
use Rattle.bus_legal.specs.Reach.{largest_count, any_count, is_heard}
use Rattle.bus_legal.specs.Tables.{has_count, tables_say, mask_at, largest_in, has_any, masks_wrap}
use Rattle.bus_legal.specs.Parts.{AreMasks}
use Rattle.bus_legal.proofs.Counts.{any_to-same, any_to-or, largest_to-same}
use Rattle.bus_word.proofs.Places.{place_low, place_high}
use Rattle.bus_legal.proofs.Places.{mask_from}
use Rattle.bus_legal.proofs.TableSteps.{zeros-bits}
use Rattle.bus_legal.proofs.TopBit.{has_count_of, zero-bit, any_count-mask}

-- a subaddress of data
abbrev pub is_subaddress : ℕ → Bool
is_subaddress s = nat_le 1 s && nat_le s 30

and-false : (t b : Bool) → (t ≡ true → b ≡ false) → (t && b) ≡ false
and-false true b h = h refl
and-false false b h = refl

-- without the broadcast tables no broadcast cell is legal, and all else as before
pub unheard-says : (t : Tables) (cell : Cell) → tables_say (record t { broadcast_receive = replicate 30 0; broadcast_mode = 0 }) cell ≡ (is_heard false cell && tables_say t cell)
unheard-says t (OwnReceive s n) = refl
unheard-says t (OwnTransmit s n) = refl
unheard-says t (OwnMode c) = refl
unheard-says t (BroadReceive s n) = and-false (is_data_place s n) _ (λ e. zeros-bits (s - 1) (n - 1) (place_low s n e) (place_high s n e))
unheard-says t (BroadMode c) = and-false (allows_broadcast (mode_row c)) _ (λ e. zero-bit c)

subaddress_from : (s : ℕ) → is_subaddress s ≡ true → 1 ≤ s
subaddress_from s place = grind (arith, nat_tests)

counted : (n : ℕ) → 1 ≤ n → n ≤ 32 → (nat_le 1 n && nat_le n 32) ≡ true
counted n low high = grind (arith, nat_tests)

said : (masks : List ℕ) (s n : ℕ) → is_subaddress s ≡ true → 1 ≤ n → n ≤ 32 → (is_data_place s n && has_count masks s n) ≡ has_count_of (get_or masks (s - 1) 0) n
said masks s n place low high = ap (λ b. (b && (nat_le 1 n && nat_le n 32)) && has_count masks s n) place ∙ ap (λ b. b && has_count masks s n) (counted n low high)

-- some word count is legal where the mask isn't 0
pub any_count-said : (masks : List ℕ) (s : ℕ) → is_subaddress s ≡ true → AreMasks masks →
    any_count (λ n. is_data_place s n && has_count masks s n) ≡ has_any (get_or masks (s - 1) 0)
unfolding any_count
any_count-said masks s place are =
    any_to-same 32 (λ n. is_data_place s n && has_count masks s n) (has_count_of (get_or masks (s - 1) 0)) (λ n low high. said masks s n place low high)
    ∙ any_count-mask (get_or masks (s - 1) 0) (are.fit (s - 1))

any_count-at : (masks : List ℕ) (s : ℕ) → is_subaddress s ≡ true → AreMasks masks → any_count (λ n. is_data_place s n && has_count masks s n) ≡ has_any (mask_at masks s)
any_count-at masks s place are = any_count-said masks s place are ∙ ap has_any (mask_from masks s (subaddress_from s place))

-- the largest legal word count is the largest in the mask
pub largest_count-said : (masks : List ℕ) (s : ℕ) → is_subaddress s ≡ true → largest_count (λ n. is_data_place s n && has_count masks s n) ≡ largest_in (get_or masks (s - 1) 0)
unfolding largest_count
largest_count-said masks s place =
    largest_to-same 32 (λ n. is_data_place s n && has_count masks s n) (has_count_of (get_or masks (s - 1) 0)) (λ n low high. said masks s n place low high)

any_count-or : (p q : ℕ → Bool) → any_count (λ n. p n || q n) ≡ (any_count p || any_count q)
unfolding any_count
any_count-or p q = any_to-or 32 p q

-- words can be received at a subaddress and transmitted from it where the masks are not 0
pub masks_wrap-said : (t : Tables) (s : ℕ) → is_subaddress s ≡ true → AreMasks t.own_receive → AreMasks t.own_transmit → AreMasks t.broadcast_receive →
    (any_count (λ n. tables_say t (OwnReceive s n) || tables_say t (BroadReceive s n)) && any_count (λ n. tables_say t (OwnTransmit s n))) ≡ masks_wrap t s
masks_wrap-said t s place own transmit broadcast =
    ap (λ b. b && any_count (λ n. tables_say t (OwnTransmit s n)))
    (any_count-or (λ n. tables_say t (OwnReceive s n)) (λ n. tables_say t (BroadReceive s n))
    ∙ (ap (λ b. b || any_count (λ n. tables_say t (BroadReceive s n))) (any_count-at t.own_receive s place own)
    ∙ ap (λ b. has_any (mask_at t.own_receive s) || b) (any_count-at t.broadcast_receive s place broadcast)))
    ∙ ap (λ b. (has_any (mask_at t.own_receive s) || has_any (mask_at t.broadcast_receive s)) && b) (any_count-at t.own_transmit s place transmit)
