-- When two descriptions, or their reached parts, are equal.
use Rattle.std.proofs.Common.{◌≡◌, ℕ, ◌≤◌, ◌==◌, Bool, true, false, ◌&&◌, ◌||◌, cond, nat_le, refl, ap, sym, ◌∙◌, arith}
use Rattle.std.proofs.lemmas.Bool.{eqb-true}
use Rattle.std.proofs.lemmas.Bool.Decides.{nat_tests}
use Rattle.bus_word.specs.Mode.{dynamic_bus_control, vector_word, bit_word}
use Rattle.bus_word.specs.declared.cell.Cell.{Cell}
use Rattle.bus_word.specs.declared.cell.Cell.TheVariants.{OwnReceive, BroadReceive, OwnMode}
use Rattle.bus_legal.specs.Description.{Description}
use Rattle.bus_legal.specs.Reach.{largest_to, any_to, largest_count, any_count, is_heard, transmits_at, receives_at, can_wrap, can_transmit, reach}
use Rattle.bus_legal.proofs.Counts.{largest_to-bounds, any_to-true}

abbrev built : ℕ → Bool → ℕ → Bool → ℕ → ℕ → (ℕ → ℕ → ℕ) → (Cell → Bool) → Description
built address broadcast wrap accept vector bit initial legal = record { address = address; broadcast = broadcast; wrap = wrap; accept = accept; vector = vector; bit = bit; initial = initial; legal = legal }

-- descriptions that agree in each part are equal
pub same_description : (P Q : Description) → P.address ≡ Q.address → P.broadcast ≡ Q.broadcast → P.wrap ≡ Q.wrap → P.accept ≡ Q.accept →
    P.vector ≡ Q.vector → P.bit ≡ Q.bit →
    ((s i : ℕ) → P.initial s i ≡ Q.initial s i) → ((cell : Cell) → P.legal cell ≡ Q.legal cell) → P ≡ Q
same_description P Q address broadcast wrap accept vector bit initial legal =
    λ j. built (address j) (broadcast j) (wrap j) (accept j) (vector j) (bit j) (λ s i. initial s i j) (λ cell. legal cell j)

pub and-twice : (a b : Bool) → (a && (a && b)) ≡ (a && b)
and-twice true b = refl
and-twice false b = refl

cond-twice : (a : Bool) (n : ℕ) → cond a (cond a n 0) 0 ≡ cond a n 0
cond-twice true n = refl
cond-twice false n = refl

receives-reach : (P : Description) (s n : ℕ) → receives_at (reach P) s n ≡ receives_at P s n
receives-reach P s n = ap (λ b. P.legal (OwnReceive s n) || b) (and-twice P.broadcast (P.legal (BroadReceive s n)))

can_wrap-reach : (P : Description) (s : ℕ) → can_wrap (reach P) s ≡ can_wrap P s
can_wrap-reach P s = λ j. any_count (λ n. receives-reach P s n j) && any_count (transmits_at P s)

pub cond-none : (a : Bool) (n : ℕ) → n ≡ 0 → cond a n 0 ≡ 0
cond-none true n e = e
cond-none false n e = refl

wrap-twice : (P : Description) (b : Bool) → can_wrap P P.wrap ≡ b → cond (can_wrap P (cond b P.wrap 0)) (cond b P.wrap 0) 0 ≡ cond b P.wrap 0
wrap-twice P true e = ap (λ b. cond b P.wrap 0) e
wrap-twice P false e = cond-none (can_wrap P 0) 0 refl

-- to reach twice is to reach once
pub reach-reach : (P : Description) → reach (reach P) ≡ reach P
reach-reach P = same_description (reach (reach P)) (reach P) refl refl
    (ap (λ b. cond b (reach P).wrap 0) (can_wrap-reach P (reach P).wrap) ∙ wrap-twice P (can_wrap P P.wrap) refl)
    (and-twice (P.legal (OwnMode dynamic_bus_control)) P.accept)
    (cond-twice (P.legal (OwnMode vector_word)) P.vector)
    (cond-twice (P.legal (OwnMode bit_word)) P.bit)
    (λ s i. cond-twice (can_transmit P s i) (P.initial s i))
    (λ cell. and-twice (is_heard P.broadcast cell) (P.legal cell))

-- the words that a legal command asks for are reached
pub initial-reach : (P : Description) (s n i : ℕ) → transmits_at P s n ≡ true → n ≤ 32 → 1 ≤ i → i ≤ n → (reach P).initial s i ≡ P.initial s i
unfolding largest_count
initial-reach P s n i legal high from to =
    let most : n ≤ largest_to 32 (transmits_at P s) = largest_to-bounds 32 (transmits_at P s) n legal (omega arith) high in
    ap (λ t. cond t (P.initial s i) 0) (within i (largest_to 32 (transmits_at P s)) from (omega arith))
  where
    within : (i m : ℕ) → 1 ≤ i → i ≤ m → (nat_le 1 i && nat_le i m) ≡ true
    within i m low high = grind (arith, nat_tests)

-- wraparound is reached where legal commands show it
pub wrap-reach : (P : Description) (s m n : ℕ) → 1 ≤ s → receives_at P s m ≡ true → 1 ≤ m → m ≤ 32 → transmits_at P s n ≡ true → 1 ≤ n →
    n ≤ 32 → (s == (reach P).wrap) ≡ (s == P.wrap)
unfolding any_count
wrap-reach P s m n some receive low high transmit from to = by_place (s == P.wrap) refl
  where
    wraps : can_wrap P s ≡ true
    wraps =
        ap (λ t. t && any_to 32 (transmits_at P s)) (any_to-true 32 (receives_at P s) m receive low high)
        ∙ any_to-true 32 (transmits_at P s) n transmit from to

    other : (b : Bool) → (s == P.wrap) ≡ false → (s == cond b P.wrap 0) ≡ false
    other true e = e
    other false e = grind (arith, nat_tests)

    by_place : (b : Bool) → (s == P.wrap) ≡ b → (s == (reach P).wrap) ≡ b
    by_place true e = ap (λ t. s == cond t P.wrap 0) (ap (can_wrap P) (sym (eqb-true s P.wrap e)) ∙ wraps) ∙ e
    by_place false e = other (can_wrap P P.wrap) e
