-- Each message stands once among all.
use Rattle.std.proofs.Common.{◌≡◌, ℕ, zero, suc, ◌+◌, ◌≤◌, Bool, true, false, ◌&&◌, ◌==◌, nat_le, nat_lt, cond, count_by, List, ◌++◌, map, flat_map, Option, Some, None, is_some, refl, ap, sym, ◌∙◌, arith}
use Rattle.std.specs.List.{range_with_len}
use Rattle.std.proofs.lemmas.Bool.{eqb-true}
use Rattle.std.proofs.lemmas.Bool.Decides.{nat_tests}
use Rattle.std.proofs.lemmas.List.Sums.{sum_by-cons, sum_by-append}
use Rattle.bus_word.specs.declared.cell.Cell.{Cell}
use Rattle.bus_word.specs.declared.cell.Cell.TheVariants.{OwnReceive, OwnTransmit, BroadReceive, OwnMode, BroadMode}
use Rattle.bus_word.specs.declared.mode.ModeRow.{ModeRow}
use Rattle.bus_word.specs.Cell.{is_data_place, is_allowed, allows_broadcast}
use Rattle.bus_word.specs.Mode.{mode_row}
use Rattle.bus_legal.proofs.TableSteps.{row_below}
use Rattle.terminal_rules.specs.WorkedExamples.Words.{same_cell}
use Rattle.message_names.specs.declared.counts.MessageKind.{MessageKind}
use Rattle.message_names.specs.declared.counts.MessageKind.TheVariants.{Receive, Transmit, BroadcastReceive}
use Rattle.recording_coverage.specs.Messages.{cell_at, mode_at, cells_at, cells_in, cells_of_codes, all_cells}

abbrev one : Bool → ℕ
one b = cond b 1 0

-- one number more
next : (q : Bool) (n a k : ℕ) → one (q && (n == a)) + one (q && (nat_le (a + 1) n && nat_lt n (a + 1 + k))) ≡ one (q && (nat_le a n && nat_lt n (a + suc k)))
next q n a k = by_test q (n == a) refl
  where
    by_test : (q b : Bool) → (n == a) ≡ b → one (q && b) + one (q && (nat_le (a + 1) n && nat_lt n (a + 1 + k))) ≡ one (q && (nat_le a n && nat_lt n (a + suc k)))
    by_test false b e = omega arith
    by_test true true e =
        let at : n ≡ a = eqb-true n a e in
        let later : (nat_le (a + 1) n && nat_lt n (a + 1 + k)) ≡ false = grind (arith, nat_tests) in
        let here : (nat_le a n && nat_lt n (a + suc k)) ≡ true = grind (arith, nat_tests) in
        ap (λ b. 1 + one b) later ∙ sym (ap one here)
    by_test true false e =
        let same : (nat_le (a + 1) n && nat_lt n (a + 1 + k)) ≡ (nat_le a n && nat_lt n (a + suc k)) = grind (arith, nat_tests) in
        zero_more (one (nat_le (a + 1) n && nat_lt n (a + 1 + k))) ∙ ap one same
      where
        zero_more : (m : ℕ) → 0 + m ≡ m
        zero_more m = omega arith

-- how often a test is passed by f of the numbers from a on, of which n alone can pass
in_range : {X : Type 0} (p : X → Bool) (f : ℕ → X) (q : Bool) (n : ℕ) → ((k : ℕ) → p (f k) ≡ (q && (n == k))) → (a k : ℕ) → count_by p (map f (range_with_len a k)) ≡ one (q && (nat_le a n && nat_lt n (a + k)))
in_range p f q n is a zero = let out : (nat_le a n && nat_lt n (a + 0)) ≡ false = grind (arith, nat_tests) in sym (ap (λ b. one (q && b)) out ∙ none q)
  where
    none : (b : Bool) → one (b && false) ≡ 0
    none true = refl
    none false = refl
in_range p f q n is a (suc k) =
    sum_by-cons (λ x. one (p x)) (f a) (map f (range_with_len (a + 1) k))
    ∙ (ap (λ b. one b + count_by p (map f (range_with_len (a + 1) k))) (is a)
    ∙ (ap (λ m. one (q && (n == a)) + m) (in_range p f q n is (a + 1) k) ∙ next q n a k))

-- the same of lists in which a test is passed once, in that of t
in_ranges : {X : Type 0} (p : X → Bool) (f : ℕ → List X) (q : Bool) (t : ℕ) → ((s : ℕ) → count_by p (f s) ≡ one (q && (t == s))) → (a k : ℕ) → count_by p (flat_map f (range_with_len a k)) ≡ one (q && (nat_le a t && nat_lt t (a + k)))
in_ranges p f q t is a zero = let out : (nat_le a t && nat_lt t (a + 0)) ≡ false = grind (arith, nat_tests) in sym (ap (λ b. one (q && b)) out ∙ none q)
  where
    none : (b : Bool) → one (b && false) ≡ 0
    none true = refl
    none false = refl
in_ranges p f q t is a (suc k) =
    sum_by-append (λ x. one (p x)) (f a) (flat_map f (range_with_len (a + 1) k))
    ∙ (ap (λ m. m + count_by p (flat_map f (range_with_len (a + 1) k))) (is a)
    ∙ (ap (λ m. one (q && (t == a)) + m) (in_ranges p f q t is (a + 1) k) ∙ next q t a k))

swap_tests : (a b : Bool) → one (a && b) ≡ one (b && a)
swap_tests true true = refl
swap_tests true false = refl
swap_tests false true = refl
swap_tests false false = refl

same_data : (kind : MessageKind) (t m s n : ℕ) → same_cell (cell_at kind t m) (cell_at kind s n) ≡ ((t == s) && (m == n))
same_data Receive t m s n = refl
same_data Transmit t m s n = refl
same_data BroadcastReceive t m s n = refl

data_once : (kind : MessageKind) (t m : ℕ) → is_data_place t m ≡ true → count_by (same_cell (cell_at kind t m)) (cells_in kind) ≡ 1
unfolding cells_in cells_at
data_once kind t m place =
    let count : (nat_le 1 m && nat_lt m (1 + 32)) ≡ true = grind (arith, nat_tests) in
    let subaddress : (nat_le 1 t && nat_lt t (1 + 30)) ≡ true = grind (arith, nat_tests) in
    in_ranges (same_cell (cell_at kind t m)) (λ s. map (cell_at kind s) (range_with_len 1 32)) (nat_le 1 m && nat_lt m (1 + 32)) t
    (λ s. in_range (same_cell (cell_at kind t m)) (cell_at kind s) (t == s) m (same_data kind t m s) 1 32 ∙ swap_tests (t == s) (nat_le 1 m && nat_lt m (1 + 32))) 1 30
    ∙ (λ j. one (count j && subaddress j))

data_none : (kind : MessageKind) (cell : Cell) → ((s n : ℕ) → same_cell cell (cell_at kind s n) ≡ false) → count_by (same_cell cell) (cells_in kind) ≡ 0
unfolding cells_in cells_at
data_none kind cell other =
    in_ranges (same_cell cell) (λ s. map (cell_at kind s) (range_with_len 1 32)) false 0 (λ s. in_range (same_cell cell) (cell_at kind s) false 0 (other s) 1 32) 1 30

codes_once : (broadcast : Bool) (c : ℕ) → c ≤ 31 → ((k : ℕ) → same_cell (mode_at broadcast c) (mode_at broadcast k) ≡ (c == k)) → count_by (same_cell (mode_at broadcast c)) (cells_of_codes broadcast) ≡ 1
unfolding cells_of_codes
codes_once broadcast c small same =
    let here : (nat_le 0 c && nat_lt c (0 + 32)) ≡ true = grind (arith, nat_tests) in
    in_range (same_cell (mode_at broadcast c)) (mode_at broadcast) true c same 0 32 ∙ ap one here

codes_none : (broadcast : Bool) (cell : Cell) → ((k : ℕ) → same_cell cell (mode_at broadcast k) ≡ false) → count_by (same_cell cell) (cells_of_codes broadcast) ≡ 0
unfolding cells_of_codes
codes_none broadcast cell other = in_range (same_cell cell) (mode_at broadcast) false 0 other 0 32

-- in all, by the parts
sums : (cell : Cell) (a b c d e : ℕ) → count_by (same_cell cell) (cells_in Receive) ≡ a → count_by (same_cell cell) (cells_in Transmit) ≡ b → count_by (same_cell cell) (cells_in BroadcastReceive) ≡ c
    → count_by (same_cell cell) (cells_of_codes false) ≡ d → count_by (same_cell cell) (cells_of_codes true) ≡ e → count_by (same_cell cell) all_cells ≡ (((a + b) + c) + d) + e
unfolding all_cells
sums cell a b c d e h1 h2 h3 h4 h5 =
    let p : Cell → ℕ = λ x. one (same_cell cell x) in
    let two : List Cell = cells_in Receive ++ cells_in Transmit in
    let three : List Cell = two ++ cells_in BroadcastReceive in
    let four : List Cell = three ++ cells_of_codes false in
    sum_by-append p four (cells_of_codes true)
    ∙ (ap (λ n. n + count_by (same_cell cell) (cells_of_codes true)) (sum_by-append p three (cells_of_codes false)
    ∙ ap (λ n. n + count_by (same_cell cell) (cells_of_codes false)) (sum_by-append p two (cells_in BroadcastReceive)
    ∙ ap (λ n. n + count_by (same_cell cell) (cells_in BroadcastReceive)) (sum_by-append p (cells_in Receive) (cells_in Transmit))))
    ∙ (λ j. (((h1 j + h2 j) + h3 j) + h4 j) + h5 j))

allowed_some : (o : Option ModeRow) → allows_broadcast o ≡ true → is_some o ≡ true
allowed_some None h = absurd (cc)
allowed_some (Some row) h = refl

small_code : (c : ℕ) → is_some (mode_row c) ≡ true → c ≤ 31
small_code c h = let below = row_below c h in omega (arith, below)

pub each_once : (cell : Cell) → is_allowed cell ≡ true → count_by (same_cell cell) all_cells ≡ 1
each_once (OwnReceive s n) h =
    let x = OwnReceive s n in
    sums x 1 0 0 0 0 (data_once Receive s n h) (data_none Transmit x (λ t m. refl)) (data_none BroadcastReceive x (λ t m. refl)) (codes_none false x (λ k. refl)) (codes_none true x (λ k. refl))
each_once (OwnTransmit s n) h =
    let x = OwnTransmit s n in
    sums x 0 1 0 0 0 (data_none Receive x (λ t m. refl)) (data_once Transmit s n h) (data_none BroadcastReceive x (λ t m. refl)) (codes_none false x (λ k. refl)) (codes_none true x (λ k. refl))
each_once (BroadReceive s n) h =
    let x = BroadReceive s n in
    sums x 0 0 1 0 0 (data_none Receive x (λ t m. refl)) (data_none Transmit x (λ t m. refl)) (data_once BroadcastReceive s n h) (codes_none false x (λ k. refl)) (codes_none true x (λ k. refl))
each_once (OwnMode c) h =
    let x = OwnMode c in
    sums x 0 0 0 1 0 (data_none Receive x (λ t m. refl)) (data_none Transmit x (λ t m. refl)) (data_none BroadcastReceive x (λ t m. refl)) (codes_once false c (small_code c h) (λ k. refl)) (codes_none true x (λ k. refl))
each_once (BroadMode c) h =
    let x = BroadMode c in
    sums x 0 0 0 0 1 (data_none Receive x (λ t m. refl)) (data_none Transmit x (λ t m. refl)) (data_none BroadcastReceive x (λ t m. refl)) (codes_none false x (λ k. refl)) (codes_once true c (small_code c (allowed_some (mode_row c) h)) (λ k. refl))
