-- The groups that are added say each told difference in a word count once.
use Rattle.std.proofs.Common.{◌≡◌, ◌≢◌, ℕ, zero, suc, ◌+◌, ◌-◌, ◌*◌, ◌%◌, ◌^◌, ◌≤◌, ◌<◌, Bool, true, false, not, ◌&&◌, ◌||◌, ◌==◌, nat_lt, cond, bit_or, get_or, drop, length, List, [], ◌∷◌, ◌++◌, map, refl, ap, sym, ◌∙◌, append_assoc, append-nil, arith}
use Rattle.std.specs.List.{filter, count_by}
use Rattle.std.specs.Int.{w32, trailing_zeros}
use Rattle.std.proofs.Math.Seq.{drop-cons}
use Rattle.std.proofs.lemmas.Bool.{eqb-true}
use Rattle.std.proofs.lemmas.Bool.Decides.{nat_tests}
use Rattle.std.proofs.lemmas.List.Elements.{All-nil, All-cons, All-append}
use Rattle.std.proofs.lemmas.List.Sums.{sum_by-append}
use Rattle.std.proofs.lemmas.Nat.Bits.{bit_at_set_same, bit_at_set_other, bit_at-trailing_zeros, bit_at-zero}
use Rattle.bus_word.specs.Cell.{is_data_place}
use Rattle.bus_word.specs.Mask.{has_bit}
use Rattle.bus_word.proofs.Places.{place_above, place_low, place_high}
use Rattle.bus_legal.specs.Parts.{Parts, IsNormal}
use Rattle.bus_legal.specs.Tables.{has_count}
use Rattle.bus_legal.specs.Reach.{any_to}
use Rattle.bus_legal.proofs.Bits.{has_bit-without}
use Rattle.bus_canon.specs.declared.difference.Difference.{Difference}
use Rattle.bus_canon.specs.Difference.{rank}
use Rattle.rt1553_differ.specs.Told.{unlike}
use Rattle.rt1553_differ.specs.Groups.{of_count, is_told_in, group_says, single, ShowsOwn, AreGroups}
use Rattle.rt1553_differ.specs.inner.Alone.{bits_alone, alone_mask, is_had, said_at, said_before, is_beside, singles, AddsGroups}
use Rattle.rt1553_differ.specs.declared.groups.CountKind.{CountKind}
use Rattle.rt1553_differ.specs.declared.groups.CountKind.TheVariants.{Receive, Transmit, Broadcast}
use Rattle.rt1553_differ.specs.declared.groups.Group.{Group}

abbrev one : Bool → ℕ
one b = cond b 1 0

-- a mask with the bit of one more subaddress
set_subaddress : (n s t : ℕ) → 1 ≤ s → s ≤ 30 → 1 ≤ t → has_bit (bit_or n (1 * 2 ^ (s - 1) % 2 ^ 32)) (t - 1) ≡ ((t == s) || has_bit n (t - 1))
set_subaddress n s t ls hs lt = by_same (t == s) refl
  where
    by_same : (b : Bool) → (t == s) ≡ b → has_bit (bit_or n (1 * 2 ^ (s - 1) % 2 ^ 32)) (t - 1) ≡ (b || has_bit n (t - 1))
    by_same true e =
        let at : t - 1 ≡ s - 1 = ap (λ x. x - 1) (eqb-true t s e) in
        ap (has_bit (bit_or n (1 * 2 ^ (s - 1) % 2 ^ 32))) at ∙ ap (λ x. x == 1) (bit_at_set_same w32 n (s - 1) (omega arith))
    by_same false e =
        let other : t - 1 ≢ s - 1 = λ same. (let is : t ≡ s = omega arith in absurd (grind (arith, nat_tests))) in
        ap (λ x. x == 1) (bit_at_set_other w32 n (s - 1) (omega arith) (t - 1) other)

pub set_at : (n s t k : ℕ) → k ≡ s - 1 → 1 ≤ s → s ≤ 30 → 1 ≤ t → has_bit (bit_or n (1 * 2 ^ k % 2 ^ 32)) (t - 1) ≡ ((t == s) || has_bit n (t - 1))
set_at n s t k e ls hs lt = ap (λ k. has_bit (bit_or n (1 * 2 ^ k % 2 ^ 32)) (t - 1)) e ∙ set_subaddress n s t ls hs lt

pub none_set : (t : ℕ) (e : Bool) → 1 ≤ t → has_bit 0 (t - 1) ≡ (nat_lt t 1 && e)
none_set t e l = let behind : nat_lt t 1 ≡ false = grind (arith, nat_tests) in ap (λ x. x == 1) (bit_at-zero (t - 1)) ∙ sym (ap (λ b. b && e) behind)

-- those before a number, and the number itself
pub one_more : (t s : ℕ) (e : ℕ → Bool) (old new : Bool) → old ≡ (nat_lt t s && e t) → new ≡ ((e s && (t == s)) || old) → new ≡ (nat_lt t (s + 1) && e t)
one_more t s e old new before now = now ∙ (ap (λ o. (e s && (t == s)) || o) before ∙ by_same (t == s) refl)
  where
    both : (x : Bool) → ((x && true) || false) ≡ x
    both true = refl
    both false = refl

    none : (x y : Bool) → ((x && false) || y) ≡ y
    none true y = refl
    none false y = refl

    by_same : (b : Bool) → (t == s) ≡ b → ((e s && (t == s)) || (nat_lt t s && e t)) ≡ (nat_lt t (s + 1) && e t)
    by_same true is =
        let at : t ≡ s = eqb-true t s is in
        let behind : nat_lt t s ≡ false = grind (arith, nat_tests) in
        let within : nat_lt t (s + 1) ≡ true = grind (arith, nat_tests) in
        ap (λ b. (e s && b) || (nat_lt t s && e t)) is ∙ (ap (λ b. (e s && true) || (b && e t)) behind ∙ (both (e s) ∙ (ap e (sym at) ∙ sym (ap (λ b. b && e t) within))))
    by_same false is =
        let same : nat_lt t s ≡ nat_lt t (s + 1) = grind (arith, nat_tests) in
        ap (λ b. (e s && b) || (nat_lt t s && e t)) is ∙ (none (e s) (nat_lt t s && e t) ∙ ap (λ b. b && e t) same)

pub all_set : (t : ℕ) (e : Bool) → t ≤ 30 → (s : ℕ) → 31 ≤ s → (nat_lt t s && e) ≡ e
all_set t e h s l = let within : nat_lt t s ≡ true = grind (arith, nat_tests) in ap (λ b. b && e) within

-- what a number has, some number up to a greater one has
pub had_at : (n : ℕ) (p : ℕ → Bool) (t : ℕ) → 1 ≤ t → t ≤ n → p t ≡ true → any_to n p ≡ true
had_at zero p t l h e = absurd (omega arith)
had_at (suc n) p t l h e = by_here (p (suc n)) refl (λ m. had_at n p t l m e)
  where
    by_here : (b : Bool) → p (suc n) ≡ b → (t ≤ n → any_to n p ≡ true) → (p (suc n) || any_to n p) ≡ true
    by_here true is later = ap (λ b. b || any_to n p) is
    by_here false is later =
        let other : t ≢ suc n = λ same. (let both : p t ≡ p (suc n) = ap p same in absurd (cc)) in
        ap (λ b. b || any_to n p) is ∙ later (omega arith)

pub is_equal : (a b x y : ℕ) → x ≡ a → y ≡ b → x ≡ y → (a == b) ≡ true
is_equal a b x y e f same = let at : a ≡ b = sym e ∙ (same ∙ f) in grind (arith, nat_tests)

pub is_other : (a b x y : ℕ) → x ≡ a → y ≡ b → x ≢ y → (a == b) ≡ false
is_other a b x y e f other = let at : a ≢ b = λ same. other (e ∙ (same ∙ sym f)) in grind (arith, nat_tests)

pub had_more : (p : ℕ → Bool) (t : ℕ) → 1 ≤ t → any_to (t - 1) p ≡ false → p t ≡ false → any_to (t + 1 - 1) p ≡ false
had_more p t l before here =
    let last : t + 1 - 1 ≡ suc (t - 1) = omega arith in
    let at : suc (t - 1) ≡ t = omega arith in
    ap (λ n. any_to n p) last ∙ (ap (λ n. p n || any_to (t - 1) p) at ∙ (ap (λ b. b || any_to (t - 1) p) here ∙ before))

pub place_of : (s n : ℕ) → 1 ≤ s → s ≤ 30 → 1 ≤ n → n ≤ 32 → is_data_place s n ≡ true
place_of s n a b c d = grind (arith, nat_tests)

-- the least word count of a mask
pub least_bit : (n k : ℕ) → k ≡ trailing_zeros w32 n → 0 < n → n < 2 ^ 32 → has_bit n (k + 1 - 1) ≡ true
least_bit n k e some fits =
    let at : k + 1 - 1 ≡ trailing_zeros w32 n = omega arith in
    ap (has_bit n) at ∙ ap (λ x. x == 1) (bit_at-trailing_zeros w32 n some fits).1

-- single differences, one more at a time
singles-cons : (v : Parts) (behind : Bool) (d : Difference) (ds : List Difference) → singles v behind (d ∷ ds) ≡ singles v behind (d ∷ []) ++ singles v behind ds
unfolding singles
singles-cons v behind d ds = by_kept (is_beside behind d)
  where
    by_kept : (k : Bool) → map (single v) (cond k (d ∷ filter (is_beside behind) ds) (filter (is_beside behind) ds)) ≡ map (single v) (cond k (d ∷ []) []) ++ map (single v) (filter (is_beside behind) ds)
    by_kept true = refl
    by_kept false = refl

pub singles_step : (v : Parts) (behind : Bool) (ds : List Difference) (i : ℕ) (d : Difference) (old new all : List Group) → i < length ds
    → new ≡ old ++ singles v behind (get_or ds i d ∷ []) → old ++ singles v behind (drop i ds) ≡ all → new ++ singles v behind (drop (i + 1) ds) ≡ all
singles_step v behind ds i d old new all l added kept =
    let next : suc i ≡ i + 1 = omega arith in
    let here : singles v behind (drop i ds) ≡ singles v behind (get_or ds i d ∷ []) ++ singles v behind (drop (i + 1) ds) =
    ap (singles v behind) (drop-cons ds i d l) ∙ (singles-cons v behind (get_or ds i d) (drop (suc i) ds) ∙ ap (λ n. singles v behind (get_or ds i d ∷ []) ++ singles v behind (drop n ds)) next) in
    ap (λ xs. xs ++ singles v behind (drop (i + 1) ds)) added
    ∙ (append_assoc old (singles v behind (get_or ds i d ∷ [])) (singles v behind (drop (i + 1) ds)) ∙ (ap (λ xs. old ++ xs) (sym here) ∙ kept))

pub singles_end : (v : Parts) (behind : Bool) (xs : List Group) (rest : List Difference) → rest ≡ [] → xs ++ singles v behind rest ≡ xs
unfolding singles
singles_end v behind xs rest e = ap (λ ds. xs ++ singles v behind ds) e ∙ append-nil xs

-- kinds by their ranks
same_kind : (kind : CountKind) (s n t m : ℕ) → (rank (of_count kind s n) == rank (of_count kind t m)) ≡ true
same_kind Receive s n t m = refl
same_kind Transmit s n t m = refl
same_kind Broadcast s n t m = refl

other_kind : (kind other : CountKind) (s n t m : ℕ) → (other ≡ kind → ⊥) → (rank (of_count kind s n) == rank (of_count other t m)) ≡ false
other_kind Receive Receive s n t m h = absurd (h refl)
other_kind Receive Transmit s n t m h = refl
other_kind Receive Broadcast s n t m h = refl
other_kind Transmit Receive s n t m h = refl
other_kind Transmit Transmit s n t m h = absurd (h refl)
other_kind Transmit Broadcast s n t m h = refl
other_kind Broadcast Receive s n t m h = refl
other_kind Broadcast Transmit s n t m h = refl
other_kind Broadcast Broadcast s n t m h = absurd (h refl)

count-append : (p : Group → Bool) (xs ys : List Group) → count_by p (xs ++ ys) ≡ count_by p xs + count_by p ys
count-append p xs ys = sum_by-append (λ x. cond (p x) 1 0) xs ys

nothing_more : (x : Bool) → one x + 0 ≡ one x
nothing_more true = refl
nothing_more false = refl

-- nothing is added
pub adds_none : (kind : CountKind) (xs : List Group) (wanted : Bool → ℕ → ℕ → Bool) → ((f : Bool) (s n : ℕ) → is_data_place s n ≡ true → wanted f s n ≡ false) → AddsGroups kind xs xs wanted
adds_none kind xs wanted h = record {
  groups = [];
  added = sym (append-nil xs);
  own = All-nil ShowsOwn;
  each = λ f s n place. sym (ap one (h f s n place));
  alone = λ f s n other place differ. refl;
}

only : (x : Bool) → 0 + one x ≡ one x
only true = refl
only false = refl

-- one group is added
pub adds_one : (kind : CountKind) (xs : List Group) (g : Group) (s n : ℕ) (wanted : Bool → ℕ → ℕ → Bool) → g.difference ≡ of_count kind s n → is_data_place s n ≡ true → wanted g.in_first s n ≡ true
    → ((f : Bool) (s n : ℕ) → is_data_place s n ≡ true → group_says kind f s n g ≡ wanted f s n) → AddsGroups kind xs (xs ++ g ∷ []) wanted
adds_one kind xs g s n wanted is at here h = record {
  groups = g ∷ [];
  added = refl;
  own = All-cons ShowsOwn g [] (kind, s, n, is, at, h g.in_first s n at ∙ here) (All-nil ShowsOwn);
  each = λ f t m place. only (group_says kind f t m g) ∙ ap one (h f t m place);
  alone = λ f t m other place differ. (
      let none : (rank g.difference == rank (of_count other t m)) ≡ false = ap (λ d. rank d == rank (of_count other t m)) is ∙ other_kind kind other s n t m differ in
      let says_none : group_says other f t m g ≡ false = ap (λ b. (b && not (unlike g.in_first f)) && (has_bit g.subaddresses (t - 1) && has_bit g.counts (m - 1))) none in
      only (group_says other f t m g) ∙ ap one says_none);
}

-- some are added, and then others
pub adds_then : (kind : CountKind) (a b c : List Group) (before after all : Bool → ℕ → ℕ → Bool) → AddsGroups kind a b before → AddsGroups kind b c after
    → ((f : Bool) (s n : ℕ) → is_data_place s n ≡ true → cond (before f s n) 1 0 + cond (after f s n) 1 0 ≡ cond (all f s n) 1 0) → AddsGroups kind a c all
adds_then kind a b c before after all x y h = record {
  groups = x.groups ++ y.groups;
  added = y.added ∙ (ap (λ xs. xs ++ y.groups) x.added ∙ append_assoc a x.groups y.groups);
  own = All-append ShowsOwn x.groups y.groups x.own y.own;
  each = λ f s n place. (count-append (group_says kind f s n) x.groups y.groups ∙ ((λ j. x.each f s n place j + y.each f s n place j) ∙ h f s n place));
  alone = λ f s n other place differ. (count-append (group_says other f s n) x.groups y.groups ∙ (λ j. x.alone f s n other place differ j + y.alone f s n other place differ j));
}

pub adds_as : (kind : CountKind) (a b : List Group) (said wanted : Bool → ℕ → ℕ → Bool) → AddsGroups kind a b said → ((f : Bool) (s n : ℕ) → is_data_place s n ≡ true → said f s n ≡ wanted f s n) → AddsGroups kind a b wanted
adds_as kind a b said wanted x h = record {
  groups = x.groups;
  added = x.added;
  own = x.own;
  each = λ f s n place. x.each f s n place ∙ ap one (h f s n place);
  alone = x.alone;
}

-- one more subaddress
step_truth : (h x : Bool) → one (h && x) + one (not h && (true && x)) ≡ one (true && x)
step_truth true true = refl
step_truth true false = refl
step_truth false true = refl
step_truth false false = refl

step_none : (h x k : Bool) → one (h && x) + one (not k && false) ≡ one (h && x)
step_none true true true = refl
step_none true true false = refl
step_none true false true = refl
step_none true false false = refl
step_none false x true = refl
step_none false x false = refl

core : (A : ℕ → ℕ) (k t m : ℕ) → one (is_had A k (A t) && has_bit (A t) m) + one (not (is_had A k (A (suc k))) && ((A (suc k) == A t) && has_bit (A (suc k)) m)) ≡ one (is_had A (suc k) (A t) && has_bit (A t) m)
core A k t m = by_same (A (suc k) == A t) refl
  where
    by_same : (b : Bool) → (A (suc k) == A t) ≡ b → one (is_had A k (A t) && has_bit (A t) m) + one (not (is_had A k (A (suc k))) && ((A (suc k) == A t) && has_bit (A (suc k)) m)) ≡ one (((A (suc k) == A t) || is_had A k (A t)) && has_bit (A t) m)
    by_same true is =
        let e : A (suc k) ≡ A t = eqb-true (A (suc k)) (A t) is in
        ap (λ b. one (is_had A k (A t) && has_bit (A t) m) + one (not (is_had A k (A (suc k))) && (b && has_bit (A (suc k)) m))) is
        ∙ (ap (λ y. one (is_had A k (A t) && has_bit (A t) m) + one (not (is_had A k y) && (true && has_bit y m))) e
        ∙ (step_truth (is_had A k (A t)) (has_bit (A t) m) ∙ sym (ap (λ b. one ((b || is_had A k (A t)) && has_bit (A t) m)) is)))
    by_same false is =
        ap (λ b. one (is_had A k (A t) && has_bit (A t) m) + one (not (is_had A k (A (suc k))) && (b && has_bit (A (suc k)) m))) is
        ∙ (step_none (is_had A k (A t)) (has_bit (A t) m) (is_had A k (A (suc k))) ∙ sym (ap (λ b. one ((b || is_had A k (A t)) && has_bit (A t) m)) is))

core_at : (A : ℕ → ℕ) (s t m : ℕ) → 1 ≤ s → one (is_had A (s - 1) (A t) && has_bit (A t) m) + one (not (is_had A (s - 1) (A s)) && ((A s == A t) && has_bit (A s) m)) ≡ one (is_had A (s + 1 - 1) (A t) && has_bit (A t) m)
core_at A s t m l =
    let at : s ≡ suc (s - 1) = omega arith in
    let last : s + 1 - 1 ≡ suc (s - 1) = omega arith in
    ap (λ r. one (is_had A (s - 1) (A t) && has_bit (A t) m) + one (not (is_had A (s - 1) (A r)) && ((A r == A t) && has_bit (A r) m))) at
    ∙ (core A (s - 1) t m ∙ sym (ap (λ r. one (is_had A r (A t) && has_bit (A t) m)) last))

-- after the first terminal's group of a subaddress
abbrev between : (Bool → ℕ → ℕ) → ℕ → Bool → ℕ → ℕ → Bool
between masks s true t n = said_before masks (s + 1) true t n
between masks s false t n = said_before masks s false t n

pub both_sides : (kind : CountKind) (masks : Bool → ℕ → ℕ) (s : ℕ) (a b c d : List Group) → 1 ≤ s → AddsGroups kind a b (said_before masks s) → AddsGroups kind b c (said_at masks true s) → AddsGroups kind c d (said_at masks false s)
    → AddsGroups kind a d (said_before masks (s + 1))
both_sides kind masks s a b c d l x y z = adds_then kind a c d (between masks s) (said_at masks false s) (said_before masks (s + 1)) (adds_then kind a b c (said_before masks s) (said_at masks true s) (between masks s) x y first) z second
  where
    first : (f : Bool) (t n : ℕ) → is_data_place t n ≡ true → one (said_before masks s f t n) + one (said_at masks true s f t n) ≡ one (between masks s f t n)
    first true t n place = core_at (masks true) s t (n - 1) l
    first false t n place = nothing_more (said_before masks s false t n)

    second : (f : Bool) (t n : ℕ) → is_data_place t n ≡ true → one (between masks s f t n) + one (said_at masks false s f t n) ≡ one (said_before masks (s + 1) f t n)
    second true t n place = nothing_more (said_before masks (s + 1) true t n)
    second false t n place = core_at (masks false) s t (n - 1) l

pub none_before : (kind : CountKind) (masks : Bool → ℕ → ℕ) (xs : List Group) → AddsGroups kind xs xs (said_before masks 1)
none_before kind masks xs = adds_none kind xs (said_before masks 1) (λ f t n place. refl)

-- what the group of a subaddress says
unlike_self : (b : Bool) → unlike b b ≡ false
unlike_self true = refl
unlike_self false = refl

said_truth : (k u h x y : Bool) → k ≡ true → h ≡ false → ((k && u) && (x && y)) ≡ (u && (not h && (x && y)))
said_truth true true false x y e f = refl
said_truth true false false x y e f = refl
said_truth true u true x y e f = absurd (cc)
said_truth false u h x y e f = absurd (cc)

pub adds_group : (kind : CountKind) (masks : Bool → ℕ → ℕ) (first : Bool) (s n : ℕ) (xs : List Group) (g : Group) → is_data_place s n ≡ true
    → g.difference ≡ of_count kind s n → g.in_first ≡ first → g.counts ≡ masks first s → has_bit g.counts (n - 1) ≡ true
    → ((t : ℕ) → 1 ≤ t → t ≤ 30 → has_bit g.subaddresses (t - 1) ≡ (g.counts == masks first t)) → true ≡ not (is_had (masks first) (s - 1) (masks first s))
    → AddsGroups kind xs (xs ++ g ∷ []) (said_at masks first s)
adds_group kind masks first s n xs g at is side mask has alike new = adds_one kind xs g s n (said_at masks first s) is at here all
  where
    unhad : is_had (masks first) (s - 1) (masks first s) ≡ false
    unhad = by_truth (is_had (masks first) (s - 1) (masks first s)) new
      where
        by_truth : (b : Bool) → true ≡ not b → b ≡ false
        by_truth false e = refl
        by_truth true e = absurd (cc)

    here : said_at masks first s g.in_first s n ≡ true
    here =
        let own : unlike first g.in_first ≡ false = ap (unlike first) side ∙ unlike_self first in
        let same : (masks first s == masks first s) ≡ true = is_equal (masks first s) (masks first s) (masks first s) (masks first s) refl refl refl in
        let bit : has_bit (masks first s) (n - 1) ≡ true = ap (λ m. has_bit m (n - 1)) (sym mask) ∙ has in
        λ j. not (own j) && (not (unhad j) && (same j && bit j))

    swap : (a b : Bool) → unlike a b ≡ unlike b a
    swap true true = refl
    swap true false = refl
    swap false true = refl
    swap false false = refl

    all : (f : Bool) (t m : ℕ) → is_data_place t m ≡ true → group_says kind f t m g ≡ said_at masks first s f t m
    all f t m place =
        let low : 1 ≤ t = place_above t m place in
        let small : t - 1 < 30 = place_low t m place in
        let kinds : (rank g.difference == rank (of_count kind t m)) ≡ true = ap (λ d. rank d == rank (of_count kind t m)) is ∙ same_kind kind s n t m in
        let sides : unlike g.in_first f ≡ unlike first f = ap (λ b. unlike b f) side in
        let places : has_bit g.subaddresses (t - 1) ≡ (masks first s == masks first t) = alike t low (omega arith) ∙ ap (λ m. m == masks first t) mask in
        let counts : has_bit g.counts (m - 1) ≡ has_bit (masks first s) (m - 1) = ap (λ x. has_bit x (m - 1)) mask in
        (λ j. ((rank g.difference == rank (of_count kind t m)) && not (sides j)) && (places j && counts j))
        ∙ said_truth (rank g.difference == rank (of_count kind t m)) (not (unlike first f)) (is_had (masks first) (s - 1) (masks first s)) (masks first s == masks first t) (has_bit (masks first s) (m - 1)) kinds unhad

-- where no group of a subaddress is added, there is nothing to say
pub adds_nothing : (kind : CountKind) (masks : Bool → ℕ → ℕ) (first : Bool) (s : ℕ) (xs : List Group) → masks first s ≡ 0 → AddsGroups kind xs xs (said_at masks first s)
adds_nothing kind masks first s xs none = adds_none kind xs (said_at masks first s) (λ f t n place.
    (let bit : has_bit (masks first s) (n - 1) ≡ false = ap (λ m. has_bit m (n - 1)) none ∙ ap (λ x. x == 1) (bit_at-zero (n - 1)) in
    ap (λ b. not (unlike first f) && (not (is_had (masks first) (s - 1) (masks first s)) && ((masks first s == masks first t) && b))) bit
    ∙ falls (not (unlike first f)) (not (is_had (masks first) (s - 1) (masks first s))) (masks first s == masks first t)))
  where
    falls : (a b c : Bool) → (a && (b && (c && false))) ≡ false
    falls true true true = refl
    falls true true false = refl
    falls true false c = refl
    falls false b c = refl

pub adds_no_more : (kind : CountKind) (masks : Bool → ℕ → ℕ) (first : Bool) (s : ℕ) (xs : List Group) → false ≡ not (is_had (masks first) (s - 1) (masks first s)) → AddsGroups kind xs xs (said_at masks first s)
adds_no_more kind masks first s xs had = adds_none kind xs (said_at masks first s) (λ f t n place.
    (ap (λ b. not (unlike first f) && (b && ((masks first s == masks first t) && has_bit (masks first s) (n - 1)))) (sym had) ∙ falls (not (unlike first f))))
  where
    falls : (a : Bool) → (a && false) ≡ false
    falls true = refl
    falls false = refl

-- the bits of the masks are what is told
alone_truth : (x y f : Bool) (a b : ℕ) (m : ℕ) → a < 2 ^ 32 → b < 2 ^ 32 → m < 32 → has_bit a m ≡ x → has_bit b m ≡ y
    → has_bit (cond f (bits_alone a b) (bits_alone b a)) m ≡ ((unlike x y && not false) && not (unlike x f))
alone_truth x y true a b m la lb lm e k = has_bit-without a b m lb lm ∙ ((λ j. cond (k j) false (e j)) ∙ table x y)
  where
    table : (x y : Bool) → cond y false x ≡ ((unlike x y && true) && not (unlike x true))
    table true true = refl
    table true false = refl
    table false true = refl
    table false false = refl
alone_truth x y false a b m la lb lm e k = has_bit-without b a m la lm ∙ ((λ j. cond (e j) false (k j)) ∙ table x y)
  where
    table : (x y : Bool) → cond x false y ≡ ((unlike x y && true) && not (unlike x false))
    table true true = refl
    table true false = refl
    table false true = refl
    table false false = refl

untold_truth : (x y f : Bool) (m : ℕ) → has_bit 0 m ≡ ((unlike x y && not true) && not (unlike x f))
untold_truth x y f m = ap (λ z. z == 1) (bit_at-zero m) ∙ table (unlike x y) (not (unlike x f))
  where
    table : (a b : Bool) → false ≡ ((a && false) && b)
    table true b = refl
    table false b = refl

alone_by : (u x y f : Bool) (a b m : ℕ) → a < 2 ^ 32 → b < 2 ^ 32 → m < 32 → has_bit a m ≡ x → has_bit b m ≡ y
    → has_bit (cond u 0 (cond f (bits_alone a b) (bits_alone b a))) m ≡ ((unlike x y && not u) && not (unlike x f))
alone_by true x y f a b m la lb lm e k = untold_truth x y f m
alone_by false x y f a b m la lb lm e k = alone_truth x y f a b m la lb lm e k

legal_bit : (masks : List ℕ) (s n : ℕ) → is_data_place s n ≡ true → has_bit (get_or masks (s - 1) 0) (n - 1) ≡ (is_data_place s n && has_count masks s n)
legal_bit masks s n place = sym (ap (λ b. b && has_count masks s n) place)

alone_told : (v w : Parts) (kind : CountKind) (f : Bool) (s n : ℕ) → IsNormal v → IsNormal w → is_data_place s n ≡ true → has_bit (alone_mask v w kind f s) (n - 1) ≡ is_told_in v w f (of_count kind s n)
unfolding alone_mask
alone_told v w Receive f s n p q place =
    alone_by false _ _ f (get_or v.tables.own_receive (s - 1) 0) (get_or w.tables.own_receive (s - 1) 0) (n - 1) (p.own_receive.fit (s - 1)) (q.own_receive.fit (s - 1)) (place_high s n place)
    (legal_bit v.tables.own_receive s n place) (legal_bit w.tables.own_receive s n place)
alone_told v w Transmit f s n p q place =
    alone_by false _ _ f (get_or v.tables.own_transmit (s - 1) 0) (get_or w.tables.own_transmit (s - 1) 0) (n - 1) (p.own_transmit.fit (s - 1)) (q.own_transmit.fit (s - 1)) (place_high s n place)
    (legal_bit v.tables.own_transmit s n place) (legal_bit w.tables.own_transmit s n place)
alone_told v w Broadcast f s n p q place =
    alone_by (unlike v.broadcast w.broadcast) _ _ f (get_or v.tables.broadcast_receive (s - 1) 0) (get_or w.tables.broadcast_receive (s - 1) 0) (n - 1) (p.broadcast_receive.fit (s - 1)) (q.broadcast_receive.fit (s - 1)) (place_high s n place)
    (legal_bit v.tables.broadcast_receive s n place) (legal_bit w.tables.broadcast_receive s n place)

-- when all subaddresses are done, what is told has been said
pub all_said : (v w : Parts) (kind : CountKind) (s : ℕ) (a b : List Group) → IsNormal v → IsNormal w → s ≡ 31 → AddsGroups kind a b (said_before (alone_mask v w kind) s) → AddsGroups kind a b (λ f t n. is_told_in v w f (of_count kind t n))
all_said v w kind s a b p q e x = adds_as kind a b (said_before (alone_mask v w kind) s) (λ f t n. is_told_in v w f (of_count kind t n)) x all
  where
    all : (f : Bool) (t n : ℕ) → is_data_place t n ≡ true → said_before (alone_mask v w kind) s f t n ≡ is_told_in v w f (of_count kind t n)
    all f t n place =
        let A : ℕ → ℕ = alone_mask v w kind f in
        let low : 1 ≤ t = place_above t n place in
        let small : t - 1 < 30 = place_low t n place in
        let had : is_had (alone_mask v w kind f) (s - 1) (alone_mask v w kind f t) ≡ true =
        had_at (s - 1) (λ r. alone_mask v w kind f r == alone_mask v w kind f t) t low (omega arith) (is_equal (alone_mask v w kind f t) (alone_mask v w kind f t) (alone_mask v w kind f t) (alone_mask v w kind f t) refl refl refl) in
        ap (λ b. b && has_bit (alone_mask v w kind f t) (n - 1)) had ∙ alone_told v w kind f t n p q place

-- all groups together
pub are_groups : (v w : Parts) (found : List Difference) (a b c d e : List Group) → a ≡ [] ++ singles v false found
    → AddsGroups Receive a b (λ f t n. is_told_in v w f (of_count Receive t n)) → AddsGroups Transmit b c (λ f t n. is_told_in v w f (of_count Transmit t n))
    → AddsGroups Broadcast c d (λ f t n. is_told_in v w f (of_count Broadcast t n)) → e ≡ d ++ singles v true found → AreGroups v w found e
unfolding singles
are_groups v w found a b c d e front x y z back = record {
  counts = (x.groups ++ y.groups) ++ z.groups;
  order = back ∙ ap (λ xs. xs ++ singles v true found) (z.added ∙ (ap (λ xs. xs ++ z.groups) (y.added ∙ ap (λ xs. xs ++ y.groups) (x.added ∙ ap (λ xs. xs ++ x.groups) front)) ∙ three (singles v false found) x.groups y.groups z.groups));
  each = λ kind f s n place. count kind f s n place;
  own = All-append ShowsOwn (x.groups ++ y.groups) z.groups (All-append ShowsOwn x.groups y.groups x.own y.own) z.own;
}
  where
    three : (f g h k : List Group) → ((f ++ g) ++ h) ++ k ≡ f ++ ((g ++ h) ++ k)
    three f g h k = ap (λ xs. xs ++ k) (append_assoc f g h) ∙ append_assoc f (g ++ h) k

    sum : (p : Group → Bool) → count_by p ((x.groups ++ y.groups) ++ z.groups) ≡ (count_by p x.groups + count_by p y.groups) + count_by p z.groups
    sum p = count-append p (x.groups ++ y.groups) z.groups ∙ ap (λ n. n + count_by p z.groups) (count-append p x.groups y.groups)

    first_of : (n : ℕ) → (n + 0) + 0 ≡ n
    first_of n = omega arith

    second_of : (n : ℕ) → (0 + n) + 0 ≡ n
    second_of n = omega arith

    third_of : (n : ℕ) → (0 + 0) + n ≡ n
    third_of n = omega arith

    count : (kind : CountKind) (f : Bool) (s n : ℕ) → is_data_place s n ≡ true → count_by (group_says kind f s n) ((x.groups ++ y.groups) ++ z.groups) ≡ cond (is_told_in v w f (of_count kind s n)) 1 0
    count Receive f s n place = sum (group_says Receive f s n) ∙ ((λ j. (x.each f s n place j + y.alone f s n Receive place (λ e. cc) j) + z.alone f s n Receive place (λ e. cc) j) ∙ first_of _)
    count Transmit f s n place = sum (group_says Transmit f s n) ∙ ((λ j. (x.alone f s n Transmit place (λ e. cc) j + y.each f s n place j) + z.alone f s n Transmit place (λ e. cc) j) ∙ second_of _)
    count Broadcast f s n place = sum (group_says Broadcast f s n) ∙ ((λ j. (x.alone f s n Broadcast place (λ e. cc) j + y.alone f s n Broadcast place (λ e. cc) j) + z.each f s n place j) ∙ third_of _)
