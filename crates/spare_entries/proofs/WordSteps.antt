-- The numbers that initial entries give, and the words that they set up, one entry after the other.
use Rattle.std.proofs.Common.{◌≡◌, ◌≢◌, ◌↔◌, IsTrue, ℕ, ◌+◌, ◌-◌, ◌*◌, ◌%◌, ◌^◌, ◌<◌, ◌≤◌, ◌==◌, Bool, true, false, not, ◌&&◌, cond, List, length, get_or, set, take, replicate, HoldsAt, Option, Some, refl, ap, subst, sym, ◌∙◌, get_or-set_same, get_or-set_other, ⊎_elim, arith}
use Rattle.std.proofs.Math.Pow.{pow_mono}
use Rattle.std.proofs.lemmas.Bool.{cases_lt, eq-eqb}
use Rattle.std.proofs.lemmas.Bool.Decides.{nat_tests}
use Rattle.std.proofs.lemmas.List.{get_or_default}
use Rattle.std.proofs.lemmas.Nat.Bits.{bit_at_mask_below, bit_at_mask_inside, bit_at_mask_above}
use Rattle.bus_word.specs.Mask.{has_bit}
use Rattle.bus_legal.specs.declared.entries.InitialWords.{InitialWords}
use Rattle.bus_legal.specs.Initial.{gives_number, gives, word_given, initial_word}
use Rattle.bus_legal.proofs.Last.{last_of-take}
use Rattle.bus_legal.proofs.TopBit.{zero-bit}
use Rattle.spare_entries.specs.declared.initials.InitialSpares.{InitialSpares}
use Rattle.spare_entries.specs.inner.Words.{numbers_at, IsMarked}

-- ---- the numbers as a mask

pub numbers-bit : (s i : ℕ) (e : InitialWords) → has_bit (numbers_at s e) i ≡ gives s (i + 1) e
numbers-bit s i e = search (arith, zero-bit, cases_lt, nat_tests, bit_at_mask_below, bit_at_mask_inside, bit_at_mask_above)

-- a power that fits
pub small_power : (k : ℕ) → k ≤ 32 → 1 * 2 ^ k % 0x1_0000_0000_0000_0000 ≡ 2 ^ k
small_power k l = let below : 2 ^ k ≤ 2 ^ 32 = pow_mono l in omega arith

-- ---- one more entry

word_given-cond : (default number : ℕ) (t : Bool) (e : InitialWords) (o : Option InitialWords) →
    word_given default number (cond t (Some e) o) ≡ cond t (get_or e.words (number - e.first) 0) (word_given default number o)
word_given-cond default number t e o = search arith

word-take : (entries : List InitialWords) (at : ℕ) (e : InitialWords) (s n : ℕ) → at < length entries → e ≡ get_or entries at e →
    initial_word (take (at + 1) entries) s n ≡ cond (gives s n e) (get_or e.words (n - e.first) 0) (initial_word (take at entries) s n)
word-take entries at e s n l is = search (arith, last_of-take, word_given-cond, last_of-take (gives s n) entries)

-- a row with the words of an entry of its subaddress
pub row-put : (entries : List InitialWords) (at : ℕ) (e : InitialWords) (s i : ℕ) (old new : ℕ) → at < length entries → e ≡ get_or entries at e → e.subaddress ≡ s →
    old ≡ initial_word (take at entries) s (i + 1) → new ≡ cond (gives_number (i + 1) e) (get_or e.words (i + 1 - e.first) 0) old →
    new ≡ initial_word (take (at + 1) entries) s (i + 1)
row-put entries at e s i old new l is here before written = search (arith, eq-eqb, word-take, eq-eqb s e.subaddress (sym here), word-take entries)

-- a row beside an entry of another subaddress
pub row-left : (entries : List InitialWords) (at : ℕ) (e : InitialWords) (s i : ℕ) (old : ℕ) → at < length entries → e ≡ get_or entries at e → e.subaddress ≢ s →
    old ≡ initial_word (take at entries) s (i + 1) → old ≡ initial_word (take (at + 1) entries) s (i + 1)
row-left entries at e s i old l is other before =
    let test : (s == e.subaddress) ≡ false = (let apart : s ≢ e.subaddress = (λ h. other (sym h)) in grind (arith, nat_tests)) in
    before ∙ sym (word-take entries at e s (i + 1) l is ∙ ap (λ t. cond (t && gives_number (i + 1) e) (get_or e.words (i + 1 - e.first) 0) (initial_word (take at entries) s (i + 1))) test)

-- ---- what is told of the entries so far

abbrev pub Told : List ℕ → List InitialWords → ℕ → List InitialSpares → ℕ → Type 0
Told sent entries s spares j = HoldsAt (λ e. e.subaddress ≡ s → HoldsAt (IsMarked sent entries j) spares j) entries j

pub told-put : (sent : List ℕ) (entries : List InitialWords) (s at : ℕ) (spares new : List InitialSpares) (spare : InitialSpares) → at < length spares → new ≡ set spares at spare →
    IsMarked sent entries at spare → ((j : ℕ) → j < at → Told sent entries s spares j) → (j : ℕ) → j < at + 1 → Told sent entries s new j
told-put sent entries s at spares new spare l is marked before j lt d same d' =
    let P : ℕ → List InitialSpares → Type 0 = λ n list. IsMarked sent entries n (get_or list n d') in
    subst (P j) (sym is) (⊎_elim
    (λ below. let other : j ≢ at = omega arith in subst (IsMarked sent entries j) (sym (get_or-set_other spares at j spare d' other)) (before j below d same d'))
    (λ le. let here : at ≡ j = omega arith in subst (λ n. P n (set spares at spare)) here (subst (IsMarked sent entries at) (sym (get_or-set_same spares at spare d' l)) marked))
    (cases_lt j at))

pub told-left : (sent : List ℕ) (entries : List InitialWords) (s at : ℕ) (spares : List InitialSpares) (e : InitialWords) → at < length entries → e ≡ get_or entries at e → e.subaddress ≢ s →
    ((j : ℕ) → j < at → Told sent entries s spares j) → (j : ℕ) → j < at + 1 → Told sent entries s spares j
told-left sent entries s at spares e l is other before j lt d same = ⊎_elim
    (λ below. before j below d same)
    (λ le.
    let here : j ≡ at = omega arith in
    absurd (other (ap (λ (x : InitialWords). x.subaddress) (is ∙ (get_or_default entries at e d l ∙ ap (λ n. get_or entries n d) (sym here))) ∙ same)))
    (cases_lt j at)

-- the entries of other subaddresses keep what is told of them
abbrev pub Left : List InitialWords → ℕ → List InitialSpares → List InitialSpares → ℕ → Type 0
Left entries s old new j = HoldsAt (λ e. e.subaddress ≢ s → HoldsAt (λ before. HoldsAt (λ after. after ≡ before) new j) old j) entries j

pub left-put : (entries : List InitialWords) (s at : ℕ) (old spares new : List InitialSpares) (spare : InitialSpares) (e : InitialWords) → at < length entries → e ≡ get_or entries at e → e.subaddress ≡ s →
    new ≡ set spares at spare → (j : ℕ) → Left entries s old spares j → Left entries s old new j
left-put entries s at old spares new spare e l is here put j before d apart d' d'' = search (arith, get_or_default, get_or-set_other)

-- ---- a mask of words, bit by bit

pub clear_step : (spare new at : ℕ) (H : ℕ → Type 0) → at < 32 → ((i : ℕ) → i < 32 → has_bit new i ≡ (not (i == at) && has_bit spare i)) → (H at → ⊥) →
    ((w : ℕ) → w < at → IsTrue (has_bit spare w) ↔ H w) → (w : ℕ) → w < at + 1 → IsTrue (has_bit new w) ↔ H w
clear_step spare new at H small bits none before w l = search (arith, nat_tests, eq-eqb, cases_lt)

pub clear_left : (spare new at : ℕ) → ((i : ℕ) → i < 32 → has_bit new i ≡ (not (i == at) && has_bit spare i)) → ((w : ℕ) → at ≤ w → w < 32 → has_bit spare w ≡ true) →
    (w : ℕ) → at + 1 ≤ w → w < 32 → has_bit new w ≡ true
clear_left spare new at bits left w l small = search (arith, nat_tests)

pub keep_step : (spare at : ℕ) (H : ℕ → Type 0) → has_bit spare at ≡ true → H at → ((w : ℕ) → w < at → IsTrue (has_bit spare w) ↔ H w) → (w : ℕ) → w < at + 1 → IsTrue (has_bit spare w) ↔ H w
keep_step spare at H stands holds before w l = search (arith, cases_lt)

-- an entry, to read a list of them
pub some_entry : InitialWords
some_entry = record { subaddress = 1; first = 1; len = 0; words = replicate 32 0; subaddress_low = omega arith; subaddress_high = omega arith; first_low = omega arith; first_high = omega arith; room = omega arith; whole = refl }
