-- A table of words that follows the initial entries one by one.
use Rattle.std.proofs.Common.{◌≡◌, ℕ, ◌+◌, ◌-◌, ◌<◌, ◌≤◌, ◌≢◌, ◌==◌, Bool, true, false, ◌&&◌, cond, nat_le, nat_lt, List, [], ◌∷◌, get_or, set, take, replicate, length, Option, None}
use Rattle.std.proofs.Common.{Some, refl, ap, subst, sym, ◌∙◌, get_or-set_same, get_or-set_other, arith}
use Rattle.std.proofs.lemmas.Bool.{eqb-true, eq-eqb}
use Rattle.std.proofs.lemmas.Bool.Decides.{nat_tests}
use Rattle.std.proofs.lemmas.List.{get_or-replicate}
use Rattle.bus_word.specs.Cell.{is_data_place}
use Rattle.bus_legal.specs.declared.entries.InitialWords.{InitialWords}
use Rattle.bus_legal.specs.Last.{or_last, last_of}
use Rattle.bus_legal.specs.Description.{word_at}
use Rattle.bus_legal.specs.Initial.{gives_number, gives, word_given, initial_word}
use Rattle.bus_legal.proofs.Last.{last_of-take}
use Rattle.bus_legal.proofs.Words.{zero_block}
use Rattle.bus_word.proofs.Places.{place_above, place_from, place_low, place_high}

word_given-cond : (default number : ℕ) (t : Bool) (e : InitialWords) (o : Option InitialWords) →
    word_given default number (cond t (Some e) o) ≡ cond t (get_or e.words (number - e.first) 0) (word_given default number o)
word_given-cond default number true e o = refl
word_given-cond default number false e o = refl

-- one more entry: the word that it gives, or else what was given before
word_given-take : (entries : List InitialWords) (at : ℕ) (e : InitialWords) (default s number : ℕ) → at < length entries → e ≡ get_or entries at e →
    word_given default number (last_of (gives s number) (take (at + 1) entries)) ≡ cond (gives s number e) (get_or e.words (number - e.first) 0) (word_given default number (last_of (gives s number) (take at entries)))
word_given-take entries at e default s number l is =
    let P : InitialWords → Type 0 = λ x. last_of (gives s number) (take (at + 1) entries) ≡ cond (gives s number x) (Some x) (last_of (gives s number) (take at entries)) in
    ap (word_given default number) (subst P (sym is) (last_of-take (gives s number) entries at e l)) ∙ word_given-cond default number (gives s number e) e _

-- the block of an entry's subaddress, written
pub word-put : (entries : List InitialWords) (at : ℕ) (e : InitialWords) (table : List (List ℕ)) (subaddress : ℕ) (block : List ℕ) (default s i : ℕ) →
    at < length entries → e ≡ get_or entries at e → subaddress ≡ e.subaddress → length table ≡ 30 → s < 30 →
    get_or block i 0 ≡ cond (gives_number (i + 1) e) (get_or e.words (i + 1 - e.first) 0) (get_or (get_or table (subaddress - 1) []) i 0) →
    get_or (get_or table s []) i 0 ≡ word_given default (i + 1) (last_of (gives (s + 1) (i + 1)) (take at entries)) →
    get_or (get_or (set table (subaddress - 1) block) s []) i 0 ≡ word_given default (i + 1) (last_of (gives (s + 1) (i + 1)) (take (at + 1) entries))
word-put entries at e table subaddress block default s i l is same whole place written before =
    by_subaddress (s + 1 == e.subaddress) refl ∙ sym (word_given-take entries at e default (s + 1) (i + 1) l is)
  where
    by_subaddress : (t : Bool) → (s + 1 == e.subaddress) ≡ t →
        get_or (get_or (set table (subaddress - 1) block) s []) i 0 ≡ cond (t && gives_number (i + 1) e) (get_or e.words (i + 1 - e.first) 0) (word_given default (i + 1) (last_of (gives (s + 1) (i + 1)) (take at entries)))
    by_subaddress true t =
        let here : s + 1 ≡ e.subaddress = eqb-true (s + 1) e.subaddress t in
        let at_row : subaddress - 1 ≡ s = omega arith in
        let fits : s < length table = omega arith in
        ap (λ k. get_or (get_or (set table k block) s []) i 0) at_row
        ∙ (ap (λ r. get_or r i 0) (get_or-set_same table s block [] fits)
        ∙ (written
        ∙ ap (cond (gives_number (i + 1) e) (get_or e.words (i + 1 - e.first) 0)) (ap (λ k. get_or (get_or table k []) i 0) at_row ∙ before)))
    by_subaddress false t =
        let low : 1 ≤ e.subaddress = e.subaddress_low in
        let other : s ≢ subaddress - 1 = (λ f. let here : s + 1 ≡ e.subaddress = omega arith in let wrong : true ≡ false = sym (eq-eqb (s + 1) e.subaddress here) ∙ t in cc) in
        ap (λ r. get_or r i 0) (get_or-set_other table (subaddress - 1) s block [] other) ∙ before

zeros-word : (s i : ℕ) → s < 30 → i < 32 → get_or (get_or (replicate 30 zero_block) s []) i 0 ≡ 0
zeros-word s i l k = ap (λ block. get_or block i 0) (get_or-replicate {A = List ℕ} 30 s zero_block [] l) ∙ get_or-replicate {A = ℕ} 32 i 0 0 k

-- a table of zeros with the words of these entries put in holds the initial words
pub initial_word-table : (entries : List InitialWords) (table : List (List ℕ)) →
    ((s i : ℕ) → s < 30 → i < 32 →
    get_or (get_or table s []) i 0 ≡ word_given (get_or (get_or (replicate 30 zero_block) s []) i 0) (i + 1) (last_of (gives (s + 1) (i + 1)) entries)) →
    (s i : ℕ) → is_data_place s i ≡ true → word_at table s i ≡ initial_word entries s i
initial_word-table entries table put s i place =
    let row_at : s - 1 + 1 ≡ s = (let low : 1 ≤ s = place_above s i place in omega arith) in
    let at : i - 1 + 1 ≡ i = (let low : 1 ≤ i = place_from s i place in omega arith) in
    put (s - 1) (i - 1) (place_low s i place) (place_high s i place)
    ∙ (ap (λ w. word_given w (i - 1 + 1) (last_of (gives (s - 1 + 1) (i - 1 + 1)) entries)) (zeros-word (s - 1) (i - 1) (place_low s i place) (place_high s i place))
    ∙ (ap (λ k. word_given 0 (i - 1 + 1) (last_of (gives k (i - 1 + 1)) entries)) row_at
    ∙ ap (λ k. word_given 0 k (last_of (gives s k) entries)) at))

-- no entry gives a word outside the places of data
never_gives : (s i : ℕ) (e : InitialWords) → is_data_place s i ≡ false → gives s i e ≡ false
never_gives s i e outside = never e.subaddress e.first e.len e.subaddress_low e.subaddress_high e.first_low e.room
  where
    never : (at first len : ℕ) → 1 ≤ at → at ≤ 30 → 1 ≤ first → first + len ≤ 33 → ((s == at) && (nat_le first i && nat_lt i (first + len))) ≡ false
    never at first len low high from room = grind (arith, nat_tests)

none_gives : (entries : List InitialWords) (s i : ℕ) → is_data_place s i ≡ false → (let none : Option InitialWords = None in last_of (gives s i) entries ≡ none)
none_gives [] s i outside = refl
none_gives (e ∷ es) s i outside = λ j. or_last (none_gives es s i outside j) (cond (never_gives s i e outside j) (Some e) None)

pub initial_word-outside : (entries : List InitialWords) (s i : ℕ) → is_data_place s i ≡ false → initial_word entries s i ≡ 0
initial_word-outside entries s i outside = ap (word_given 0 i) (none_gives entries s i outside)
