-- The column of a place, one byte further on.
use Rattle.std.proofs.Common.{◌≡◌, ℕ, ◌+◌, ◌<◌, ◌≤◌, true, false, not, List, [], ◌∷◌, take, reverse, get_or, length, cond, ap, ◌∙◌, arith}
use Rattle.std.specs.List.{take_while, count_by, prefix_len}
use Rattle.std.proofs.lemmas.List.{take_more, reverse-append, length-reverse, length-take-le}
use Rattle.std.proofs.lemmas.List.Sums.{take_while-cons, sum_by-cons, count_by-le-length, prefix_len-le-length}
use Rattle.rt1553_lint.specs.Positions.{is_feed, begins_character, back_to_feed, line_of_place, column_at}

-- the bytes back to the line feed, from the next place
back_more : (text : List ℕ) (i : ℕ) → i < length text
    → back_to_feed text (i + 1) ≡ cond (not (is_feed (get_or text i 0))) (get_or text i 0 ∷ back_to_feed text i) []
back_more text i l =
    ap (λ xs. take_while (λ byte. not (is_feed byte)) (reverse xs)) (take_more text i 0 l)
    ∙ (ap (take_while (λ byte. not (is_feed byte))) (reverse-append (take i text) (get_or text i 0 ∷ []))
    ∙ take_while-cons (λ byte. not (is_feed byte)) (get_or text i 0) (reverse (take i text)))

pub column_feed : (text : List ℕ) (i : ℕ) → i < length text → is_feed (get_or text i 0) ≡ true → column_at text (i + 1) ≡ 1
column_feed text i l feed = ap (λ xs. count_by begins_character xs + 1) (back_more text i l ∙ ap (λ b. cond (not b) (get_or text i 0 ∷ back_to_feed text i) []) feed)

column_more : (text : List ℕ) (i : ℕ) → i < length text → is_feed (get_or text i 0) ≡ false
    → column_at text (i + 1) ≡ cond (begins_character (get_or text i 0)) 1 0 + column_at text i
column_more text i l feed =
    let front = ap (count_by begins_character) (back_more text i l ∙ ap (λ b. cond (not b) (get_or text i 0 ∷ back_to_feed text i) []) feed) in
    let counted = sum_by-cons (λ x. cond (begins_character x) 1 0) (get_or text i 0) (back_to_feed text i) in
    omega (arith, front, counted)

pub column_character : (text : List ℕ) (i : ℕ) → i < length text → is_feed (get_or text i 0) ≡ false → begins_character (get_or text i 0) ≡ true
    → column_at text (i + 1) ≡ column_at text i + 1
column_character text i l feed begins = let e = column_more text i l feed ∙ ap (λ b. cond b 1 0 + column_at text i) begins in omega (arith, e)

pub column_inside : (text : List ℕ) (i : ℕ) → i < length text → is_feed (get_or text i 0) ≡ false → begins_character (get_or text i 0) ≡ false
    → column_at text (i + 1) ≡ column_at text i
column_inside text i l feed begins = let e = column_more text i l feed ∙ ap (λ b. cond b 1 0 + column_at text i) begins in omega (arith, e)

-- a place has no more lines and characters before it than bytes
pub line_small : (text : List ℕ) (i : ℕ) → i ≤ length text → line_of_place text i ≤ i + 1
line_small text i within = let few = count_by-le-length is_feed (take i text) in let long = length-take-le i text within in omega (arith, few, long)

pub column_small : (text : List ℕ) (i : ℕ) → i ≤ length text → column_at text i ≤ i + 1
column_small text i within =
    let few = count_by-le-length begins_character (back_to_feed text i) in
    let back = prefix_len-le-length (λ byte. not (is_feed byte)) (reverse (take i text)) in
    let cut = length-take-le (prefix_len (λ byte. not (is_feed byte)) (reverse (take i text))) (reverse (take i text)) back in
    let turned = length-reverse (take i text) in
    let long = length-take-le i text within in
    omega (arith, few, back, cut, turned, long)
