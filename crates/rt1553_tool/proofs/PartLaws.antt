-- The parts of a text, one piece after the other.
use Rattle.std.proofs.Common.{◌≡◌, ◌≢◌, ◌∙◌, ℕ, suc, ◌+◌, ◌-◌, ◌*◌, ◌<◌, ◌≤◌, ◌==◌, Bool, true, false, List, [], ◌∷◌, ◌++◌, cond, length, get_or, take, drop, refl, sym, ap, arith, append_assoc, append-nil}
use Rattle.std.proofs.lemmas.List.{drop_more, drop_all, take_all, drop-drop, length-drop, length-take}
use Rattle.std.proofs.lemmas.Bool.Decides.{nat_tests}
use Rattle.script_lines.specs.Text.{onto_first}
use Rattle.rt1553_tool.specs.Parts.{before_comment, pieces_of, with_bytes, is_blank}
use Rattle.rt1553_tool.specs.inner.Parts.{comment_at, piece_len}

comment_other : (b : ℕ) (bytes : List ℕ) → b ≢ 35 → comment_at (b ∷ bytes) ≡ suc (comment_at bytes)
unfolding comment_at
comment_other b bytes other = grind (arith, nat_tests)

comment_here : (b : ℕ) (bytes : List ℕ) → b ≡ 35 → comment_at (b ∷ bytes) ≡ 0
unfolding comment_at
comment_here b bytes here = grind (arith, nat_tests)

comment_none : comment_at [] ≡ 0
unfolding comment_at
comment_none = refl

pub comment_step : (line : List ℕ) (len : ℕ) → len < length line → get_or line len 0 ≢ 35
    → comment_at line ≡ len + comment_at (drop len line) → comment_at line ≡ len + 1 + comment_at (drop (len + 1) line)
comment_step line len low other before =
    let next : comment_at (drop len line) ≡ suc (comment_at (drop (len + 1) line))
    = ap comment_at (drop_more line len 0 low) ∙ comment_other (get_or line len 0) (drop (len + 1) line) other in
    omega (arith, before, next)

pub comment_found : (line : List ℕ) (len : ℕ) → len < length line → get_or line len 0 ≡ 35
    → comment_at line ≡ len + comment_at (drop len line) → len ≡ comment_at line
comment_found line len low here before =
    let next : comment_at (drop len line) ≡ 0
    = ap comment_at (drop_more line len 0 low) ∙ comment_here (get_or line len 0) (drop (len + 1) line) here in
    omega (arith, before, next)

pub comment_end : (line : List ℕ) (len : ℕ) → length line ≤ len
    → comment_at line ≡ len + comment_at (drop len line) → len ≡ comment_at line
comment_end line len high before =
    let next : comment_at (drop len line) ≡ 0 = ap comment_at (drop_all len line high) ∙ comment_none in
    omega (arith, before, next)

front_is : (line : List ℕ) → take (comment_at line) line ≡ before_comment line
unfolding comment_at before_comment
front_is [] = refl
front_is (b ∷ bytes) = case (b == 35) refl (front_is bytes)
  where
    case : (t : Bool) → (b == 35) ≡ t → take (comment_at bytes) bytes ≡ before_comment bytes
        → take (cond (b == 35) 0 (suc (comment_at bytes))) (b ∷ bytes) ≡ cond (b == 35) [] (b ∷ before_comment bytes)
    case true e others = ap (λ t. take (cond t 0 (suc (comment_at bytes))) (b ∷ bytes)) e ∙ sym (ap (λ t. cond t [] (b ∷ before_comment bytes)) e)
    case false e others = ap (λ t. take (cond t 0 (suc (comment_at bytes))) (b ∷ bytes)) e ∙ (ap (λ bs. b ∷ bs) others ∙ sym (ap (λ t. cond t [] (b ∷ before_comment bytes)) e))

-- so many bytes are those before the comment
pub comment_front : (line : List ℕ) (len : ℕ) → len ≡ comment_at line → take len line ≡ before_comment line
comment_front line len is = ap (λ n. take n line) is ∙ front_is line

piece_other : (b : ℕ) (bytes : List ℕ) → is_blank b ≡ false → piece_len (b ∷ bytes) ≡ suc (piece_len bytes)
unfolding piece_len
piece_other b bytes other = rw other refl

piece_here : (b : ℕ) (bytes : List ℕ) → is_blank b ≡ true → piece_len (b ∷ bytes) ≡ 0
unfolding piece_len
piece_here b bytes here = rw here refl

piece_none : piece_len [] ≡ 0
unfolding piece_len
piece_none = refl

pub piece_step : (text : List ℕ) (len : ℕ) → len < length text → is_blank (get_or text len 0) ≡ false
    → piece_len text ≡ len + piece_len (drop len text) → piece_len text ≡ len + 1 + piece_len (drop (len + 1) text)
piece_step text len low other before =
    let next : piece_len (drop len text) ≡ suc (piece_len (drop (len + 1) text))
    = ap piece_len (drop_more text len 0 low) ∙ piece_other (get_or text len 0) (drop (len + 1) text) other in
    omega (arith, before, next)

pub piece_found : (text : List ℕ) (len : ℕ) → len < length text → is_blank (get_or text len 0) ≡ true
    → piece_len text ≡ len + piece_len (drop len text) → len ≡ piece_len text
piece_found text len low here before =
    let next : piece_len (drop len text) ≡ 0
    = ap piece_len (drop_more text len 0 low) ∙ piece_here (get_or text len 0) (drop (len + 1) text) here in
    omega (arith, before, next)

pub piece_end : (text : List ℕ) (len : ℕ) → length text ≤ len
    → piece_len text ≡ len + piece_len (drop len text) → len ≡ piece_len text
piece_end text len high before =
    let next : piece_len (drop len text) ≡ 0 = ap piece_len (drop_all len text high) ∙ piece_none in
    omega (arith, before, next)

no_pieces : pieces_of [] ≡ []
unfolding pieces_of
no_pieces = refl

pieces_white : (b : ℕ) (bytes : List ℕ) → is_blank b ≡ true → pieces_of (b ∷ bytes) ≡ [] ∷ pieces_of bytes
unfolding pieces_of
pieces_white b bytes e = rw e refl

pieces_other : (b : ℕ) (bytes : List ℕ) → is_blank b ≡ false → pieces_of (b ∷ bytes) ≡ onto_first b (pieces_of bytes)
unfolding pieces_of
pieces_other b bytes e = rw e refl

-- a byte before the first piece of a text
onto_piece : (b : ℕ) (text : List ℕ) → onto_first b (pieces_of text) ≡ (b ∷ take (piece_len text) text) ∷ pieces_of (drop (suc (piece_len text)) text)
onto_piece b [] = ap (onto_first b) no_pieces ∙ sym (ap (λ n. (b ∷ take n []) ∷ pieces_of (drop (suc n) [])) piece_none ∙ ap (λ ps. (b ∷ []) ∷ ps) no_pieces)
onto_piece b (c ∷ bytes) = case (is_blank c) refl (onto_piece c bytes)
  where
    case : (t : Bool) → is_blank c ≡ t
        → onto_first c (pieces_of bytes) ≡ (c ∷ take (piece_len bytes) bytes) ∷ pieces_of (drop (suc (piece_len bytes)) bytes)
        → onto_first b (pieces_of (c ∷ bytes)) ≡ (b ∷ take (piece_len (c ∷ bytes)) (c ∷ bytes)) ∷ pieces_of (drop (suc (piece_len (c ∷ bytes))) (c ∷ bytes))
    case true e others = ap (onto_first b) (pieces_white c bytes e) ∙ sym (ap (λ n. (b ∷ take n (c ∷ bytes)) ∷ pieces_of (drop (suc n) (c ∷ bytes))) (piece_here c bytes e))
    case false e others = ap (onto_first b) (pieces_other c bytes e ∙ others) ∙ sym (ap (λ n. (b ∷ take n (c ∷ bytes)) ∷ pieces_of (drop (suc n) (c ∷ bytes))) (piece_other c bytes e))

-- the first piece of a text, and those behind it
first_piece : (text : List ℕ) → with_bytes (pieces_of text) ≡ with_bytes (take (piece_len text) text ∷ []) ++ with_bytes (pieces_of (drop (suc (piece_len text)) text))
first_piece [] = rw (no_pieces, piece_none) refl
first_piece (b ∷ bytes) = case (is_blank b) refl
  where
    case : (t : Bool) → is_blank b ≡ t
        → with_bytes (pieces_of (b ∷ bytes)) ≡ with_bytes (take (piece_len (b ∷ bytes)) (b ∷ bytes) ∷ []) ++ with_bytes (pieces_of (drop (suc (piece_len (b ∷ bytes))) (b ∷ bytes)))
    case true e = ap with_bytes (pieces_white b bytes e) ∙ sym (ap (λ n. with_bytes (take n (b ∷ bytes) ∷ []) ++ with_bytes (pieces_of (drop (suc n) (b ∷ bytes)))) (piece_here b bytes e))
    case false e =
        let here : with_bytes ((b ∷ take (piece_len bytes) bytes) ∷ pieces_of (drop (suc (piece_len bytes)) bytes))
        ≡ with_bytes (take (suc (piece_len bytes)) (b ∷ bytes) ∷ []) ++ with_bytes (pieces_of (drop (suc (suc (piece_len bytes))) (b ∷ bytes))) = refl in
        ap with_bytes (pieces_other b bytes e ∙ onto_piece b bytes) ∙ here ∙ sym (ap (λ n. with_bytes (take n (b ∷ bytes) ∷ []) ++ with_bytes (pieces_of (drop (suc n) (b ∷ bytes)))) (piece_other b bytes e))

-- a piece more was looked at
pub pieces_step : (text : List ℕ) (at len : ℕ) (old new all : List (List ℕ)) → len ≡ piece_len (take (length text - at) (drop at text))
    → new ≡ old ++ with_bytes (take (at + len - at) (drop at text) ∷ []) → old ++ with_bytes (pieces_of (drop at text)) ≡ all
    → new ++ with_bytes (pieces_of (drop (at + (len + 1)) text)) ≡ all
pieces_step text at len old new all is added before =
    let whole : take (length text - at) (drop at text) ≡ drop at text = take_all (length text - at) (drop at text) (omega (arith, length-drop at text)) in
    let width : at + len - at ≡ len = omega arith in
    let next : drop (at + (len + 1)) text ≡ drop (suc len) (drop at text)
    = (let one : at + (len + 1) ≡ at + suc len = omega arith in ap (λ n. drop n text) one) ∙ sym (drop-drop (suc len) at text) in
    let here : len ≡ piece_len (drop at text) = is ∙ ap piece_len whole in
    let piece : with_bytes (take len (drop at text) ∷ []) ++ with_bytes (pieces_of (drop (suc len) (drop at text))) ≡ with_bytes (pieces_of (drop at text))
    = ap (λ n. with_bytes (take n (drop at text) ∷ []) ++ with_bytes (pieces_of (drop (suc n) (drop at text)))) here ∙ sym (first_piece (drop at text)) in
    ap (λ ps. ps ++ with_bytes (pieces_of (drop (at + (len + 1)) text))) (added ∙ ap (λ n. old ++ with_bytes (take n (drop at text) ∷ [])) width)
    ∙ (ap (λ xs. (old ++ with_bytes (take len (drop at text) ∷ [])) ++ with_bytes (pieces_of xs)) next
    ∙ (append_assoc old (with_bytes (take len (drop at text) ∷ [])) (with_bytes (pieces_of (drop (suc len) (drop at text))))
    ∙ (ap (λ ps. old ++ ps) piece ∙ before)))

-- a part more takes two bytes, but for the last
pub few_step : (text : List ℕ) (at len old new : ℕ) → 2 * new ≤ 2 * old + (length (take (at + len - at) (drop at text)) + 1) → 2 * old ≤ at → 2 * new ≤ at + (len + 1)
few_step text at len old new added before =
    let short : length (take (at + len - at) (drop at text)) ≤ at + len - at = omega (arith, length-take (at + len - at) (drop at text)) in
    omega (arith, short, added, before)

-- all pieces were looked at
pub pieces_end : (text : List ℕ) (at : ℕ) (old all : List (List ℕ)) → length text ≤ at
    → old ++ with_bytes (pieces_of (drop at text)) ≡ all → old ≡ all
pieces_end text at old all high before =
    sym (append-nil old) ∙ (ap (λ ps. old ++ ps) (sym (ap (λ xs. with_bytes (pieces_of xs)) (drop_all at text high) ∙ ap with_bytes no_pieces)) ∙ before)
