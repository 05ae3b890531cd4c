-- A text that is cut where a mark stands first.
use Rattle.std.proofs.Common.{ℕ, ◌≡◌, ◌∙◌, ◌+◌, ◌-◌, ◌<◌, ◌≤◌, List, [], ◌∷◌, ◌++◌, Option, Some, None, length, get_or, take, drop, refl, sym, ap, arith, append_assoc, append-nil}
use Rattle.std.proofs.lemmas.List.{drop_more, take_more, drop_all, take_all, length-drop}
use Rattle.line_format.specs.Front.{after}
use Rattle.rt1553_expand.specs.Message.{Cut, cut_here, cut}

-- these bytes stand before the front too
abbrev pub behind_front : List ℕ → Cut → Cut
behind_front bytes c = record { front = bytes ++ c.front; behind = c.behind }

pub cut-none : (mark : List ℕ) → cut mark [] ≡ record { front = []; behind = None }
unfolding cut
cut-none mark = refl

pub cut-byte : (mark : List ℕ) (b : ℕ) (bytes : List ℕ) → cut mark (b ∷ bytes) ≡ cut_here b (after mark (b ∷ bytes)) (cut mark bytes)
unfolding cut
cut-byte mark b bytes = refl

-- the rest of a text, as a slice of it
rest-of : (text : List ℕ) (at : ℕ) → take (length text - at) (drop at text) ≡ drop at text
rest-of text at = take_all _ _ (omega (arith, length-drop at text))

cut-here : (mark text : List ℕ) (at : ℕ) (o : Option (List ℕ)) → at < length text → o ≡ after mark (take (length text - at) (drop at text))
    → cut mark (drop at text) ≡ cut_here (get_or text at 0) o (cut mark (drop (at + 1) text))
cut-here mark text at o low is =
    ap (cut mark) (drop_more text at 0 low)
    ∙ cut-byte mark (get_or text at 0) (drop (at + 1) text)
    ∙ ap (λ bytes. cut_here (get_or text at 0) (after mark bytes) (cut mark (drop (at + 1) text))) (sym (drop_more text at 0 low))
    ∙ ap (λ x. cut_here (get_or text at 0) x (cut mark (drop (at + 1) text))) (sym (is ∙ ap (after mark) (rest-of text at)))

pub cut-on : (mark text : List ℕ) (at : ℕ) (whole : Cut) → at < length text → None ≡ after mark (take (length text - at) (drop at text))
    → whole ≡ behind_front (take at text) (cut mark (drop at text)) → whole ≡ behind_front (take (at + 1) text) (cut mark (drop (at + 1) text))
cut-on mark text at whole low none is =
    let later : Cut = cut mark (drop (at + 1) text) in
    is
    ∙ ap (behind_front (take at text)) (cut-here mark text at None low none)
    ∙ ap (λ front. record { front = front; behind = later.behind })
    (sym (append_assoc (take at text) (get_or text at 0 ∷ []) later.front) ∙ ap (λ bytes. bytes ++ later.front) (sym (take_more text at 0 low)))

pub cut-found : (mark text rest : List ℕ) (at : ℕ) (whole : Cut) → at < length text → Some rest ≡ after mark (take (length text - at) (drop at text))
    → whole ≡ behind_front (take at text) (cut mark (drop at text)) → whole ≡ record { front = take at text; behind = Some rest }
cut-found mark text rest at whole low some is =
    is
    ∙ ap (behind_front (take at text)) (cut-here mark text at (Some rest) low some)
    ∙ ap (λ front. record { front = front; behind = Some rest }) (append-nil (take at text))

pub cut-end : (mark text : List ℕ) (at : ℕ) (whole : Cut) → length text ≤ at
    → whole ≡ behind_front (take at text) (cut mark (drop at text)) → whole ≡ record { front = text; behind = None }
cut-end mark text at whole high is =
    is
    ∙ ap (λ bytes. behind_front (take at text) (cut mark bytes)) (drop_all at text high)
    ∙ ap (behind_front (take at text)) (cut-none mark)
    ∙ ap (λ front. record { front = front; behind = None }) (append-nil (take at text) ∙ take_all at text high)
