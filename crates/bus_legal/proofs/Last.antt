-- The last of a list that passes.
use Rattle.std.proofs.Common.{◌≡◌, ℕ, ◌+◌, ◌<◌, Bool, true, false, cond, List, [], ◌∷◌, ◌++◌, length, get_or, take, Option, Some, None, refl, ap, sym, ◌∙◌, find, reverse}
use Rattle.std.proofs.lemmas.List.{reverse-append, take_more}
use Rattle.bus_legal.specs.Last.{or_last, last_of}

pick : {X : Type 0} (t : Bool) (x : X) (o more : Option X) → or_last (cond t (Some x) o) more ≡ cond t (Some x) (or_last o more)
pick true x o more = refl
pick false x o more = refl

-- one more at the end
pub last_of-snoc : {X : Type 0} (p : X → Bool) (xs : List X) (x : X) → last_of p (xs ++ x ∷ []) ≡ cond (p x) (Some x) (last_of p xs)
last_of-snoc p [] x = refl
last_of-snoc p (y ∷ ys) x = ap (λ o. or_last o (cond (p y) (Some y) None)) (last_of-snoc p ys x) ∙ pick (p x) x (last_of p ys) (cond (p y) (Some y) None)

-- one more of those that are taken from the front
pub last_of-take : {X : Type 0} (p : X → Bool) (xs : List X) (at : ℕ) (d : X) → at < length xs →
    last_of p (take (at + 1) xs) ≡ cond (p (get_or xs at d)) (Some (get_or xs at d)) (last_of p (take at xs))
last_of-take p xs at d l = ap (last_of p) (take_more xs at d l) ∙ last_of-snoc p (take at xs) (get_or xs at d)

find-snoc : {X : Type 0} (p : X → Bool) (xs : List X) (x : X) → find p (xs ++ x ∷ []) ≡ or_last (find p xs) (cond (p x) (Some x) None)
find-snoc p [] x = refl
find-snoc p (y ∷ ys) x = ap (cond (p y) (Some y)) (find-snoc p ys x) ∙ sym (pick (p y) y (find p ys) (cond (p x) (Some x) None))

-- the first from the end
pub find_reverse : {X : Type 0} (p : X → Bool) (xs : List X) → find p (reverse xs) ≡ last_of p xs
find_reverse p [] = refl
find_reverse p (x ∷ xs) = ap (find p) (reverse-append (x ∷ []) xs) ∙ find-snoc p (reverse xs) x ∙ ap (λ o. or_last o (cond (p x) (Some x) None)) (find_reverse p xs)
