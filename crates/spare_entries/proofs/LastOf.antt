-- The last of a list that passes, where one element is left out or is another.
use Rattle.std.proofs.Common.{◌≡◌, ◌↔◌, ℕ, suc, ◌<◌, Bool, true, not, ◌&&◌, ◌||◌, cond, List, [], ◌∷◌, ◌++◌, map, length, get_or, set, take, drop, Option, Some, None, is_some, refl, ap, sym, ◌∙◌, get_or-set_same, length-set, arith}
use Rattle.std.specs.List.{list_any}
use Rattle.std.proofs.Math.Seq.{drop-cons}
use Rattle.std.proofs.lemmas.List.{take-append-drop, take-set, drop-set-lt, drop-map, take-map, map-append}
use Rattle.bus_legal.specs.Last.{or_last, last_of}
use Rattle.spare_entries.specs.Without.{without}

or_last-none : {X : Type 0} (a : Option X) → or_last a None ≡ a
or_last-none a = search arith

or_last-assoc : {X : Type 0} (a b c : Option X) → or_last (or_last a b) c ≡ or_last a (or_last b c)
or_last-assoc a b c = search arith

-- the last of two lists, one after the other
pub last_of-append : {X : Type 0} (p : X → Bool) (xs ys : List X) → last_of p (xs ++ ys) ≡ or_last (last_of p ys) (last_of p xs)
last_of-append p [] ys = sym (or_last-none (last_of p ys))
last_of-append p (x ∷ xs) ys = search (arith, or_last-assoc, last_of-append p xs ys)

-- the last with this element between those before it and those after it
abbrev pub last_with : {X : Type 0} → (X → Bool) → List X → ℕ → X → Option X
last_with p xs k x = or_last (last_of p (drop (suc k) xs)) (or_last (cond (p x) (Some x) None) (last_of p (take k xs)))

-- the last of those before an element and those after it
abbrev pub last_but : {X : Type 0} → (X → Bool) → List X → ℕ → Option X
last_but p xs k = or_last (last_of p (drop (suc k) xs)) (last_of p (take k xs))

pub last_of-with : {X : Type 0} (p : X → Bool) (xs : List X) (k : ℕ) (d : X) → k < length xs → last_of p xs ≡ last_with p xs k (get_or xs k d)
last_of-with p xs k d l = search (arith, take-append-drop, drop-cons, last_of-append, or_last-assoc, take-append-drop k xs, drop-cons xs k d l)

pub last_of-without : {X : Type 0} (p : X → Bool) (xs : List X) (k : ℕ) → last_of p (without k xs) ≡ last_but p xs k
last_of-without p xs k = last_of-append p (take k xs) (drop (suc k) xs)

pub last_of-set : {X : Type 0} (p : X → Bool) (xs : List X) (k : ℕ) (y : X) → k < length xs → last_of p (set xs k y) ≡ last_with p xs k y
last_of-set p xs k y l =
    let inside : k < length (set xs k y) = omega (arith, l, length-set xs k y) in
    last_of-with p (set xs k y) k y inside
    ∙ ((λ j. last_with p (set xs k y) k (get_or-set_same xs k y y l j))
    ∙ (λ j. or_last (last_of p (drop-set-lt (suc k) xs k y (omega arith) j)) (or_last (cond (p y) (Some y) None) (last_of p (take-set xs k y j)))))

-- whether some element passes
pub is_some-last : {X : Type 0} (p : X → Bool) (xs : List X) → is_some (last_of p xs) ≡ list_any p xs
is_some-last p [] = refl
is_some-last {X = X} p (x ∷ xs) = search (arith, is_some-last p xs)

pub list_any-map : {X Y : Type 0} (p : Y → Bool) (f : X → Y) (xs : List X) → list_any p (map f xs) ≡ list_any (λ x. p (f x)) xs
list_any-map p f [] = refl
list_any-map p f (x ∷ xs) = ap (λ b. p (f x) || b) (list_any-map p f xs)

abbrev pub over : {X Y : Type 0} → (X → Y) → Option X → Option Y
over f None = None
over f (Some x) = Some (f x)

pub last_of-map : {X Y : Type 0} (p : Y → Bool) (f : X → Y) (xs : List X) → last_of p (map f xs) ≡ over f (last_of (λ x. p (f x)) xs)
last_of-map p f [] = refl
last_of-map {X = X} p f (x ∷ xs) = search (arith, last_of-map p f xs)

pub without-map : {X Y : Type 0} (f : X → Y) (k : ℕ) (xs : List X) → without k (map f xs) ≡ map f (without k xs)
without-map f k xs = (λ j. take-map f k xs j ++ drop-map f (suc k) xs j) ∙ sym (map-append f (take k xs) (drop (suc k) xs))

-- An element has no effect on what is read of the last, if it does not pass, or a later one passes, or it says what those
-- before it say.
pub no_effect : {X V : Type 0} (read : Option X → V) (later before : Option X) (t : Bool) (x : X) →
    (read (or_last later (or_last (cond t (Some x) None) before)) ≡ read (or_last later before)) ↔ ((not (is_some later) && t) ≡ true → read (Some x) ≡ read before)
no_effect read later before t x = search arith

-- another element in its place has no effect, if it does not pass, or a later one passes, or it says the same
pub no_change : {X V : Type 0} (read : Option X → V) (later before : Option X) (t : Bool) (x y : X) →
    (read (or_last later (or_last (cond t (Some x) None) before)) ≡ read (or_last later (or_last (cond t (Some y) None) before))) ↔ ((not (is_some later) && t) ≡ true → read (Some x) ≡ read (Some y))
no_change read later before t x y = search arith

-- Without an element the last reads the same, if the element does not pass, or a later one passes, or it says what those
-- before it say.
pub same_without : {X V : Type 0} (read : Option X → V) (p : X → Bool) (xs : List X) (k : ℕ) (d : X) → k < length xs →
    (read (last_of p xs) ≡ read (last_of p (without k xs))) ↔ ((not (list_any p (drop (suc k) xs)) && p (get_or xs k d)) ≡ true → read (Some (get_or xs k d)) ≡ read (last_of p (take k xs)))
same_without {X} {V} read p xs k d l =
    let x = get_or xs k d in
    let all : read (last_of p xs) ≡ read (last_with p xs k x) = ap read (last_of-with p xs k d l) in
    let less : read (last_of p (without k xs)) ≡ read (last_but p xs k) = ap read (last_of-without p xs k) in
    let later : is_some (last_of p (drop (suc k) xs)) ≡ list_any p (drop (suc k) xs) = is_some-last p (drop (suc k) xs) in
    let law = no_effect read (last_of p (drop (suc k) xs)) (last_of p (take k xs)) (p x) x in (
      λ e h. law.0 (sym all ∙ (e ∙ less)) (ap (λ b. not b && p x) later ∙ h),
      λ f. all ∙ (law.1 (λ h. f (sym (ap (λ b. not b && p x) later) ∙ h)) ∙ sym less),
    )

-- the same of another element in its place, that passes as it does
pub same_set : {X V : Type 0} (read : Option X → V) (p : X → Bool) (xs : List X) (k : ℕ) (y d : X) → k < length xs → p y ≡ p (get_or xs k d) →
    (read (last_of p xs) ≡ read (last_of p (set xs k y))) ↔ ((not (list_any p (drop (suc k) xs)) && p (get_or xs k d)) ≡ true → read (Some (get_or xs k d)) ≡ read (Some y))
same_set {X} {V} read p xs k y d l same =
    let x = get_or xs k d in
    let later_of = last_of p (drop (suc k) xs) in
    let before = last_of p (take k xs) in
    let all : read (last_of p xs) ≡ read (last_with p xs k x) = ap read (last_of-with p xs k d l) in
    let other : read (last_of p (set xs k y)) ≡ read (or_last later_of (or_last (cond (p x) (Some y) None) before)) =
    ap read (last_of-set p xs k y l) ∙ ap (λ t. read (or_last later_of (or_last (cond t (Some y) None) before))) same in
    let later : is_some later_of ≡ list_any p (drop (suc k) xs) = is_some-last p (drop (suc k) xs) in
    let law = no_change read later_of before (p x) x y in (
      λ e h. law.0 (sym all ∙ (e ∙ other)) (ap (λ b. not b && p x) later ∙ h),
      λ f. all ∙ (law.1 (λ h. f (sym (ap (λ b. not b && p x) later) ∙ h)) ∙ sym other),
    )
