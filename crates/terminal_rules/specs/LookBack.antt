-- Words to look back over a list whose latest element is the first.
use Rattle.std.specs.Prelude.{Bool, false, ◌||◌, if◌then◌else◌, Option, Some, None, List, [], ◌∷◌}

-- the latest element that answers, by its answer
abbrev pub latest : {X Y : Type 0} → (X → Option Y) → List X → Option Y
latest f [] = None
latest f (x ∷ xs) = elim (f x) [ None ↦ latest f xs | Some y ↦ Some y ]

-- the value that there is, or else this one
abbrev pub or_else : {X : Type 0} → Option X → X → X
or_else None d = d
or_else (Some x) d = x

-- what came after the latest element that passes, or all
abbrev pub since : {X : Type 0} → (X → Bool) → List X → List X
since p [] = []
since p (x ∷ xs) = if p x then [] else x ∷ since p xs

-- what came before the latest element that passes
abbrev pub before : {X : Type 0} → (X → Bool) → List X → Option (List X)
before p [] = None
before p (x ∷ xs) = if p x then Some xs else before p xs

-- the answers of those that answer
abbrev pub keep : {X Y : Type 0} → (X → Option Y) → List X → List Y
keep f [] = []
keep f (x ∷ xs) = elim (f x) [ None ↦ keep f xs | Some y ↦ y ∷ keep f xs ]

-- whether any element passes
abbrev pub some : {X : Type 0} → (X → Bool) → List X → Bool
some p [] = false
some p (x ∷ xs) = p x || some p xs

-- the oldest element, and what came after it
abbrev pub oldest : {X : Type 0} → List X → Option (X × List X)
oldest [] = None
oldest (x ∷ xs) = elim (oldest xs) [ None ↦ Some (x, []) | Some p ↦ Some (p.0, x ∷ p.1) ]

-- the latest element that answers, where the answer may ask what came before it
abbrev pub latest_with : {X Y : Type 0} → (X → List X → Option Y) → List X → Option Y
latest_with f [] = None
latest_with f (x ∷ xs) = elim (f x xs) [ None ↦ latest_with f xs | Some y ↦ Some y ]

-- what came after that element, or all
abbrev pub since_with : {X Y : Type 0} → (X → List X → Option Y) → List X → List X
since_with f [] = []
since_with f (x ∷ xs) = elim (f x xs) [ None ↦ x ∷ since_with f xs | Some y ↦ [] ]
