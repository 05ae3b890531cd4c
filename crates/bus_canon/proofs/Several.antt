-- Lines of one kind after another, and lines that stand only under a test.
use Rattle.std.proofs.Common.{◌≡◌, ℕ, ◌+◌, Bool, true, false, List, [], ◌∷◌, ◌++◌, length, refl, ap, ap₂, sym, ◌∙◌, subst, append-nil, arith}
use Rattle.line_format.specs.Format.{Format, done, and_then, Spells, IsSound}
use Rattle.line_format.proofs.SoundLaws.{sound_then}
use Rattle.line_format.proofs.Writes.{spells-then}
use Rattle.line_format.proofs.OneText.{HasOneText, Parted, parted}
use Rattle.line_format.proofs.SizeLaws.{HasSize, size_done, size_then}
use Rattle.bus_canon.specs.Canon.{when}

-- one of several, and then the others
abbrev pub one_and : {X : Type 0} → Format X → Format (List X) → Format (List X)
one_and F G = and_then F (λ x. and_then G (λ xs. done (x ∷ xs)))

-- what a text of one and the others is made of
pub record OneAnd {X : Type 0} (F : Format X) (G : Format (List X)) (v : List X) (bytes : List ℕ) : Type 0 where
  pub first : X
  pub others : List X
  pub front : List ℕ
  pub rest : List ℕ
  pub means : v ≡ first ∷ others
  pub is : bytes ≡ front ++ rest
  pub spells_front : Spells F first front
  pub spells_rest : Spells G others rest

pub one_and_cut : {X : Type 0} (F : Format X) (G : Format (List X)) (v : List X) (bytes : List ℕ) → Spells (one_and F G) v bytes → OneAnd F G v bytes
one_and_cut {X = X} F G v bytes h = within (parted F (λ x. and_then G (λ xs. done (x ∷ xs))) v bytes h)
  where
    within : Parted F (λ x. and_then G (λ xs. done (x ∷ xs))) v bytes → OneAnd F G v bytes
    within p = behind (parted G (λ xs. done (p.value ∷ xs)) v p.rest p.spells_rest)
      where
        behind : Parted G (λ xs. done (p.value ∷ xs)) v p.rest → OneAnd F G v bytes
        behind q = record {
          first = p.value;
          others = q.value;
          front = p.front;
          rest = q.front;
          means = q.spells_rest.0;
          is = p.is ∙ ap (λ x. p.front ++ x) (q.is ∙ ap (λ x. q.front ++ x) q.spells_rest.1 ∙ append-nil q.front);
          spells_front = p.spells_front;
          spells_rest = q.spells_front;
        }

pub one_and_spelled : {X : Type 0} (F : Format X) (G : Format (List X)) (x : X) (xs : List X) (front rest : List ℕ) → Spells F x front → Spells G xs rest → Spells (one_and F G) (x ∷ xs) (front ++ rest)
one_and_spelled F G x xs front rest s t =
    spells-then F (λ x. and_then G (λ xs. done (x ∷ xs))) x (x ∷ xs) front rest s
    (subst (λ y. Spells (and_then G (λ xs. done (x ∷ xs))) (x ∷ xs) y) (append-nil rest) (spells-then G (λ xs. done (x ∷ xs)) xs (x ∷ xs) rest [] t (refl, refl)))

pub one_and_sound : {X : Type 0} (F : Format X) (G : Format (List X)) → IsSound F → IsSound G → IsSound (one_and F G)
one_and_sound F G s t = sound_then F (λ x. and_then G (λ xs. done (x ∷ xs))) s (λ x. sound_then G (λ xs. done (x ∷ xs)) t (λ xs. tt))

pub one_and_one : {X : Type 0} (F : Format X) (G : Format (List X)) → HasOneText F → HasOneText G → HasOneText (one_and F G)
one_and_one {X = X} F G s t v x y h k = within (one_and_cut F G v x h) (one_and_cut F G v y k)
  where
    within : OneAnd F G v x → OneAnd F G v y → x ≡ y
    within p q =
        let first : p.first ≡ q.first = cc (p.means, q.means) in
        let others : p.others ≡ q.others = cc (p.means, q.means) in
        let fronts : p.front ≡ q.front = s q.first p.front q.front (subst (λ a. Spells F a p.front) first p.spells_front) q.spells_front in
        let rests : p.rest ≡ q.rest = t q.others p.rest q.rest (subst (λ a. Spells G a p.rest) others p.spells_rest) q.spells_rest in
        p.is ∙ ap₂ (λ a b. a ++ b) fronts rests ∙ sym q.is

pub one_and_size : {X : Type 0} (F : Format X) (G : Format (List X)) (a b c d : ℕ) → HasSize F a b → HasSize G c d → HasSize (one_and F G) (a + c) (b + d)
one_and_size F G a b c d s t =
    let all : HasSize (one_and F G) (a + (c + 0)) (b + (d + 0)) =
    size_then F (λ x. and_then G (λ xs. done (x ∷ xs))) a b (c + 0) (d + 0) s (λ x. size_then G (λ xs. done (x ∷ xs)) c d 0 0 t (λ xs. size_done (x ∷ xs))) in
    record { least = λ v x h. omega (arith, all.least v x h); most = λ v x h. omega (arith, all.most v x h) }

-- ---- lines under a test

pub when_sound : {X : Type 0} (t : Bool) (absent : X) (F : Format X) → IsSound F → IsSound (when t absent F)
when_sound true absent F h = h
when_sound false absent F h = tt

pub when_one : {X : Type 0} (t : Bool) (absent : X) (F : Format X) → HasOneText F → HasOneText (when t absent F)
when_one true absent F h = h
when_one false absent F h = λ v x y s u. s.1 ∙ sym u.1

pub when_size : {X : Type 0} (t : Bool) (absent : X) (F : Format X) (low high : ℕ) → HasSize F low high → HasSize (when t absent F) 0 high
when_size true absent F low high h = record { least = λ v x s. omega arith; most = h.most }
when_size false absent F low high h = record { least = λ v x s. omega arith; most = λ v x s. (let none : length x ≡ 0 = ap length s.1 in omega arith) }

-- what is absent has its value
pub when_absent : {X : Type 0} (t : Bool) (absent : X) (F : Format X) (v : X) (x : List ℕ) → Spells (when t absent F) v x → t ≡ false → v ≡ absent
when_absent true absent F v x h e = cc
when_absent false absent F v x h e = h.0

-- what holds of what the lines may mean, and of the value of absent ones
pub when_holds : {X : Type 0} (P : X → Type 0) (t : Bool) (absent : X) (F : Format X) → ((v : X) (x : List ℕ) → Spells F v x → P v) → P absent → (v : X) (x : List ℕ) → Spells (when t absent F) v x → P v
when_holds P true absent F h none v x s = h v x s
when_holds P false absent F h none v x s = subst P (sym s.0) none

-- a value that has a text where there are lines, and is the value of absent ones where there are none
pub when_spelled : {X : Type 0} (t : Bool) (absent : X) (F : Format X) (v : X) → ((x : List ℕ) × Spells F v x) → (t ≡ false → v ≡ absent) → (x : List ℕ) × Spells (when t absent F) v x
when_spelled true absent F v h none = h
when_spelled false absent F v h none = ([], (none refl, refl))
