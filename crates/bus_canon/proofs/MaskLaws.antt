-- The lines of masks.
use Rattle.std.proofs.Common.{◌≡◌, ℕ, zero, suc, ◌+◌, ◌-◌, ◌*◌, ◌^◌, ◌<◌, List, [], ◌∷◌, ◌++◌, true, length, get_or, refl, ap, sym, ◌∙◌, subst, arith, lit<, add-one}
use Rattle.line_format.specs.Format.{Spells, IsSound, is_plain, spell_fields}
use Rattle.line_format.specs.Shapes.{numbered_line, decimal, mask}
use Rattle.line_format.proofs.SoundLaws.{sound_numbered}
use Rattle.line_format.proofs.Writes.{numbered_spelled}
use Rattle.line_format.proofs.OneText.{HasOneText, numbered_one, numbered_fits}
use Rattle.line_format.proofs.SizeLaws.{HasSize, size_done, size_numbered}
use Rattle.bus_legal.specs.Parts.{AreMasks}
use Rattle.bus_canon.specs.Canon.{masks}
use Rattle.bus_canon.proofs.Several.{OneAnd, one_and_cut, one_and_spelled, one_and_sound, one_and_one, one_and_size}

pub masks_sound : (name : List ℕ) (s k : ℕ) → s + k < 100 → is_plain name ≡ true → IsSound (masks name s k)
unfolding masks
masks_sound name s zero l e = tt
masks_sound name s (suc k) l e = one_and_sound (numbered_line name s) (masks name (suc s) k) (sound_numbered name s (omega arith) e) (masks_sound name (suc s) k (omega arith) e)

pub masks_one : (name : List ℕ) (s k : ℕ) → HasOneText (masks name s k)
unfolding masks
masks_one name s zero = λ v x y h t. h.1 ∙ sym t.1
masks_one name s (suc k) = one_and_one (numbered_line name s) (masks name (suc s) k) (numbered_one name s) (masks_one name (suc s) k)

pub masks_size : (name : List ℕ) (s k each n : ℕ) → each ≡ length name + 13 → n ≡ k * each → HasSize (masks name s k) n n
unfolding masks
masks_size name s zero each n e is = let none : HasSize (masks name s zero) 0 0 = size_done [] in let same : n ≡ 0 = omega arith in subst (λ n. HasSize (masks name s zero) n n) (sym same) none
masks_size name s (suc k) each n e is =
    let all : HasSize (masks name s (suc k)) (each + k * each) (each + k * each) =
    one_and_size (numbered_line name s) (masks name (suc s) k) each each (k * each) (k * each) (size_numbered name s each e) (masks_size name (suc s) k each (k * each) e refl) in
    let same : n ≡ each + k * each = grind arith in
    subst (λ n. HasSize (masks name s (suc k)) n n) (sym same) all

-- so many masks
pub record AreSoMany (count : ℕ) (ms : List ℕ) : Type 0 where
  pub long : length ms ≡ count
  pub fit : (s : ℕ) → get_or ms s 0 < 2 ^ 32

pub masks_are : (name : List ℕ) (s k : ℕ) (v x : List ℕ) → Spells (masks name s k) v x → AreSoMany k v
unfolding masks
masks_are name s zero v x h = subst (AreSoMany zero) (sym h.0) (record { long = refl; fit = λ i. lit< tt })
masks_are name s (suc k) v x h = within (one_and_cut (numbered_line name s) (masks name (suc s) k) v x h) (masks_are name (suc s) k)
  where
    within : OneAnd (numbered_line name s) (masks name (suc s) k) v x → ((v x : List ℕ) → Spells (masks name (suc s) k) v x → AreSoMany k v) → AreSoMany (suc k) v
    within p others_are =
        let later : AreSoMany k p.others = others_are p.others p.rest p.spells_rest in
        subst (AreSoMany (suc k)) (sym p.means) (record { long = ap suc later.long; fit = by_place (numbered_fits name s p.first p.front p.spells_front) later.fit })
      where
        by_place : p.first < 2 ^ 32 → ((i : ℕ) → get_or p.others i 0 < 2 ^ 32) → (i : ℕ) → get_or (p.first ∷ p.others) i 0 < 2 ^ 32
        by_place here later zero = here
        by_place here later (suc i) = later i

pub are_masks : (ms : List ℕ) → AreSoMany 30 ms → AreMasks ms
are_masks ms are = record { thirty = are.long; fit = are.fit }

pub masks_some : (name : List ℕ) (s k : ℕ) (ms : List ℕ) → s + k < 100 → AreSoMany k ms → (x : List ℕ) × Spells (masks name s k) ms x
unfolding masks
masks_some name s zero [] l are = ([], (refl, refl))
masks_some name s zero (m ∷ ms) l are = absurd (omega (arith, are.long))
masks_some name s (suc k) [] l are = absurd (omega (arith, are.long))
masks_some name s (suc k) (m ∷ ms) l are =
    let later = masks_some name (suc s) k ms (omega arith) (record { long = omega (arith, are.long); fit = λ i. are.fit (suc i) }) in
    let line : List ℕ = name ++ (spell_fields (decimal ∷ mask ∷ []) (s ∷ m ∷ []) ++ 10 ∷ []) in
    (line ++ later.0, one_and_spelled (numbered_line name s) (masks name (suc s) k) m ms line later.0 (numbered_spelled name s m (omega arith) (are.fit 0)) later.1)

-- one more line
pub masks_on : (name : List ℕ) (s left m : ℕ) (ms x y : List ℕ) → 0 < left → Spells (numbered_line name s) m x → Spells (masks name (s + 1) (left - 1)) ms y → Spells (masks name s left) (m ∷ ms) (x ++ y)
unfolding masks
masks_on name s zero m ms x y some a b = absurd (omega arith)
masks_on name s (suc k) m ms x y some a b =
    let less : suc k - 1 ≡ k = omega arith in
    one_and_spelled (numbered_line name s) (masks name (suc s) k) m ms x y a (rw (add-one, less) at b)

pub masks_none : (name : List ℕ) (s : ℕ) → Spells (masks name s 0) [] []
unfolding masks
masks_none name s = (refl, refl)
