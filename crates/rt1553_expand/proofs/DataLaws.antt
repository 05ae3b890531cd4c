-- Data words, read one behind the other.
use Rattle.std.proofs.Common.{ℕ, zero, suc, ◌≡◌, ◌∙◌, ◌+◌, ◌-◌, ◌<◌, List, [], ◌∷◌, ◌++◌, Some, None, Err, replicate, refl, sym, ap, subst, arith}
use Rattle.line_format.specs.Reading.{field_at, fields_at}
use Rattle.line_format.specs.Shapes.{word}
use Rattle.line_format.proofs.Steps.{fields_front, fields_more}
use Rattle.rt1553_expand.specs.declared.fault.ExpandFault.TheVariants.{DataWord}
use Rattle.rt1553_expand.specs.Message.{nothing_behind, data_in}

-- the words so far, and then so many more
abbrev pub Left : ℕ → ℕ → List ℕ → List ℕ → List ℕ → Type 0
Left count left text words rest = fields_front words (fields_at (replicate left word) rest) ≡ fields_at (replicate count word) text

pub data-more : (count end i n : ℕ) (text words new rest others : List ℕ) → i < end → Some (n, others) ≡ field_at 16 4 rest → new ≡ words ++ n ∷ []
    → Left count (end - i) text words rest → Left count (end - (i + 1)) text new others
data-more count end i n text words new rest others low some added is =
    let less : end - (i + 1) ≡ end - i - 1 = omega arith in
    subst (λ ws. Left count (end - (i + 1)) text ws others) (sym added)
    (subst (λ left. Left count left text (words ++ n ∷ []) others) (sym less)
    (sym (fields_more word (end - i) words rest n others (omega (arith, low)) some) ∙ is))

missing : (left : ℕ) (words rest : List ℕ) → 0 < left → None ≡ field_at 16 4 rest → fields_front words (fields_at (replicate left word) rest) ≡ None
missing zero words rest some none = absurd (omega arith)
missing (suc k) words rest some none = rw (← none) refl

pub data-missing : (count left : ℕ) (text words rest : List ℕ) → 0 < left → None ≡ field_at 16 4 rest → Left count left text words rest → data_in count text ≡ Err DataWord
data-missing count left text words rest some none is = ap nothing_behind (sym is ∙ missing left words rest some none)
