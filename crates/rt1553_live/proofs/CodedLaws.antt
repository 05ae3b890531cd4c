-- Laws of lines whose words stand for a value.
use Rattle.std.proofs.Common.{◌≡◌, ℕ, ◌==◌, ◌&&◌, Bool, true, false, nat_eq, List, [], ◌∷◌, ◌++◌, Result, Ok, Err, Option, Some, None, refl, ap, ap₂, sym, ◌∙◌, subst, replicate, lit<, arith}
use Rattle.std.proofs.lemmas.Bool.Decides.{nat_tests}
use Rattle.std.proofs.lemmas.Cmp.{nat_list_eq_equiv}
use Rattle.std.specs.Cmp.Lexicographic.{pointwise, same_text}
use Rattle.line_format.specs.Format.{Fit, Spells, IsSound, is_plain, spell, done}
use Rattle.line_format.specs.Reading.{Spot, read, content_at}
use Rattle.line_format.specs.Shapes.{decimal, word, first, others, words_line}
use Rattle.line_format.proofs.Steps.{line_here, line_none, line_not}
use Rattle.line_format.proofs.OneText.{HasOneText}
use Rattle.rt1553_live.specs.Text.{coded_line}

-- the words are those that stand for what they mean
abbrev pub are_coded : {A : Type 0} → (List ℕ → A) → (A → List ℕ) → List ℕ → Bool
are_coded from numbers ws = pointwise nat_eq ws (numbers (from ws))

-- the words that stand for a value which they mean
pub are_coded-numbers : {A : Type 0} (from : List ℕ → A) (numbers : A → List ℕ) (a : A) → from (numbers a) ≡ a → are_coded from numbers (numbers a) ≡ true
are_coded-numbers from numbers a back = ap (λ x. pointwise nat_eq (numbers a) (numbers x)) back ∙ nat_list_eq_equiv.refl (numbers a)

left_test : (a b : Bool) → (a && b) ≡ true → a ≡ true
left_test true b e = refl
left_test false b e = e

right_test : (a b : Bool) → (a && b) ≡ true → b ≡ true
right_test true b e = e
right_test false b e = absurd (cc)

pub coded_sound : {A : Type 0} (name : List ℕ) (count : ℕ) (from : List ℕ → A) (numbers : A → List ℕ) (a : A) → is_plain name ≡ true → Fit (replicate count word) (numbers a) → from (numbers a) ≡ a
    → IsSound (coded_line name count from numbers)
unfolding coded_line
coded_sound name count from numbers a plain fit back = (plain, 1 ∷ numbers a, record { fit = (lit< tt, fit); allowed = are_coded-numbers from numbers a back }, λ ys allowed. tt)

-- what such a line holds is told by what it means
coded_words : {A : Type 0} (count : ℕ) (from : List ℕ → A) (numbers : A → List ℕ) (xs : List ℕ) → Fit (decimal ∷ replicate count word) xs → ((first xs == 1) && are_coded from numbers (others xs)) ≡ true
    → xs ≡ 1 ∷ numbers (from (others xs))
coded_words count from numbers [] fit e = absurd fit
coded_words count from numbers (x ∷ xs) fit e =
    let one : (x == 1) ≡ true = left_test (x == 1) (are_coded from numbers xs) e in
    let is_one : x ≡ 1 = grind (arith, nat_tests) in
    ap₂ (λ y ys. y ∷ ys) is_one (same_text xs (numbers (from xs)) (sym (right_test (x == 1) (are_coded from numbers xs) e)))

pub coded_one : {A : Type 0} (name : List ℕ) (count : ℕ) (from : List ℕ → A) (numbers : A → List ℕ) → HasOneText (coded_line name count from numbers)
unfolding coded_line
coded_one name count from numbers v x y (xs, rest, allows, is, (e, none)) (ys, rest', allows', is', (e', none')) =
    let same : xs ≡ ys = coded_words count from numbers xs allows.fit allows.allowed ∙ ap (λ a. 1 ∷ numbers a) (sym e ∙ e') ∙ sym (coded_words count from numbers ys allows'.fit allows'.allowed) in
    is ∙ ap₂ (λ zs r. spell (record { name = name; fields = decimal ∷ replicate count word; allowed = λ xs. (first xs == 1) && are_coded from numbers (others xs) }) zs ++ r) same (none ∙ sym none') ∙ sym is'

-- a line with the words that stand for a value which they mean
pub coded_spelled : {A : Type 0} (name : List ℕ) (count : ℕ) (from : List ℕ → A) (numbers : A → List ℕ) (a : A) (bytes : List ℕ) → from (numbers a) ≡ a → Spells (words_line name 1 count) (numbers a) bytes
    → Spells (coded_line name count from numbers) a bytes
unfolding coded_line words_line spell
coded_spelled name count from numbers a bytes back (xs, rest, allows, is, (e, none)) =
    (xs, rest, record { fit = allows.fit; allowed = ap₂ (λ s t. s && t) allows.allowed (ap (are_coded from numbers) (sym e) ∙ are_coded-numbers from numbers a back) }, is, (sym back ∙ ap from e, none))

-- the words of such a line
pub coded_are_words : {A : Type 0} (name : List ℕ) (count : ℕ) (from : List ℕ → A) (numbers : A → List ℕ) (v : A) (bytes : List ℕ) → Spells (coded_line name count from numbers) v bytes
    → (ws : List ℕ) × (v ≡ from ws) × Spells (words_line name 1 count) ws bytes
unfolding coded_line words_line spell
coded_are_words name count from numbers v bytes (xs, rest, allows, is, (e, none)) =
    (others xs, e, (xs, rest, record { fit = allows.fit; allowed = left_test (first xs == 1) (are_coded from numbers (others xs)) allows.allowed }, is, (refl, none)))

-- what is read of such a line, by what is read of its words and whether they are such
abbrev pub Tested : {A : Type 0} → (List ℕ → A) → (A → List ℕ) → Spot → Result (List ℕ × Spot) ℕ → Result (A × Spot) ℕ → Type 0
Tested from numbers p (Err n) c = c ≡ Err n
Tested from numbers p (Ok r) c = (true ≡ are_coded from numbers r.0 → c ≡ Ok (from r.0, r.1)) × (false ≡ are_coded from numbers r.0 → c ≡ Err p.number)

pub coded_read : {A : Type 0} (name : List ℕ) (count : ℕ) (from : List ℕ → A) (numbers : A → List ℕ) (p : Spot) → Tested from numbers p (read (words_line name 1 count) p) (read (coded_line name count from numbers) p)
unfolding coded_line words_line
coded_read {A = A} name count from numbers p = by_content (content_at name (decimal ∷ replicate count word) p.rest) refl
  where
    by_content : (o : Option (List ℕ × List ℕ)) → o ≡ content_at name (decimal ∷ replicate count word) p.rest → Tested from numbers p (read (words_line name 1 count) p) (read (coded_line name count from numbers) p)
    by_content None e = subst (λ r. Tested from numbers p r (read (coded_line name count from numbers) p)) (sym (line_none _ (λ xs. done (others xs)) p e)) (line_none _ (λ xs. done (from (others xs))) p e)
    by_content (Some (xs, rest)) e = by_first (first xs == 1) refl
      where
        by_first : (t : Bool) → (first xs == 1) ≡ t → Tested from numbers p (read (words_line name 1 count) p) (read (coded_line name count from numbers) p)
        by_first true t =
            subst (λ r. Tested from numbers p r (read (coded_line name count from numbers) p)) (sym (line_here _ (λ xs. done (others xs)) p xs rest e t))
            (λ same. line_here _ (λ xs. done (from (others xs))) p xs rest e (ap₂ (λ s t. s && t) t (sym same)), λ other. line_not _ (λ xs. done (from (others xs))) p xs rest e (ap₂ (λ s t. s && t) t (sym other)))
        by_first false t =
            subst (λ r. Tested from numbers p r (read (coded_line name count from numbers) p)) (sym (line_not _ (λ xs. done (others xs)) p xs rest e t))
            (line_not _ (λ xs. done (from (others xs))) p xs rest e (ap (λ s. s && are_coded from numbers (others xs)) t))

pub coded_err : {A : Type 0} (name : List ℕ) (count : ℕ) (from : List ℕ → A) (numbers : A → List ℕ) (p : Spot) (n : ℕ) → read (words_line name 1 count) p ≡ Err n → read (coded_line name count from numbers) p ≡ Err n
coded_err name count from numbers p n e = subst (λ r. Tested from numbers p r (read (coded_line name count from numbers) p)) e (coded_read name count from numbers p)

pub coded_ok : {A : Type 0} (name : List ℕ) (count : ℕ) (from : List ℕ → A) (numbers : A → List ℕ) (p q : Spot) (ws : List ℕ) → read (words_line name 1 count) p ≡ Ok (ws, q) → true ≡ are_coded from numbers ws
    → read (coded_line name count from numbers) p ≡ Ok (from ws, q)
coded_ok name count from numbers p q ws e = (subst (λ r. Tested from numbers p r (read (coded_line name count from numbers) p)) e (coded_read name count from numbers p)).0

pub coded_not : {A : Type 0} (name : List ℕ) (count : ℕ) (from : List ℕ → A) (numbers : A → List ℕ) (p q : Spot) (ws : List ℕ) → read (words_line name 1 count) p ≡ Ok (ws, q) → false ≡ are_coded from numbers ws
    → read (coded_line name count from numbers) p ≡ Err p.number
coded_not name count from numbers p q ws e = (subst (λ r. Tested from numbers p r (read (coded_line name count from numbers) p)) e (coded_read name count from numbers p)).1
