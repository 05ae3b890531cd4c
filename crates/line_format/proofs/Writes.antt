-- Texts that are written.
use Rattle.std.proofs.Common.{◌≡◌, ℕ, zero, suc, ◌+◌, ◌-◌, ◌==◌, Bool, false, cond, length, get_or, drop, replicate, ◌^◌, ◌<◌, List, [], ◌∷◌, ◌++◌, true, refl, ap, sym, ◌∙◌, arith, append_assoc, append-nil}
use Rattle.std.proofs.lemmas.Bool.Decides.{nat_tests}
use Rattle.std.proofs.lemmas.List.{drop_more}
use Rattle.line_format.specs.Format.{Field, Shape, Format, done, line, and_then, digits, Fit, Allows, spell_fields, spell, Spells}
use Rattle.line_format.specs.Shapes.{number_line, bit_line, numbered_line, words_line, number_field, decimal, word, mask, first, others}

pub spelled_line : {A : Type 0} (s : Shape) (f : List ℕ → A) (xs : List ℕ) → Allows s xs → Spells (line s (λ xs. done (f xs))) (f xs) (spell s xs)
spelled_line s f xs a = (xs, [], a, sym (append-nil (spell s xs)), (refl, refl))

pub spells-then : {A B : Type 0} (F : Format A) (g : A → Format B) (a : A) (v : B) (x y : List ℕ) → Spells F a x → Spells (g a) v y → Spells (and_then F g) v (x ++ y)
unfolding and_then
spells-then (done b) g a v x y (e, none) t = rw (none, ← e) t
spells-then (line s next) g a v x y (xs, rest, allows, is, s') t = (xs, rest ++ y, allows, ap (λ x. x ++ y) is ∙ append_assoc (spell s xs) rest y, spells-then (next xs) g a v rest y s' t)

-- ---- lines

abbrev pub number_text : List ℕ → Field → ℕ → List ℕ
number_text name f n = name ++ (spell_fields (f ∷ []) (n ∷ []) ++ 10 ∷ [])

pub number_spelled : (name : List ℕ) (f : Field) (allowed : ℕ → Bool) (n : ℕ) → n < f.base ^ f.width → allowed n ≡ true → Spells (number_line name f allowed) n (number_text name f n)
unfolding number_line spell
number_spelled name f allowed n l ok =
    spelled_line (record { name = name; fields = f ∷ []; allowed = λ xs. allowed (first xs) }) first (n ∷ []) (record { fit = (l, tt); allowed = ok })

pub bit_spelled : (name : List ℕ) (bit : Bool) (n : ℕ) → n ≡ cond bit 1 0 → Spells (bit_line name) bit (number_text name (number_field 2 1) n)
unfolding bit_line spell
bit_spelled name true n e = rw e (spelled_line (record { name = name; fields = number_field 2 1 ∷ []; allowed = λ _. true }) (λ xs. first xs == 1) (1 ∷ []) (record { fit = (omega arith, tt); allowed = refl }))
bit_spelled name false n e = rw e (spelled_line (record { name = name; fields = number_field 2 1 ∷ []; allowed = λ _. true }) (λ xs. first xs == 1) (0 ∷ []) (record { fit = (omega arith, tt); allowed = refl }))

pub numbered_spelled : (name : List ℕ) (s n : ℕ) → s < 100 → n < 2 ^ 32 → Spells (numbered_line name s) n (name ++ (spell_fields (decimal ∷ mask ∷ []) (s ∷ n ∷ []) ++ 10 ∷ []))
unfolding numbered_line spell
numbered_spelled name s n l k =
    spelled_line (record { name = name; fields = decimal ∷ mask ∷ []; allowed = λ xs. first xs == s }) (λ xs. first (others xs)) (s ∷ n ∷ []) (record { fit = (l, (k, tt)); allowed = grind (arith, nat_tests) })

-- numbers that fit words
pub words_fit : (count : ℕ) (ws : List ℕ) → length ws ≡ count → ((i : ℕ) → get_or ws i 0 < 2 ^ 16) → Fit (replicate count word) ws
words_fit zero [] long fit = tt
words_fit zero (w ∷ ws) long fit = absurd (omega arith)
words_fit (suc count) [] long fit = absurd (omega arith)
words_fit (suc count) (w ∷ ws) long fit = (fit 0, words_fit count ws (omega arith) (λ i. fit (suc i)))

pub words_spelled : (name : List ℕ) (s : ℕ) (ws : List ℕ) → s < 100 → ((i : ℕ) → get_or ws i 0 < 2 ^ 16)
    → Spells (words_line name s (length ws)) ws (name ++ (spell_fields (decimal ∷ replicate (length ws) word) (s ∷ ws) ++ 10 ∷ []))
unfolding words_line spell
words_spelled name s ws l fit =
    spelled_line (record { name = name; fields = decimal ∷ replicate (length ws) word; allowed = λ xs. first xs == s }) others (s ∷ ws)
    (record { fit = (l, words_fit (length ws) ws refl fit); allowed = grind (arith, nat_tests) })

-- one more word
pub words_more : (out ws : List ℕ) (i : ℕ) → i < length ws
    → out ++ spell_fields (replicate (length ws - i) word) (drop i ws) ≡ ((out ++ 32 ∷ []) ++ digits 16 4 (get_or ws i 0)) ++ spell_fields (replicate (length ws - (i + 1)) word) (drop (i + 1) ws)
words_more out ws i l =
    let some : length ws - i ≡ suc (length ws - (i + 1)) = omega arith in
    let front : drop i ws ≡ get_or ws i 0 ∷ drop (i + 1) ws = drop_more ws i 0 l in
    rw (some, front) (sym (append_assoc (out ++ 32 ∷ []) (digits 16 4 (get_or ws i 0)) _ ∙ append_assoc out (32 ∷ []) _))
