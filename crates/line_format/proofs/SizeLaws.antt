-- How long texts are.
use Rattle.std.proofs.Common.{◌≡◌, ℕ, zero, suc, ◌+◌, ◌*◌, ◌≤◌, List, [], ◌∷◌, ◌++◌, Bool, length, length-append, replicate, refl, ap, ◌∙◌, arith}
use Rattle.line_format.specs.Format.{Field, Shape, Format, done, line, and_then, digits, Fit, spell_fields, spell, Spells}
use Rattle.line_format.specs.Shapes.{number_line, bit_line, numbered_line, words_line, word}
use Rattle.line_format.proofs.OneText.{Parted, parted}

-- every text has a length between these
pub record HasSize {A : Type 0} (F : Format A) (low high : ℕ) : Type 0 where
  pub least : (v : A) (x : List ℕ) → Spells F v x → low ≤ length x
  pub most : (v : A) (x : List ℕ) → Spells F v x → length x ≤ high

pub size_done : {A : Type 0} (a : A) → HasSize (done a) 0 0
size_done a = record { least = λ v x h. omega arith; most = λ v x h. (let none : length x ≡ 0 = ap length h.1 in omega arith) }

pub size_then : {A B : Type 0} (F : Format A) (g : A → Format B) (a b c d : ℕ) → HasSize F a b → ((v : A) → HasSize (g v) c d) → HasSize (and_then F g) (a + c) (b + d)
size_then {A = A} {B = B} F g a b c d front rest = record { least = λ v x h. low v x (parted F g v x h); most = λ v x h. high v x (parted F g v x h) }
  where
    low : (v : B) (x : List ℕ) → Parted F g v x → a + c ≤ length x
    low v x p =
        let all : length x ≡ length p.front + length p.rest = ap length p.is ∙ length-append p.front p.rest in
        omega (arith, front.least p.value p.front p.spells_front, (rest p.value).least v p.rest p.spells_rest)

    high : (v : B) (x : List ℕ) → Parted F g v x → length x ≤ b + d
    high v x p =
        let all : length x ≡ length p.front + length p.rest = ap length p.is ∙ length-append p.front p.rest in
        omega (arith, front.most p.value p.front p.spells_front, (rest p.value).most v p.rest p.spells_rest)

-- ---- lines

length-digits : (base width n : ℕ) → length (digits base width n) ≡ width
length-digits base zero n = refl
length-digits base (suc width) n = ap suc (length-digits base width _)

-- a space before each field
abbrev fields_length : List Field → ℕ
fields_length [] = 0
fields_length (f ∷ fs) = suc (f.width + fields_length fs)

length-fields : (fs : List Field) (xs : List ℕ) → Fit fs xs → length (spell_fields fs xs) ≡ fields_length fs
length-fields [] xs h = refl
length-fields (f ∷ fs) [] h = absurd h
length-fields (f ∷ fs) (x ∷ xs) h = omega (arith, length-append (digits f.base f.width x) (spell_fields fs xs), length-digits f.base f.width x, length-fields fs xs h.1)

length-spell : (s : Shape) (xs : List ℕ) → Fit s.fields xs → length (spell s xs) ≡ length s.name + (fields_length s.fields + 1)
unfolding spell
length-spell s xs h = omega (arith, length-append s.name (spell_fields s.fields xs ++ 10 ∷ []), length-append (spell_fields s.fields xs) (10 ∷ []), length-fields s.fields xs h)

-- one line, whatever it means
size_line : {A : Type 0} (s : Shape) (f : List ℕ → A) (n : ℕ) → n ≡ length s.name + (fields_length s.fields + 1) → HasSize (line s (λ xs. done (f xs))) n n
size_line {A = A} s f n e = record { least = λ v x h. (let same : length x ≡ n = all v x h in omega arith); most = λ v x h. (let same : length x ≡ n = all v x h in omega arith) }
  where
    all : (v : A) (x : List ℕ) → Spells (line s (λ xs. done (f xs))) v x → length x ≡ n
    all v x (xs, rest, allows, is, (same, none)) =
        ap length is ∙ length-append (spell s xs) rest ∙ omega (arith, ap length none, length-spell s xs allows.fit)

pub size_number : (name : List ℕ) (f : Field) (allowed : ℕ → Bool) (n : ℕ) → n ≡ length name + (f.width + 2) → HasSize (number_line name f allowed) n n
unfolding number_line
size_number name f allowed n e = size_line _ _ n (omega arith)

pub size_bit : (name : List ℕ) (n : ℕ) → n ≡ length name + 3 → HasSize (bit_line name) n n
unfolding bit_line
size_bit name n e = size_line _ _ n e

pub size_numbered : (name : List ℕ) (s n : ℕ) → n ≡ length name + 13 → HasSize (numbered_line name s) n n
unfolding numbered_line
size_numbered name s n e = size_line _ _ n e

pub size_words : (name : List ℕ) (s count n : ℕ) → n ≡ length name + (5 * count + 4) → HasSize (words_line name s count) n n
unfolding words_line
size_words name s count n e = size_line _ _ n (omega (arith, words count))
  where
    words : (count : ℕ) → fields_length (replicate count word) ≡ 5 * count
    words zero = refl
    words (suc count) = omega (arith, words count)
