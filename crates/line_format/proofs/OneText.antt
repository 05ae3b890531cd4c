-- Formats in which a value has one text.
use Rattle.std.proofs.Common.{◌≡◌, ℕ, zero, suc, ◌<◌, ◌^◌, ◌==◌, List, [], ◌∷◌, ◌++◌, Bool, true, refl, ap, ap₂, sym, ◌∙◌, subst, append_assoc, arith, length, get_or, replicate, lit<}
use Rattle.std.proofs.lemmas.Bool.Decides.{nat_tests}
use Rattle.line_format.specs.Format.{Field, Format, done, line, and_then, Fit, spell, Spells}
use Rattle.line_format.specs.Shapes.{number_line, bit_line, numbered_line, words_line, number_field, decimal, word, mask, first, others}

abbrev pub HasOneText : {A : Type 0} → Format A → Type 0
HasOneText {A = A} F = (v : A) (x y : List ℕ) → Spells F v x → Spells F v y → x ≡ y

-- a text of one format after another is a text of the one, and then a text of the other
pub record Parted {A B : Type 0} (F : Format A) (g : A → Format B) (v : B) (bytes : List ℕ) : Type 0 where
  pub value : A
  pub front : List ℕ
  pub rest : List ℕ
  pub is : bytes ≡ front ++ rest
  pub spells_front : Spells F value front
  pub spells_rest : Spells (g value) v rest

pub parted : {A B : Type 0} (F : Format A) (g : A → Format B) (v : B) (bytes : List ℕ) → Spells (and_then F g) v bytes → Parted F g v bytes
unfolding and_then
parted (done a) g v bytes h = record { value = a; front = []; rest = bytes; is = refl; spells_front = (refl, refl); spells_rest = h }
parted (line s next) g v bytes (xs, rest, allows, is, spells) =
    let p = parted (next xs) g v rest spells in
    record {
      value = p.value;
      front = spell s xs ++ p.front;
      rest = p.rest;
      is = is ∙ ap (λ r. spell s xs ++ r) p.is ∙ sym (append_assoc (spell s xs) p.front p.rest);
      spells_front = (xs, p.front, allows, refl, p.spells_front);
      spells_rest = p.spells_rest;
    }

-- ---- lines

no_fields : (xs : List ℕ) → Fit [] xs → xs ≡ []
no_fields [] h = refl
no_fields (x ∷ xs) h = absurd h

one_field : (f : Field) (xs : List ℕ) → Fit (f ∷ []) xs → xs ≡ first xs ∷ []
one_field f [] h = absurd h
one_field f (x ∷ xs) h = ap (λ ys. x ∷ ys) (no_fields xs h.1)

pub number_one : (name : List ℕ) (f : Field) (allowed : ℕ → Bool) → HasOneText (number_line name f allowed)
unfolding number_line
number_one name f allowed v x y (xs, rest, allows, is, (e, none)) (ys, rest', allows', is', (e', none')) =
    let same : xs ≡ ys = one_field f xs allows.fit ∙ ap (λ n. n ∷ []) (sym e ∙ e') ∙ sym (one_field f ys allows'.fit) in
    is ∙ ap₂ (λ zs r. spell (record { name = name; fields = f ∷ []; allowed = λ zs. allowed (first zs) }) zs ++ r) same (none ∙ sym none') ∙ sym is'

-- a number line of which one number is allowed means that
pub number_value : (name : List ℕ) (f : Field) (allowed : ℕ → Bool) (v : ℕ) (x : List ℕ) → Spells (number_line name f allowed) v x → allowed v ≡ true
unfolding number_line
number_value name f allowed v x (xs, rest, allows, is, (e, none)) = ap allowed e ∙ allows.allowed

-- what spells a number on a line where this test passes, spells it where another passes it
pub number_weaker : (name : List ℕ) (f : Field) (allowed others : ℕ → Bool) (v : ℕ) (x : List ℕ) → others v ≡ true → Spells (number_line name f allowed) v x → Spells (number_line name f others) v x
unfolding number_line spell
number_weaker name f allowed others v x ok (xs, rest, allows, is, (e, none)) = (xs, rest, record { fit = allows.fit; allowed = ap others (sym e) ∙ ok }, is, (e, none))

-- a number line means a number of so many digits
pub number_fits : (name : List ℕ) (f : Field) (allowed : ℕ → Bool) (v : ℕ) (x : List ℕ) → Spells (number_line name f allowed) v x → v < f.base ^ f.width
unfolding number_line
number_fits name f allowed v x (xs, rest, allows, is, (e, none)) = subst (λ n. n < f.base ^ f.width) (sym e) (first_fits xs allows.fit)
  where
    first_fits : (xs : List ℕ) → Fit (f ∷ []) xs → first xs < f.base ^ f.width
    first_fits [] h = absurd h
    first_fits (x ∷ xs) h = h.0

pub bit_one : (name : List ℕ) → HasOneText (bit_line name)
unfolding bit_line
bit_one name v x y (xs, rest, allows, is, (e, none)) (ys, rest', allows', is', (e', none')) =
    let same : xs ≡ ys = one_field (number_field 2 1) xs allows.fit ∙ ap (λ n. n ∷ []) (same_bits xs ys allows.fit allows'.fit (sym e ∙ e')) ∙ sym (one_field (number_field 2 1) ys allows'.fit) in
    is ∙ ap₂ (λ zs r. spell (record { name = name; fields = number_field 2 1 ∷ []; allowed = λ _. true }) zs ++ r) same (none ∙ sym none') ∙ sym is'
  where
    both : (n m : ℕ) → n < 2 → m < 2 → (n == 1) ≡ (m == 1) → n ≡ m
    both n m l k e = grind (arith, nat_tests)

    same_bits : (xs ys : List ℕ) → Fit (number_field 2 1 ∷ []) xs → Fit (number_field 2 1 ∷ []) ys → (first xs == 1) ≡ (first ys == 1) → first xs ≡ first ys
    same_bits [] ys h k e = absurd h
    same_bits (x ∷ xs) [] h k e = absurd k
    same_bits (x ∷ xs) (y ∷ ys) h k e = both x y h.0 k.0 e

two_fields : (xs : List ℕ) → Fit (decimal ∷ mask ∷ []) xs → xs ≡ first xs ∷ first (others xs) ∷ []
two_fields [] h = absurd h
two_fields (x ∷ xs) h = ap (λ ys. x ∷ ys) (one_field mask xs h.1)

pub numbered_one : (name : List ℕ) (s : ℕ) → HasOneText (numbered_line name s)
unfolding numbered_line
numbered_one name s v x y (xs, rest, allows, is, (e, none)) (ys, rest', allows', is', (e', none')) =
    let left : first xs ≡ s = grind (arith, nat_tests, allows.allowed) in
    let right : first ys ≡ s = grind (arith, nat_tests, allows'.allowed) in
    let same : xs ≡ ys = two_fields xs allows.fit ∙ ap₂ (λ n m. n ∷ m ∷ []) (left ∙ sym right) (sym e ∙ e') ∙ sym (two_fields ys allows'.fit) in
    is ∙ ap₂ (λ zs r. spell (record { name = name; fields = decimal ∷ mask ∷ []; allowed = λ xs. first xs == s }) zs ++ r) same (none ∙ sym none') ∙ sym is'

-- a line with a mask means a mask
pub numbered_fits : (name : List ℕ) (s v : ℕ) (x : List ℕ) → Spells (numbered_line name s) v x → v < 2 ^ 32
unfolding numbered_line
numbered_fits name s v x (xs, rest, allows, is, (e, none)) = subst (λ n. n < 2 ^ 32) (sym e) (second_fits xs allows.fit)
  where
    second_fits : (xs : List ℕ) → Fit (decimal ∷ mask ∷ []) xs → first (others xs) < 2 ^ 32
    second_fits [] h = absurd h
    second_fits (x ∷ []) h = absurd h.1
    second_fits (x ∷ y ∷ xs) h = h.1.0

words_fields : (count : ℕ) (xs : List ℕ) → Fit (decimal ∷ replicate count word) xs → xs ≡ first xs ∷ others xs
words_fields count [] h = absurd h
words_fields count (x ∷ xs) h = refl

pub words_one : (name : List ℕ) (s count : ℕ) → HasOneText (words_line name s count)
unfolding words_line
words_one name s count v x y (xs, rest, allows, is, (e, none)) (ys, rest', allows', is', (e', none')) =
    let left : first xs ≡ s = grind (arith, nat_tests, allows.allowed) in
    let right : first ys ≡ s = grind (arith, nat_tests, allows'.allowed) in
    let same : xs ≡ ys = words_fields count xs allows.fit ∙ ap₂ (λ n ms. n ∷ ms) (left ∙ sym right) (sym e ∙ e') ∙ sym (words_fields count ys allows'.fit) in
    is ∙ ap₂ (λ zs r. spell (record { name = name; fields = decimal ∷ replicate count word; allowed = λ xs. first xs == s }) zs ++ r) same (none ∙ sym none') ∙ sym is'

-- so many words
pub record AreSoManyWords (count : ℕ) (ws : List ℕ) : Type 0 where
  pub long : length ws ≡ count
  pub fit : (i : ℕ) → get_or ws i 0 < 2 ^ 16

-- a line with words means so many words
pub words_fit : (name : List ℕ) (s count : ℕ) (v : List ℕ) (x : List ℕ) → Spells (words_line name s count) v x → AreSoManyWords count v
unfolding words_line
words_fit name s count v x (xs, rest, allows, is, (e, none)) = subst (AreSoManyWords count) (sym e) (behind xs allows.fit)
  where
    all : (count : ℕ) (ws : List ℕ) → Fit (replicate count word) ws → AreSoManyWords count ws
    all zero [] h = record { long = refl; fit = λ i. lit< tt }
    all zero (w ∷ ws) h = absurd h
    all (suc count) [] h = absurd h
    all (suc count) (w ∷ ws) h = let later : AreSoManyWords count ws = all count ws h.1 in record { long = ap suc later.long; fit = by_place h.0 later.fit }
      where
        by_place : w < 2 ^ 16 → ((i : ℕ) → get_or ws i 0 < 2 ^ 16) → (i : ℕ) → get_or (w ∷ ws) i 0 < 2 ^ 16
        by_place here later zero = here
        by_place here later (suc i) = later i

    behind : (xs : List ℕ) → Fit (decimal ∷ replicate count word) xs → AreSoManyWords count (others xs)
    behind [] h = absurd h
    behind (x ∷ xs) h = all count xs h.1
