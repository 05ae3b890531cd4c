-- Steps of the readers.
use Rattle.std.proofs.Common.{◌≡◌, ◌≢◌, ℕ, zero, suc, ◌+◌, ◌-◌, ◌<◌, ◌==◌, List, [], ◌∷◌, ◌++◌, Bool, true, false, Result, Ok, Err, Option, Some, None, option_map, MatchOption, Bor, refl, ap, sym, ◌∙◌, arith, append_assoc, replicate}
use Rattle.line_format.specs.Front.{◌>>=◌, after}
use Rattle.line_format.specs.Reading.{field_at, fields_at, content_at, line_at, Spot, read}
use Rattle.line_format.specs.Format.{Field, Shape, Format, done, line, and_then}
use Rattle.line_format.specs.Shapes.{first, others, number_line, bit_line, numbered_line, words_line, number_field, decimal, word, mask}
use Rattle.line_format.proofs.Digits.{after-front, after-is}
use Rattle.std.proofs.lemmas.Bool.Decides.{nat_tests}

pub after_found : (cs bytes : List ℕ) (r : Option (Bor (List ℕ))) → MatchOption r ((rest : List ℕ) → bytes ≢ cs ++ rest) (λ x. bytes ≡ cs ++ x.now) → option_map (λ r. r.now) r ≡ after cs bytes
after_found cs bytes None h = sym (none (after cs bytes) refl)
  where
    none : (o : Option (List ℕ)) → after cs bytes ≡ o → after cs bytes ≡ None
    none None e = e
    none (Some rest) e = absurd (h rest (after-is cs bytes rest e))
after_found cs bytes (Some x) h = sym (ap (after cs) h ∙ after-front cs x.now)

-- ---- lines

-- what is read after a line, or its number
abbrev on : {A : Type 0} → (List ℕ → Format A) → Spot → Option (List ℕ × List ℕ) → Result (A × Spot) ℕ
on next p None = Err p.number
on next p (Some found) = read (next found.0) (record { number = p.number + 1; rest = found.1 })

on_line : {A : Type 0} (s : Shape) (next : List ℕ → Format A) (p : Spot) (o : Option (List ℕ × List ℕ)) → line_at s p.rest ≡ o → read (line s next) p ≡ on next p o
on_line s next p None e = rw (read, e) refl
on_line s next p (Some found) e = rw (read, e) refl

pub line_here : {A : Type 0} (s : Shape) (next : List ℕ → Format A) (p : Spot) (xs rest : List ℕ) → Some (xs, rest) ≡ content_at s.name s.fields p.rest → s.allowed xs ≡ true → read (line s next) p ≡ read (next xs) (record { number = p.number + 1; rest = rest })
unfolding line_at
line_here s next p xs rest e ok = on_line s next p (Some (xs, rest)) (rw (← e, ok) refl)

pub line_none : {A : Type 0} (s : Shape) (next : List ℕ → Format A) (p : Spot) → None ≡ content_at s.name s.fields p.rest → read (line s next) p ≡ Err p.number
unfolding line_at
line_none s next p e = on_line s next p None (rw (← e) refl)

pub line_not : {A : Type 0} (s : Shape) (next : List ℕ → Format A) (p : Spot) (xs rest : List ℕ) → Some (xs, rest) ≡ content_at s.name s.fields p.rest → s.allowed xs ≡ false → read (line s next) p ≡ Err p.number
unfolding line_at
line_not s next p xs rest e wrong = on_line s next p None (rw (← e, wrong) refl)

pub number_here : (name : List ℕ) (f : Field) (allowed : ℕ → Bool) (p q : Spot) (n : ℕ) (rest : List ℕ) → Some (n ∷ [], rest) ≡ content_at name (f ∷ []) p.rest → allowed n ≡ true → q ≡ record { number = p.number + 1; rest = rest } → read (number_line name f allowed) p ≡ Ok (n, q)
unfolding number_line
number_here name f allowed p q n rest e ok at = line_here _ (λ xs. done (first xs)) p (n ∷ []) rest e ok ∙ ap (λ q. Ok (n, q)) (sym at)

pub number_none : (name : List ℕ) (f : Field) (allowed : ℕ → Bool) (p : Spot) → None ≡ content_at name (f ∷ []) p.rest → read (number_line name f allowed) p ≡ Err p.number
unfolding number_line
number_none name f allowed p e = line_none _ (λ xs. done (first xs)) p e

pub number_not : (name : List ℕ) (f : Field) (allowed : ℕ → Bool) (p : Spot) (n : ℕ) (rest : List ℕ) → Some (n ∷ [], rest) ≡ content_at name (f ∷ []) p.rest → allowed n ≡ false → read (number_line name f allowed) p ≡ Err p.number
unfolding number_line
number_not name f allowed p n rest e wrong = line_not _ (λ xs. done (first xs)) p (n ∷ []) rest e wrong

-- ---- one thing after another

infixl 10 ◌then◌
abbrev pub ◌then◌ : {A B : Type 0} → Result (A × Spot) ℕ → (A × Spot → Result (B × Spot) ℕ) → Result (B × Spot) ℕ
(Ok x) then f = f x
(Err e) then f = Err e

pub read-then : {A B : Type 0} (F : Format A) (g : A → Format B) (p : Spot) → read (and_then F g) p ≡ (read F p then λ r. read (g r.0) r.1)
unfolding and_then
read-then (done a) g p = refl
read-then {A = A} {B = B} (line s next) g p = pick (line_at s p.rest) refl (λ xs q. read-then (next xs) g q)
  where
    pick : (o : Option (List ℕ × List ℕ)) → line_at s p.rest ≡ o → ((xs : List ℕ) (q : Spot) → read (and_then (next xs) g) q ≡ (read (next xs) q then λ r. read (g r.0) r.1))
        → read (line s (λ xs. and_then (next xs) g)) p ≡ (read (line s next) p then λ r. read (g r.0) r.1)
    pick None e later = on_line s (λ xs. and_then (next xs) g) p None e ∙ sym (ap (λ r. r then λ r. read (g r.0) r.1) (on_line s next p None e))
    pick (Some found) e later = on_line s (λ xs. and_then (next xs) g) p (Some found) e ∙ later found.0 _ ∙ sym (ap (λ r. r then λ r. read (g r.0) r.1) (on_line s next p (Some found) e))

pub then_ok : {A B : Type 0} (F : Format A) (g : A → Format B) (p q : Spot) (a : A) → read F p ≡ Ok (a, q) → read (and_then F g) p ≡ read (g a) q
then_ok F g p q a e = read-then F g p ∙ ap (λ r. r then λ r. read (g r.0) r.1) e

pub then_err : {A B : Type 0} (F : Format A) (g : A → Format B) (p : Spot) (n : ℕ) → read F p ≡ Err n → read (and_then F g) p ≡ Err n
then_err F g p n e = read-then F g p ∙ ap (λ r. r then λ r. read (g r.0) r.1) e

-- ---- other lines

pub bit_here : (name : List ℕ) (p q : Spot) (n : ℕ) (rest : List ℕ) → Some (n ∷ [], rest) ≡ content_at name (number_field 2 1 ∷ []) p.rest → q ≡ record { number = p.number + 1; rest = rest } → read (bit_line name) p ≡ Ok (n == 1, q)
unfolding bit_line
bit_here name p q n rest e at = line_here _ (λ xs. done (first xs == 1)) p (n ∷ []) rest e refl ∙ ap (λ q. Ok (n == 1, q)) (sym at)

pub bit_none : (name : List ℕ) (p : Spot) → None ≡ content_at name (number_field 2 1 ∷ []) p.rest → read (bit_line name) p ≡ Err p.number
unfolding bit_line
bit_none name p e = line_none _ (λ xs. done (first xs == 1)) p e

pub numbered_here : (name : List ℕ) (s : ℕ) (p q : Spot) (t n : ℕ) (rest : List ℕ) → Some (t ∷ n ∷ [], rest) ≡ content_at name (decimal ∷ mask ∷ []) p.rest → t ≡ s → q ≡ record { number = p.number + 1; rest = rest } → read (numbered_line name s) p ≡ Ok (n, q)
unfolding numbered_line
numbered_here name s p q t n rest e same at = line_here _ (λ xs. done (first (others xs))) p (t ∷ n ∷ []) rest e (grind (arith, nat_tests)) ∙ ap (λ q. Ok (n, q)) (sym at)

pub numbered_none : (name : List ℕ) (s : ℕ) (p : Spot) → None ≡ content_at name (decimal ∷ mask ∷ []) p.rest → read (numbered_line name s) p ≡ Err p.number
unfolding numbered_line
numbered_none name s p e = line_none _ (λ xs. done (first (others xs))) p e

pub numbered_not : (name : List ℕ) (s : ℕ) (p : Spot) (t n : ℕ) (rest : List ℕ) → Some (t ∷ n ∷ [], rest) ≡ content_at name (decimal ∷ mask ∷ []) p.rest → t ≢ s → read (numbered_line name s) p ≡ Err p.number
unfolding numbered_line
numbered_not name s p t n rest e other = line_not _ (λ xs. done (first (others xs))) p (t ∷ n ∷ []) rest e (grind (arith, nat_tests))

pub words_here : (name : List ℕ) (s count : ℕ) (p q : Spot) (t : ℕ) (ws rest : List ℕ) → content_at name (decimal ∷ replicate count word) p.rest ≡ Some (t ∷ ws, rest) → t ≡ s → q ≡ record { number = p.number + 1; rest = rest } → read (words_line name s count) p ≡ Ok (ws, q)
unfolding words_line
words_here name s count p q t ws rest e same at = line_here _ (λ xs. done (others xs)) p (t ∷ ws) rest (sym e) (grind (arith, nat_tests)) ∙ ap (λ q. Ok (ws, q)) (sym at)

pub words_none : (name : List ℕ) (s count : ℕ) (p : Spot) → content_at name (decimal ∷ replicate count word) p.rest ≡ None → read (words_line name s count) p ≡ Err p.number
unfolding words_line
words_none name s count p e = line_none _ (λ xs. done (others xs)) p (sym e)

pub words_not : (name : List ℕ) (s count : ℕ) (p : Spot) (t : ℕ) (ws rest : List ℕ) → content_at name (decimal ∷ replicate count word) p.rest ≡ Some (t ∷ ws, rest) → t ≢ s → read (words_line name s count) p ≡ Err p.number
unfolding words_line
words_not name s count p t ws rest e other = line_not _ (λ xs. done (others xs)) p (t ∷ ws) rest (sym e) (grind (arith, nat_tests))

-- ---- words

abbrev pub fields_front : List ℕ → Option (List ℕ × List ℕ) → Option (List ℕ × List ℕ)
fields_front front None = None
fields_front front (Some p) = Some (front ++ p.0, p.1)

pub fields_more : (f : Field) (left : ℕ) (front : List ℕ) (bytes : List ℕ) (n : ℕ) (rest : List ℕ) → 0 < left → Some (n, rest) ≡ field_at f.base f.width bytes
    → fields_front front (fields_at (replicate left f) bytes) ≡ fields_front (front ++ n ∷ []) (fields_at (replicate (left - 1) f) rest)
fields_more f zero front bytes n rest some e = absurd (omega arith)
fields_more f (suc k) front bytes n rest some e = let less : suc k - 1 ≡ k = omega arith in rw (less, ← e) (join (fields_at (replicate k f) rest))
  where
    join : (o : Option (List ℕ × List ℕ)) → fields_front front (o >>= λ p. Some (n ∷ p.0, p.1)) ≡ fields_front (front ++ n ∷ []) o
    join None = refl
    join (Some p) = ap (λ l. Some (l, p.1)) (sym (append_assoc front (n ∷ []) p.0))
