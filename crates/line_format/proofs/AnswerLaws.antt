-- Laws of what stands at the front of some bytes, for every sound format.
use Rattle.std.proofs.Common.{◌≡◌, ℕ, suc, ◌<◌, List, [], ◌∷◌, ◌++◌, length, Result, Ok, Err, refl, ap, sym, ◌∙◌, subst, arith, append-nil, ⊎_elim}
use Rattle.std.proofs.lemmas.Bool.{cases_lt}
use Rattle.line_format.specs.Format.{Format, Spells, IsSound}
use Rattle.line_format.specs.Reading.{Spot, start, read, whole_or_more, answer_found}
use Rattle.line_format.specs.Answers.{Trails, HasWrongLine, LineAnswer, Whole, More, Wrong, LineAnswers}
use Rattle.line_format.proofs.FormatLaws.{read-is, read-again, read-wrong, begins-fewer, Meets, WrongAt}

-- a value was read, and nothing is left
pub read_whole : {A : Type 0} (F : Format A) (bytes : List ℕ) (v : A) (p : Spot) → read F (start bytes) ≡ Ok (v, p) → p.rest ≡ [] → Spells F v bytes
read_whole F bytes v p e none = let m : Meets F bytes v p.rest = read-is F (start bytes) (v, p) e in
    let same : bytes ≡ m.front = m.is ∙ ap (λ r. m.front ++ r) none ∙ append-nil m.front in
    let Goal : List ℕ → Type 0 = λ b. Spells F v b in subst Goal (sym same) m.spells

-- a value was read, and something is left
pub read_more : {A : Type 0} (F : Format A) (bytes : List ℕ) (v : A) (p : Spot) → read F (start bytes) ≡ Ok (v, p) → 0 < length p.rest → Trails F bytes
read_more F bytes v p e some = let m : Meets F bytes v p.rest = read-is F (start bytes) (v, p) e in pick p.rest m some
  where
    pick : (rest : List ℕ) → Meets F bytes v rest → 0 < length rest → Trails F bytes
    pick [] m some = absurd (omega arith)
    pick (b ∷ bs) m some = record { value = v; text = m.front; byte = b; more = bs; is = m.is; means = m.spells }

-- a line was wrong
pub read_err : {A : Type 0} (F : Format A) → IsSound F → (bytes : List ℕ) (n : ℕ) → read F (start bytes) ≡ Err n → HasWrongLine F bytes n
read_err F sound bytes n e =
    let w : WrongAt F bytes 1 n = read-wrong F (start bytes) n sound e in
    let at : n ≡ suc w.lines = omega (arith, w.is) in
    record {
      before = w.lines;
      is = at;
      right = w.right;
      wrong = rw at w.wrong;
      unread = λ v text more means is.
          let (m, again) = read-again F v text more 1 means in
          let here : read F (start bytes) ≡ Ok (v, record { number = m; rest = more }) = ap (λ b. read F (start b)) is ∙ again in
          cc (e, here);
    }

-- what reading finds is an answer
pub reading_answers : {A : Type 0} (F : Format A) (bytes : List ℕ) → IsSound F → LineAnswers F bytes (answer_found (read F (start bytes)))
reading_answers {A = A} F bytes sound = pick (read F (start bytes)) refl
  where
    of : (v : A) (p : Spot) (rest : List ℕ) → p.rest ≡ rest → read F (start bytes) ≡ Ok (v, p) → LineAnswers F bytes (whole_or_more v rest)
    of v p [] is e = read_whole F bytes v p e is
    of v p (b ∷ bs) is e = read_more F bytes v p e (rw is (omega arith))

    pick : (found : Result (A × Spot) ℕ) → read F (start bytes) ≡ found → LineAnswers F bytes (answer_found found)
    pick (Ok q) e = of q.0 q.1 q.1.rest refl e
    pick (Err n) e = read_err F sound bytes n e

abbrev place : {A : Type 0} → A → List ℕ → ℕ → A × Spot
place v rest n = (v, record { number = n; rest = rest })

abbrev found_at : {A : Type 0} → A → List ℕ → ℕ → Result (A × Spot) ℕ
found_at v rest n = Ok (v, record { number = n; rest = rest })

-- two texts at the front of some bytes are one
pub one_front : {A : Type 0} (F : Format A) (bytes : List ℕ) (v w : A) (a b x y : List ℕ) → Spells F v a → Spells F w b → bytes ≡ a ++ x → bytes ≡ b ++ y → (v ≡ w) × (x ≡ y)
one_front F bytes v w a b x y s t e f =
    let (n, p) = read-again F v a x 1 s in
    let (m, q) = read-again F w b y 1 t in
    let both : found_at v x n ≡ found_at w y m = sym p ∙ ap (λ b. read F (start b)) (sym e ∙ f) ∙ q in
    let same : place v x n ≡ place w y m = cc both in
    (ap (λ p. p.0) same, ap (λ p. p.1.rest) same)

line_after : {A : Type 0} (F : Format A) (bytes : List ℕ) (n m : ℕ) → HasWrongLine F bytes n → HasWrongLine F bytes m → n < m → ⊥
line_after F bytes n m a b l = a.wrong (begins-fewer F n b.before bytes (omega (arith, b.is)) b.right)

-- a whole text has nothing after it
no_more : {A : Type 0} (F : Format A) (bytes : List ℕ) (v : A) → Spells F v bytes → Trails F bytes → ⊥
no_more F bytes v a b = let none : [] ≡ b.byte ∷ b.more = (one_front F bytes v b.value bytes b.text [] (b.byte ∷ b.more) a b.means (sym (append-nil bytes)) b.is).1 in cc

-- bytes have one answer
pub one : {A : Type 0} (F : Format A) (bytes : List ℕ) (r s : LineAnswer A) → LineAnswers F bytes r → LineAnswers F bytes s → r ≡ s
one F bytes (Whole v) (Whole w) a b = ap Whole (one_front F bytes v w bytes bytes [] [] a b (sym (append-nil bytes)) (sym (append-nil bytes))).0
one F bytes (Whole v) More a b = absurd (no_more F bytes v a b)
one F bytes (Whole v) (Wrong n) a b = absurd (b.unread v bytes [] a (sym (append-nil bytes)))
one F bytes More (Whole w) b a = absurd (no_more F bytes w a b)
one F bytes More More a b = refl
one F bytes More (Wrong n) a b = absurd (b.unread a.value a.text (a.byte ∷ a.more) a.means a.is)
one F bytes (Wrong n) (Whole w) b a = absurd (b.unread w bytes [] a (sym (append-nil bytes)))
one F bytes (Wrong n) More b a = absurd (b.unread a.value a.text (a.byte ∷ a.more) a.means a.is)
one F bytes (Wrong n) (Wrong m) a b = ⊎_elim (λ l. absurd (line_after F bytes n m a b l)) (λ le. ⊎_elim (λ l. absurd (line_after F bytes m n b a l)) (λ le'. ap (λ k. Wrong k) (omega arith)) (cases_lt m n)) (cases_lt n m)
