-- Reading a format finds what it spells, and the first wrong line.
use Rattle.std.proofs.Common.{◌≡◌, ℕ, zero, suc, ◌+◌, ◌/◌, ◌%◌, ◌^◌, ◌≤◌, ◌==◌, ◌&&◌, not, nat_lt, Bool, true, false, cond, List, [], ◌∷◌, ◌++◌, Option, Some, None, Result, Ok, Err, refl, ap, sym, ◌∙◌, subst, arith, append_assoc, append-nil}
use Rattle.std.proofs.lemmas.Bool.Decides.{nat_tests}
use Rattle.std.specs.Option.{option_map}
use Rattle.line_format.specs.Format.{Field, Shape, Format, done, line, digit, digits, spell_fields, Fit, Allows, spell, Spells, first_lines, Begins, is_plain, IsSound}
use Rattle.line_format.specs.Reading.{fields_at, content_at, only, line_at, Spot, read}
use Rattle.line_format.proofs.Digits.{bind_some, after-front, after-is, number_at-digits, number_at-is, Reads}

-- ---- fields

pub fields_at-spell : (fs : List Field) (xs rest : List ℕ) → Fit fs xs → fields_at fs (spell_fields fs xs ++ rest) ≡ Some (xs, rest)
fields_at-spell [] [] rest fit = refl
fields_at-spell [] (x ∷ xs) rest fit = absurd fit
fields_at-spell (f ∷ fs) [] rest fit = absurd fit
fields_at-spell (f ∷ fs) (x ∷ xs) rest fit =
    rw (append_assoc, number_at-digits f.base f.width 0 x (spell_fields fs xs ++ rest) fit.0, fields_at-spell fs xs rest fit.1) (ap (λ n. Some (n ∷ xs, rest)) (omega arith))

pub record FieldsRead (fs : List Field) (bytes : List ℕ) (p : List ℕ × List ℕ) : Type 0 where
  pub fit : Fit fs p.0
  pub is : bytes ≡ spell_fields fs p.0 ++ p.1

pub fields_at-is : (fs : List Field) (bytes : List ℕ) (p : List ℕ × List ℕ) → fields_at fs bytes ≡ Some p → FieldsRead fs bytes p
fields_at-is [] bytes p e = let same : ([], bytes) ≡ p = cc in let Goal : (List ℕ × List ℕ) → Type 0 = λ p. FieldsRead [] bytes p in subst Goal same (record { fit = tt; is = refl })
fields_at-is (f ∷ fs) bytes p e =
    let (n, is_field, e3) = bind_some _ _ p e in
    let (rest, is_rest, is_n) = bind_some _ _ n is_field in
    let (ns, is_ns, e4) = bind_some _ _ p e3 in
    let same : (n.0 ∷ ns.0, ns.1) ≡ p = cc in
    let Goal : (List ℕ × List ℕ) → Type 0 = λ p. FieldsRead (f ∷ fs) bytes p in
    subst Goal same (join rest n ns (after-is (32 ∷ []) bytes rest is_rest) (number_at-is f.base f.width 0 rest n is_n) (fields_at-is fs n.1 ns is_ns))
  where
    join : (rest : List ℕ) (n : ℕ × List ℕ) (ns : List ℕ × List ℕ) → bytes ≡ 32 ∷ rest → Reads f.base f.width 0 rest n → FieldsRead fs n.1 ns → FieldsRead (f ∷ fs) bytes (n.0 ∷ ns.0, ns.1)
    join rest n ns a r more =
        let value : n.0 ≡ r.n = r.is ∙ omega arith in
        record {
          fit = (rw value r.small, more.fit);
          is = rw (a, r.bytes_are, more.is, value) (sym (ap (λ r. 32 ∷ r) (append_assoc (digits f.base f.width r.n) (spell_fields fs ns.0) ns.1)));
        }

-- ---- lines

pub line_at-spell : (s : Shape) (xs rest : List ℕ) → Allows s xs → line_at s (spell s xs ++ rest) ≡ Some (xs, rest)
unfolding line_at content_at spell
line_at-spell s xs rest a =
    rw (append_assoc, after-front s.name ((spell_fields s.fields xs ++ 10 ∷ []) ++ rest), append_assoc, fields_at-spell s.fields xs (10 ∷ rest) a.fit, a.allowed) refl

pub record LineRead (s : Shape) (bytes : List ℕ) (p : List ℕ × List ℕ) : Type 0 where
  pub allows : Allows s p.0
  pub is : bytes ≡ spell s p.0 ++ p.1

abbrev couple : List ℕ → List ℕ → List ℕ × List ℕ
couple a b = (a, b)

abbrev pair : List ℕ → List ℕ → Option (List ℕ × List ℕ)
pair a b = Some (a, b)

pub line_at-is : (s : Shape) (bytes : List ℕ) (p : List ℕ × List ℕ) → line_at s bytes ≡ Some p → LineRead s bytes p
unfolding line_at content_at spell
line_at-is s bytes p e =
    let (q, is_q, chosen) = bind_some (content_at s.name s.fields bytes) (only s.allowed) p e in
    let (rest, is_rest, e2) = bind_some _ _ q is_q in
    let (xs, is_xs, e3) = bind_some _ _ q e2 in
    let (end, is_end, e4) = bind_some _ _ q e3 in
    pick q rest xs end (s.allowed q.0) refl (after-is s.name bytes rest is_rest) (fields_at-is s.fields rest xs is_xs) (after-is (10 ∷ []) xs.1 end is_end) e4 chosen
  where
    pick : (q : List ℕ × List ℕ) (rest : List ℕ) (xs : List ℕ × List ℕ) (end : List ℕ) (t : Bool) → s.allowed q.0 ≡ t → bytes ≡ s.name ++ rest → FieldsRead s.fields rest xs → xs.1 ≡ 10 ∷ end → pair xs.0 end ≡ Some q → cond t (Some q) None ≡ Some p → LineRead s bytes p
    pick q rest xs end false t a b c e f = cc
    pick q rest xs end true t a b c e f =
        let same : q ≡ p = cc in
        let is : couple xs.0 end ≡ q = cc in
        let Goal : (List ℕ × List ℕ) → Type 0 = λ p. LineRead s bytes p in
        subst Goal same (record { allows = record { fit = rw (← ap (λ q. q.0) is) b.fit; allowed = t }; is = rw (a, b.is, c, ← ap (λ q. q.0) is, ← ap (λ q. q.1) is, append_assoc, append_assoc) refl })

-- two readings of a line are one
pub one_line : (s : Shape) (xs ys rest more : List ℕ) → Allows s xs → Allows s ys → spell s xs ++ rest ≡ spell s ys ++ more → (xs ≡ ys) × (rest ≡ more)
one_line s xs ys rest more a b e =
    let pair : List ℕ → List ℕ → Option (List ℕ × List ℕ) = λ a b. Some (a, b) in
    let both : pair xs rest ≡ pair ys more = sym (line_at-spell s xs rest a) ∙ ap (line_at s) e ∙ line_at-spell s ys more b in
    let of : List ℕ → List ℕ → List ℕ × List ℕ = λ a b. (a, b) in let pairs : of xs rest ≡ of ys more = cc both in (ap (λ p. p.0) pairs, ap (λ p. p.1) pairs)

-- ---- the first lines

plain_and : (a b : Bool) → (a && b) ≡ true → (a ≡ true) × (b ≡ true)
plain_and true b e = (refl, e)
plain_and false b e = cc

pub first_lines-line : (plain : List ℕ) (n : ℕ) (rest : List ℕ) → is_plain plain ≡ true → first_lines (suc n) (plain ++ 10 ∷ rest) ≡ option_map (λ front. plain ++ 10 ∷ front) (first_lines n rest)
first_lines-line [] n rest e = refl
first_lines-line (b ∷ bs) n rest e = pick (b == 10) (first_lines-line bs n rest) e
  where
    fused : (o : Option (List ℕ)) → option_map (λ front. b ∷ front) (option_map (λ front. bs ++ 10 ∷ front) o) ≡ option_map (λ front. b ∷ (bs ++ 10 ∷ front)) o
    fused None = refl
    fused (Some x) = refl

    pick : (t : Bool) → (is_plain bs ≡ true → first_lines (suc n) (bs ++ 10 ∷ rest) ≡ option_map (λ front. bs ++ 10 ∷ front) (first_lines n rest)) → (not t && is_plain bs) ≡ true
        → option_map (λ front. b ∷ front) (cond t (first_lines n (bs ++ 10 ∷ rest)) (first_lines (suc n) (bs ++ 10 ∷ rest))) ≡ option_map (λ front. b ∷ (bs ++ 10 ∷ front)) (first_lines n rest)
    pick true later e = cc
    pick false later e = rw (later e) (fused (first_lines n rest))

plain_append : (xs ys : List ℕ) → is_plain xs ≡ true → is_plain ys ≡ true → is_plain (xs ++ ys) ≡ true
plain_append [] ys a b = b
plain_append (x ∷ xs) ys a b = let (h, t) = plain_and (not (x == 10)) (is_plain xs) a in rw (h, plain_append xs ys t b) refl

plain_digit : (d : ℕ) → not (digit d == 10) ≡ true
plain_digit d = pick (nat_lt d 10)
  where
    pick : (t : Bool) → not (cond t (48 + d) (87 + d) == 10) ≡ true
    pick true = let no : (48 + d == 10) ≡ false = grind (arith, nat_tests) in rw no refl
    pick false = let no : (87 + d == 10) ≡ false = grind (arith, nat_tests) in rw no refl

plain_digits : (base width n : ℕ) → is_plain (digits base width n) ≡ true
plain_digits base zero n = refl
plain_digits base (suc width) n = rw (plain_digit (n / base ^ width), plain_digits base width (n % base ^ width)) refl

plain_fields : (fs : List Field) (xs : List ℕ) → is_plain (spell_fields fs xs) ≡ true
plain_fields [] xs = refl
plain_fields (f ∷ fs) [] = refl
plain_fields (f ∷ fs) (x ∷ xs) = plain_append (digits f.base f.width x) (spell_fields fs xs) (plain_digits f.base f.width x) (plain_fields fs xs)

pub first_lines-spell : (s : Shape) (xs : List ℕ) (n : ℕ) (rest : List ℕ) → is_plain s.name ≡ true → first_lines (suc n) (spell s xs ++ rest) ≡ option_map (λ front. spell s xs ++ front) (first_lines n rest)
unfolding spell
first_lines-spell s xs n rest e =
    let content : List ℕ = s.name ++ spell_fields s.fields xs in
    let at : (r : List ℕ) → (s.name ++ (spell_fields s.fields xs ++ 10 ∷ [])) ++ r ≡ (s.name ++ spell_fields s.fields xs) ++ 10 ∷ r = λ r. rw (append_assoc, append_assoc, append_assoc) refl in
    ap (first_lines (suc n)) (at rest) ∙ first_lines-line (s.name ++ spell_fields s.fields xs) n rest (plain_append s.name (spell_fields s.fields xs) e (plain_fields s.fields xs)) ∙ same (first_lines n rest) (λ r. sym (at r))
  where
    same : (o : Option (List ℕ)) {f g : List ℕ → List ℕ} → ((r : List ℕ) → f r ≡ g r) → option_map f o ≡ option_map g o
    same None h = refl
    same (Some x) h = ap Some (h x)

-- ---- formats

-- the bytes begin with a text of this value, and it ends there
pub record Meets {A : Type 0} (F : Format A) (bytes : List ℕ) (v : A) (rest : List ℕ) : Type 0 where
  pub front : List ℕ
  pub is : bytes ≡ front ++ rest
  pub spells : Spells F v front

pub read-is : {A : Type 0} (F : Format A) (p : Spot) (q : A × Spot) → read F p ≡ Ok q → Meets F p.rest q.0 q.1.rest
read-is (done a) p q e = let same : (a, p) ≡ q = cc in let v : q.0 ≡ a = sym (ap (λ q. q.0) same) in let r : p.rest ≡ q.1.rest = ap (λ q. q.1.rest) same in record { front = []; is = r; spells = (v, refl) }
read-is {A = A} (line s next) p q e = pick (line_at s p.rest) (line_at-is s p.rest) (λ xs. read-is (next xs)) e
  where
    pick : (o : Option (List ℕ × List ℕ)) → ((f : List ℕ × List ℕ) → o ≡ Some f → LineRead s p.rest f)
        → ((xs : List ℕ) (p : Spot) (q : A × Spot) → read (next xs) p ≡ Ok q → Meets (next xs) p.rest q.0 q.1.rest)
        → elim o as (λ _. Result (A × Spot) ℕ) [ None ↦ Err p.number | Some found ↦ read (next found.0) (record { number = p.number + 1; rest = found.1 }) ] ≡ Ok q
        → Meets (line s next) p.rest q.0 q.1.rest
    pick None is later e = cc
    pick (Some f) is later e =
        let here : LineRead s p.rest f = is f refl in
        let m : Meets (next f.0) f.1 q.0 q.1.rest = later f.0 (record { number = p.number + 1; rest = f.1 }) q e in
        record { front = spell s f.0 ++ m.front; is = here.is ∙ ap (λ r. spell s f.0 ++ r) m.is ∙ sym (append_assoc (spell s f.0) m.front q.1.rest); spells = (f.0, m.front, here.allows, refl, m.spells) }

-- what is spelled is read, whatever follows
pub read-again : {A : Type 0} (F : Format A) (v : A) (front more : List ℕ) (n : ℕ) → Spells F v front → (m : ℕ) × (read F (record { number = n; rest = front ++ more }) ≡ Ok (v, record { number = m; rest = more }))
read-again (done a) v front more n (e, none) = (n, rw (e, none) refl)
read-again {A = A} (line s next) v front more n (xs, rest, allows, is, spells) =
    let (m, e) = read-again (next xs) v rest more (n + 1) spells in
    (m, on (line_at s (front ++ more)) (ap (line_at s) (ap (λ x. x ++ more) is ∙ append_assoc (spell s xs) rest more) ∙ line_at-spell s xs (rest ++ more) allows) e)
  where
    on : {m : ℕ} (o : Option (List ℕ × List ℕ)) → o ≡ Some (xs, rest ++ more) → read (next xs) (record { number = n + 1; rest = rest ++ more }) ≡ Ok (v, record { number = m; rest = more })
        → elim o as (λ _. Result (A × Spot) ℕ) [ None ↦ Err n | Some found ↦ read (next found.0) (record { number = n + 1; rest = found.1 }) ] ≡ Ok (v, record { number = m; rest = more })
    on o h e = rw h e

-- a sound format has a text
pub some_text : {A : Type 0} (F : Format A) → IsSound F → (v : A) × (text : List ℕ) × Spells F v text
some_text (done a) sound = (a, [], (refl, refl))
some_text (line s next) (plain, xs, allows, later) =
    let (v, text, spells) = some_text (next xs) (later xs allows) in
    (v, spell s xs ++ text, (xs, text, allows, refl, spells))

-- the first line that no text has, counted from the first of these
pub record WrongAt {A : Type 0} (F : Format A) (bytes : List ℕ) (from m : ℕ) : Type 0 where
  pub lines : ℕ
  pub is : m ≡ from + lines
  pub right : Begins F lines bytes
  pub wrong : Begins F (suc lines) bytes → ⊥

option_map-some : (f : List ℕ → List ℕ) (o : Option (List ℕ)) (y : List ℕ) → option_map f o ≡ Some y → (x : List ℕ) × (o ≡ Some x) × (f x ≡ y)
option_map-some f None y e = cc
option_map-some f (Some x) y e = let same : f x ≡ y = cc in (x, refl, same)

begins-on : {A : Type 0} (s : Shape) (next : List ℕ → Format A) (xs : List ℕ) (n : ℕ) (rest bytes : List ℕ) → is_plain s.name ≡ true → Allows s xs → bytes ≡ spell s xs ++ rest → Begins (next xs) n rest → Begins (line s next) (suc n) bytes
begins-on s next xs n rest bytes plain a is b = record {
  front = spell s xs ++ b.front;
  more = b.more;
  value = b.value;
  is = rw is (first_lines-spell s xs n rest plain ∙ ap (option_map (λ front. spell s xs ++ front)) b.is);
  spells = (xs, b.front ++ b.more, a, append_assoc (spell s xs) b.front b.more, b.spells);
}

begins-off : {A : Type 0} (s : Shape) (next : List ℕ → Format A) (xs : List ℕ) (n : ℕ) (rest bytes : List ℕ) → is_plain s.name ≡ true → Allows s xs → bytes ≡ spell s xs ++ rest → Begins (line s next) (suc n) bytes → Begins (next xs) n rest
begins-off {A = A} s next xs n rest bytes plain a is b =
    let (front, e, f) = option_map-some _ (first_lines n rest) b.front (sym (first_lines-spell s xs n rest plain) ∙ sym (ap (first_lines (suc n)) is) ∙ b.is) in
    let (ys, tail, allows, text, spells) = b.spells in
    let (same, rests) = one_line s xs ys (front ++ b.more) tail a allows (sym (append_assoc (spell s xs) front b.more) ∙ ap (λ x. x ++ b.more) f ∙ text) in
    record { front = front; more = b.more; value = b.value; is = e; spells = moved ys (front ++ b.more) tail b.value same rests spells }
  where
    moved : (ys front tail : List ℕ) (v : A) → xs ≡ ys → front ≡ tail → Spells (next ys) v tail → Spells (next xs) v front
    moved ys front tail v e f h = rw (e, f) h

first_lines-front : (n : ℕ) (bytes front : List ℕ) → first_lines n bytes ≡ Some front → (tail : List ℕ) × (bytes ≡ front ++ tail)
first_lines-front zero bytes front e = let same : [] ≡ front = cc in (bytes, ap (λ f. f ++ bytes) same)
first_lines-front (suc n) [] front e = cc
first_lines-front (suc n) (b ∷ bs) front e = pick (b == 10) (first_lines-front n bs) (first_lines-front (suc n) bs) e
  where
    join : (o : Option (List ℕ)) → ((f : List ℕ) → o ≡ Some f → (tail : List ℕ) × (bs ≡ f ++ tail)) → option_map (λ f. b ∷ f) o ≡ Some front → (tail : List ℕ) × ((b ∷ bs) ≡ front ++ tail)
    join o h e = let (f, is, same) = option_map-some (λ f. b ∷ f) o front e in let (tail, t) = h f is in (tail, ap (λ x. b ∷ x) t ∙ ap (λ x. x ++ tail) same)

    pick : (t : Bool) → ((f : List ℕ) → first_lines n bs ≡ Some f → (tail : List ℕ) × (bs ≡ f ++ tail)) → ((f : List ℕ) → first_lines (suc n) bs ≡ Some f → (tail : List ℕ) × (bs ≡ f ++ tail))
        → option_map (λ f. b ∷ f) (cond t (first_lines n bs) (first_lines (suc n) bs)) ≡ Some front → (tail : List ℕ) × ((b ∷ bs) ≡ front ++ tail)
    pick true h k e = join (first_lines n bs) h e
    pick false h k e = join (first_lines (suc n) bs) k e

first_lines-again : (n : ℕ) (bytes front more : List ℕ) → first_lines n bytes ≡ Some front → first_lines n (front ++ more) ≡ Some front
first_lines-again zero bytes front more e = let same : [] ≡ front = cc in ap Some same
first_lines-again (suc n) [] front more e = cc
first_lines-again (suc n) (b ∷ bs) front more e = pick (b == 10) refl (first_lines-again n bs) (first_lines-again (suc n) bs) e
  where
    join : (m : ℕ) → ((f : List ℕ) → cond (b == 10) (first_lines n f) (first_lines (suc n) f) ≡ first_lines m f) → ((f more : List ℕ) → first_lines m bs ≡ Some f → first_lines m (f ++ more) ≡ Some f) → option_map (λ f. b ∷ f) (first_lines m bs) ≡ Some front → first_lines (suc n) (front ++ more) ≡ Some front
    join m at h e =
        let (f, is, same) = option_map-some (λ f. b ∷ f) (first_lines m bs) front e in
        rw (← same, at (f ++ more), h f more is) refl

    pick : (t : Bool) → (b == 10) ≡ t → ((f more : List ℕ) → first_lines n bs ≡ Some f → first_lines n (f ++ more) ≡ Some f) → ((f more : List ℕ) → first_lines (suc n) bs ≡ Some f → first_lines (suc n) (f ++ more) ≡ Some f)
        → option_map (λ f. b ∷ f) (cond t (first_lines n bs) (first_lines (suc n) bs)) ≡ Some front → first_lines (suc n) (front ++ more) ≡ Some front
    pick true t h k e = join n (λ f. rw t refl) h e
    pick false t h k e = join (suc n) (λ f. rw t refl) k e

-- where a line doesn't match, no text begins with it
begins-none : {A : Type 0} (s : Shape) (next : List ℕ → Format A) (bytes : List ℕ) → is_plain s.name ≡ true → line_at s bytes ≡ None → Begins (line s next) 1 bytes → ⊥
begins-none s next bytes plain none b =
    let (xs, rest, allows, text, spells) = b.spells in
    let (tail, whole) = first_lines-front 1 bytes b.front b.is in
    let all : Some b.front ≡ Some (spell s xs ++ []) = sym (first_lines-again 1 bytes b.front b.more b.is) ∙ ap (first_lines 1) text ∙ first_lines-spell s xs 0 rest plain in
    let front : b.front ≡ spell s xs = cc all ∙ append-nil (spell s xs) in
    let some : line_at s bytes ≡ Some (xs, tail) = ap (line_at s) (whole ∙ ap (λ f. f ++ tail) front) ∙ line_at-spell s xs tail allows in
    cc (none, some)

pub read-wrong : {A : Type 0} (F : Format A) (p : Spot) (m : ℕ) → IsSound F → read F p ≡ Err m → WrongAt F p.rest p.number m
read-wrong (done a) p m sound e = cc
read-wrong {A = A} (line s next) p m (plain, some, allowed, later) e = pick (line_at s p.rest) refl (λ xs p a. read-wrong (next xs) p m (later xs a)) e
  where
    pick : (o : Option (List ℕ × List ℕ)) → line_at s p.rest ≡ o
        → ((xs : List ℕ) (p : Spot) → Allows s xs → read (next xs) p ≡ Err m → WrongAt (next xs) p.rest p.number m)
        → elim o as (λ _. Result (A × Spot) ℕ) [ None ↦ Err p.number | Some found ↦ read (next found.0) (record { number = p.number + 1; rest = found.1 }) ] ≡ Err m
        → WrongAt (line s next) p.rest p.number m
    pick None at ih e =
        let (v, text, spells) = some_text (line s next) (plain, some, allowed, later) in
        let same : p.number ≡ m = cc in
        record { lines = 0; is = omega arith; right = record { front = []; more = text; value = v; is = refl; spells = spells }; wrong = begins-none s next p.rest plain at }
    pick (Some f) at ih e =
        let here : LineRead s p.rest f = line_at-is s p.rest f at in
        let w : WrongAt (next f.0) f.1 (p.number + 1) m = ih f.0 (record { number = p.number + 1; rest = f.1 }) here.allows e in
        record { lines = suc w.lines; is = omega (arith, w.is); right = begins-on s next f.0 w.lines f.1 p.rest plain here.allows here.is w.right; wrong = λ b. w.wrong (begins-off s next f.0 (suc w.lines) f.1 p.rest plain here.allows here.is b) }

-- fewer lines than so many
fewer : (n m : ℕ) (bytes front : List ℕ) → n ≤ m → first_lines m bytes ≡ Some front → (part : List ℕ) × (tail : List ℕ) × (first_lines n bytes ≡ Some part) × (front ≡ part ++ tail)
fewer zero m bytes front l e = ([], front, refl, refl)
fewer (suc n) zero bytes front l e = absurd (omega arith)
fewer (suc n) (suc m) [] front l e = cc
fewer (suc n) (suc m) (b ∷ bs) front l e = pick (b == 10) (λ f. fewer n m bs f (omega arith)) (λ f. fewer (suc n) (suc m) bs f l) e
  where
    join : (o q : Option (List ℕ)) → ((f : List ℕ) → q ≡ Some f → (part : List ℕ) × (tail : List ℕ) × (o ≡ Some part) × (f ≡ part ++ tail)) → option_map (λ f. b ∷ f) q ≡ Some front
        → (part : List ℕ) × (tail : List ℕ) × (option_map (λ f. b ∷ f) o ≡ Some part) × (front ≡ part ++ tail)
    join o q h e =
        let (f, is, same) = option_map-some (λ f. b ∷ f) q front e in
        let (part, tail, found, parts) = h f is in
        (b ∷ part, tail, ap (option_map (λ f. b ∷ f)) found, sym same ∙ ap (λ f. b ∷ f) parts)

    pick : (t : Bool) → ((f : List ℕ) → first_lines m bs ≡ Some f → (part : List ℕ) × (tail : List ℕ) × (first_lines n bs ≡ Some part) × (f ≡ part ++ tail))
        → ((f : List ℕ) → first_lines (suc m) bs ≡ Some f → (part : List ℕ) × (tail : List ℕ) × (first_lines (suc n) bs ≡ Some part) × (f ≡ part ++ tail))
        → option_map (λ f. b ∷ f) (cond t (first_lines m bs) (first_lines (suc m) bs)) ≡ Some front
        → (part : List ℕ) × (tail : List ℕ) × (option_map (λ f. b ∷ f) (cond t (first_lines n bs) (first_lines (suc n) bs)) ≡ Some part) × (front ≡ part ++ tail)
    pick true h k e = join (first_lines n bs) (first_lines m bs) h e
    pick false h k e = join (first_lines (suc n) bs) (first_lines (suc m) bs) k e

-- what begins a text with so many lines does with fewer
pub begins-fewer : {A : Type 0} (F : Format A) (n m : ℕ) (bytes : List ℕ) → n ≤ m → Begins F m bytes → Begins F n bytes
begins-fewer F n m bytes l b =
    let (part, tail, found, parts) = fewer n m bytes b.front l b.is in
    record { front = part; more = tail ++ b.more; value = b.value; is = found; spells = rw (← append_assoc part tail b.more, ← parts) b.spells }
