-- Digits and their numbers.
use Rattle.std.proofs.Common.{◌≡◌, ℕ, zero, suc, ◌+◌, ◌-◌, ◌*◌, ◌/◌, ◌%◌, ◌^◌, ◌<◌, ◌≤◌, ◌==◌, ◌&&◌, nat_le, nat_lt, Bool, true, false, cond, List, [], ◌∷◌, ◌++◌, Option, Some, None, refl, ap, ap₂, sym, ◌∙◌, arith, ⊎_elim}
use Rattle.std.proofs.lemmas.Bool.Decides.{nat_tests}
use Rattle.std.proofs.lemmas.Bool.{cases_lt}
use Rattle.std.proofs.lemmas.Nat.{div-mul-add, mod-mul-add, div-add-mod', div_below, mul-add-lt}
use Rattle.std.proofs.Math.Nat.{pow-suc, pow-zero, mod-lt, zero-mul, mul_assoc, add-mul}
use Rattle.line_format.specs.Format.{digit, digits}
use Rattle.line_format.specs.Front.{◌>>=◌, after}
use Rattle.line_format.specs.Reading.{below, digit_value, number_at}

pub bind_some : {A B : Type 0} (o : Option A) (f : A → Option B) (y : B) → (o >>= f) ≡ Some y → (x : A) × (o ≡ Some x) × (f x ≡ Some y)
bind_some None f y e = cc
bind_some (Some x) f y e = (x, refl, e)

pub after-front : (cs rest : List ℕ) → after cs (cs ++ rest) ≡ Some rest
after-front [] rest = refl
after-front (c ∷ cs) rest = let same : (c == c) ≡ true = grind (arith, nat_tests) in rw same (after-front cs rest)

pub after-is : (cs bytes rest : List ℕ) → after cs bytes ≡ Some rest → bytes ≡ cs ++ rest
after-is [] bytes rest e = cc
after-is (c ∷ cs) [] rest e = cc
after-is (c ∷ cs) (b ∷ bs) rest e = pick (b == c) refl (after-is cs bs rest) e
  where
    pick : (t : Bool) → (b == c) ≡ t → (after cs bs ≡ Some rest → bs ≡ cs ++ rest) → cond t (after cs bs) None ≡ Some rest → (b ∷ bs) ≡ c ∷ (cs ++ rest)
    pick true same later e = let eq : b ≡ c = grind (arith, nat_tests) in ap₂ (λ x xs. x ∷ xs) eq (later e)
    pick false other later e = cc

pub digit_value-digit : (base d : ℕ) → d < base → digit_value base (digit d) ≡ Some d
digit_value-digit base d l = ⊎_elim small large (cases_lt d 10)
  where
    within : nat_lt d base ≡ true
    within = grind (arith, nat_tests)

    small : d < 10 → digit_value base (digit d) ≡ Some d
    small s =
        let a : nat_lt d 10 ≡ true = grind (arith, nat_tests) in
        let b : nat_lt (48 + d) 97 ≡ true = grind (arith, nat_tests) in
        let c : nat_le 48 (48 + d) ≡ true = grind (arith, nat_tests) in
        let e : nat_lt (48 + d) 58 ≡ true = grind (arith, nat_tests) in
        let f : 48 + d - 48 ≡ d = omega arith in
        rw (a, b, c, e, f, within) refl

    large : 10 ≤ d → digit_value base (digit d) ≡ Some d
    large s =
        let a : nat_lt d 10 ≡ false = grind (arith, nat_tests) in
        let b : nat_lt (87 + d) 97 ≡ false = grind (arith, nat_tests) in
        let f : 87 + d - 87 ≡ d = omega arith in
        rw (a, b, f, within) refl

below-is : (base x d : ℕ) → below base x ≡ Some d → (x ≡ d) × (d < base)
below-is base x d e = pick (nat_lt x base) refl e
  where
    pick : (t : Bool) → nat_lt x base ≡ t → cond t (Some x) None ≡ Some d → (x ≡ d) × (d < base)
    pick true l e = let same : x ≡ d = cc in let lt : x < base = grind (arith, nat_tests) in (same, omega arith)
    pick false l e = cc

pub digit_value-is : (base b d : ℕ) → digit_value base b ≡ Some d → (b ≡ digit d) × (d < base)
digit_value-is base b d e = letter (nat_lt b 97) refl e
  where
    decimal : (t : Bool) → (nat_le 48 b && nat_lt b 58) ≡ t → cond t (below base (b - 48)) None ≡ Some d → (b ≡ digit d) × (d < base)
    decimal true l e =
        let (same, lt) = below-is base (b - 48) d e in
        let low : 48 ≤ b = grind (arith, nat_tests) in
        let high : b < 58 = grind (arith, nat_tests) in
        let a : nat_lt d 10 ≡ true = grind (arith, nat_tests) in
        (rw a (omega arith), lt)
    decimal false l e = cc

    letter : (t : Bool) → nat_lt b 97 ≡ t → cond t (cond (nat_le 48 b && nat_lt b 58) (below base (b - 48)) None) (below base (b - 87)) ≡ Some d → (b ≡ digit d) × (d < base)
    letter true l e = decimal (nat_le 48 b && nat_lt b 58) refl e
    letter false l e =
        let (same, lt) = below-is base (b - 87) d e in
        let high : 97 ≤ b = grind (arith, nat_tests) in
        let a : nat_lt d 10 ≡ false = grind (arith, nat_tests) in
        (rw a (omega arith), lt)

-- the digits of a number are read as it
pub number_at-digits : (base width acc n : ℕ) (rest : List ℕ) → n < base ^ width → number_at base width acc (digits base width n ++ rest) ≡ Some (acc * base ^ width + n, rest)
number_at-digits base zero acc n rest l = let one : base ^ 0 ≡ 1 = pow-zero base in let e : acc ≡ acc * base ^ 0 + n = rw one (omega (arith, rw one at l)) in ap (λ x. Some (x, rest)) e
number_at-digits base (suc width) acc n rest l =
    let m : ℕ = base ^ width in
    let whole : n / m * m + n % m ≡ n = div-add-mod' n m in
    let d : n / m < base = high base m n (rw (pow-suc base width) at l) in
    let r : n % m < m = small base m n (rw (pow-suc base width) at l) in
    rw (digit_value-digit base (n / m) d) (number_at-digits base width (acc * base + n / m) (n % m) rest r ∙ ap (λ x. Some (x, rest)) (sum acc base m (n / m) (n % m) n whole ∙ sym (ap (λ x. acc * x + n) (pow-suc base width))))
  where
    positive : (base m n : ℕ) → n < m * base → 0 < m
    positive base zero n l = absurd (omega (arith, rw zero-mul at l))
    positive base (suc m) n l = omega arith

    high : (base m n : ℕ) → n < m * base → n / m < base
    high base m n l = div_below n m base (positive base m n l) (omega arith)

    small : (base m n : ℕ) → n < m * base → n % m < m
    small base m n l = mod-lt n (positive base m n l)

    sum : (acc base m d r n : ℕ) → d * m + r ≡ n → (acc * base + d) * m + r ≡ acc * (m * base) + n
    sum acc base m d r n e = rw (add-mul, mul_assoc) (grind arith)

-- a number that is read has those digits
pub record Reads (base width acc : ℕ) (bytes : List ℕ) (p : ℕ × List ℕ) : Type 0 where
  pub n : ℕ
  pub small : n < base ^ width
  pub is : p.0 ≡ acc * base ^ width + n
  pub bytes_are : bytes ≡ digits base width n ++ p.1

pub number_at-is : (base width acc : ℕ) (bytes : List ℕ) (p : ℕ × List ℕ) → number_at base width acc bytes ≡ Some p → Reads base width acc bytes p
number_at-is base zero acc bytes p e = let a : acc ≡ p.0 = ap (λ o. elim o [ None ↦ 0 | Some x ↦ x.0 ]) e in let b : bytes ≡ p.1 = ap (λ o. elim o [ None ↦ [] | Some x ↦ x.1 ]) e in record { n = 0; small = rw (pow-zero base) (omega arith); is = rw (pow-zero base) (omega arith); bytes_are = b }
number_at-is base (suc width) acc [] p e = cc
number_at-is base (suc width) acc (b ∷ bs) p e =
    let (d, read, after) = bind_some (digit_value base b) (λ d. number_at base width (acc * base + d) bs) p e in
    let (is_digit, l) = digit_value-is base b d read in
    more d is_digit l (number_at-is base width (acc * base + d) bs p after)
  where
    sum : (acc base m d n : ℕ) → (acc * base + d) * m + n ≡ acc * (m * base) + (d * m + n)
    sum acc base m d n = rw (add-mul, mul_assoc) (grind arith)

    more : (d : ℕ) → b ≡ digit d → d < base → Reads base width (acc * base + d) bs p → Reads base (suc width) acc (b ∷ bs) p
    more d is_digit l r = record {
      n = d * base ^ width + r.n;
      small = rw (pow-suc base width) (mul-add-lt d (base ^ width) r.n base l r.small);
      is = r.is ∙ sum acc base (base ^ width) d r.n ∙ sym (ap (λ x. acc * x + (d * base ^ width + r.n)) (pow-suc base width));
      bytes_are = rw (div-mul-add d (base ^ width) r.n r.small, mod-mul-add d (base ^ width) r.n r.small) (ap₂ (λ x xs. x ∷ xs) is_digit r.bytes_are);
    }
