-- Entries that are equal field by field have the same plain values.
use Rattle.std.proofs.Common.{◌≡◌, Bool, true, false, ◌&&◌, ◌==◌, ℕ, List, [], ◌∷◌, map, take, refl}
use Rattle.std.specs.Cmp.Lexicographic.{pointwise}
use mathlib.Core.Bool.{beq}
use Rattle.std.proofs.lemmas.Slice.Eq.{slice_eq-Decides}
use Rattle.std.proofs.lemmas.Bool.Decides.{Decides-eqb}
use Rattle.bus_legal.specs.declared.entries.Rule.{Rule}
use Rattle.bus_legal.specs.declared.entries.ModeRule.{ModeRule}
use Rattle.bus_legal.specs.declared.entries.InitialWords.{InitialWords}
use Rattle.bus_legal.specs.Plain.{PlainRule, PlainInitial, plain_rule, plain_initial}

both : (a b : Bool) → (a && b) ≡ true → (a ≡ true) × (b ≡ true)
both true b e = (refl, e)
both false b e = cc e

same_truth : (a b : Bool) → beq a b ≡ true → a ≡ b
same_truth true true e = refl
same_truth false false e = refl
same_truth true false e = cc e
same_truth false true e = cc e

same_number : (a b : ℕ) → (a == b) ≡ true → a ≡ b
same_number a b e = (Decides-eqb a b).0 e

abbrev pub eq_rule : Rule → Rule → Bool
eq_rule a b = beq a.own b.own && (beq a.broadcast b.broadcast && (beq a.receive b.receive && (beq a.transmit b.transmit && ((a.subaddresses == b.subaddresses) && ((a.counts == b.counts) && beq a.legal b.legal)))))

rule_by : (o b r t : Bool) → (s c : ℕ) → (l : Bool) → PlainRule
rule_by o b r t s c l = record { own = o; broadcast = b; receive = r; transmit = t; subaddresses = s; counts = c; legal = l }

rule_same : (a b : Rule) → eq_rule a b ≡ true → plain_rule a ≡ plain_rule b
unfolding rule_by
rule_same a b e =
    let (own, e1) = both _ _ e in
    let (broadcast, e2) = both _ _ e1 in
    let (receive, e3) = both _ _ e2 in
    let (transmit, e4) = both _ _ e3 in
    let (subaddresses, e5) = both _ _ e4 in
    let (counts, legal) = both _ _ e5 in
    λ j. rule_by (same_truth a.own b.own own j) (same_truth a.broadcast b.broadcast broadcast j) (same_truth a.receive b.receive receive j) (same_truth a.transmit b.transmit transmit j)
    (same_number a.subaddresses b.subaddresses subaddresses j) (same_number a.counts b.counts counts j) (same_truth a.legal b.legal legal j)

pub rules_same : (xs ys : List Rule) → pointwise eq_rule xs ys ≡ true → map plain_rule xs ≡ map plain_rule ys
rules_same [] [] e = refl
rules_same [] (y ∷ ys) e = cc e
rules_same (x ∷ xs) [] e = cc e
rules_same (x ∷ xs) (y ∷ ys) e = let (here, more) = both (eq_rule x y) (pointwise eq_rule xs ys) e in λ j. rule_same x y here j ∷ rules_same xs ys more j

abbrev pub eq_mode : ModeRule → ModeRule → Bool
eq_mode a b = beq a.own b.own && (beq a.broadcast b.broadcast && ((a.codes == b.codes) && beq a.legal b.legal))

mode_by : (o b : Bool) → ℕ → Bool → ModeRule
mode_by o b c l = record { own = o; broadcast = b; codes = c; legal = l }

mode_same : (a b : ModeRule) → eq_mode a b ≡ true → a ≡ b
unfolding mode_by
mode_same a b e =
    let (own, e1) = both _ _ e in
    let (broadcast, e2) = both _ _ e1 in
    let (numbers, legal) = both _ _ e2 in
    λ j. mode_by (same_truth a.own b.own own j) (same_truth a.broadcast b.broadcast broadcast j) (same_number a.codes b.codes numbers j) (same_truth a.legal b.legal legal j)

pub modes_same : (xs ys : List ModeRule) → pointwise eq_mode xs ys ≡ true → xs ≡ ys
modes_same [] [] e = refl
modes_same [] (y ∷ ys) e = cc e
modes_same (x ∷ xs) [] e = cc e
modes_same (x ∷ xs) (y ∷ ys) e = let (here, more) = both (eq_mode x y) (pointwise eq_mode xs ys) e in λ j. mode_same x y here j ∷ modes_same xs ys more j

abbrev pub eq_initial : InitialWords → InitialWords → Bool
eq_initial a b = (a.subaddress == b.subaddress) && ((a.first == b.first) && ((a.len == b.len) && pointwise (λ x y. x == y) a.words b.words))

initial_by : (s f n : ℕ) → List ℕ → PlainInitial
initial_by s f n ws = record { subaddress = s; first = f; words = take n ws }

initial_same : (a b : InitialWords) → eq_initial a b ≡ true → plain_initial a ≡ plain_initial b
unfolding initial_by
initial_same a b e =
    let (subaddress, e1) = both _ _ e in
    let (first, e2) = both _ _ e1 in
    let (len, words) = both _ _ e2 in
    let same : a.words ≡ b.words = (slice_eq-Decides Decides-eqb a.words b.words _ refl).0 words in
    λ j. initial_by (same_number a.subaddress b.subaddress subaddress j) (same_number a.first b.first first j) (same_number a.len b.len len j) (same j)

pub initials_same : (xs ys : List InitialWords) → pointwise eq_initial xs ys ≡ true → map plain_initial xs ≡ map plain_initial ys
initials_same [] [] e = refl
initials_same [] (y ∷ ys) e = cc e
initials_same (x ∷ xs) [] e = cc e
initials_same (x ∷ xs) (y ∷ ys) e = let (here, more) = both (eq_initial x y) (pointwise eq_initial xs ys) e in λ j. initial_same x y here j ∷ initials_same xs ys more j
