-- An address that two profiles have, and the lowest one.
use Rattle.std.proofs.Common.{◌≡◌, ◌≢◌, ◌∙◌, ◌<◌, ◌≤◌, ◌==◌, ◌||◌, ℕ, zero, suc, Bool, true, false, if◌then◌else◌, Some, None, Result, Ok, Err, is_ok, is_some, List, [], ◌∷◌, ◌++◌, length, take, map, filter, get_or, arith, refl, ap, sym, subst, append-nil, eq-eqb, length-append}
use Rattle.std.proofs.lemmas.Bool.{ne_eqb, eqb-true}
use Rattle.std.proofs.lemmas.List.{length-map}
use Rattle.std.specs.Result.{result_err}
use Rattle.bus_legal.specs.declared.setup.Setup.{Setup}
use Rattle.bus_legal.specs.Description.{Description}
use Rattle.bus_legal.specs.Parts.{Parts, parts_of, description_in}
use Rattle.terminal_rules.specs.LookBack.{some}
use Rattle.terminal_bus.specs.declared.bus.NotAdded.{NotAdded}
use Rattle.terminal_bus.specs.declared.bus.NotAdded.TheVariants.{SameAddress, Full}
use Rattle.terminal_bus.specs.declared.bus.TerminalBus.{TerminalBus}
use Rattle.terminal_bus.specs.AtMembers.{not_added}
use Rattle.terminal_bus.specs.Discipline.{has_address}
use Rattle.terminal_bus.specs.Lists.{Each, EachTwo}
use Rattle.terminal_bus.specs.Members.{member_of, powered_up}
use Rattle.tool_buses.specs.Powered.{IsPowered, described_at, described_below}
use Rattle.tool_buses.specs.inner.Crowded.{AreBelow, IsCrowded}

each_join : {X : Type 0} (P : X → Type 0) (xs ys : List X) → Each P xs → Each P ys → Each P (xs ++ ys)
each_join P [] ys e f = f
each_join P (x ∷ xs) ys e f = (e.0, each_join P xs ys e.1 f)

each_weaker : {X : Type 0} (P Q : X → Type 0) (xs : List X) → ((x : X) → P x → Q x) → Each P xs → Each Q xs
each_weaker P Q [] f e = tt
each_weaker P Q (x ∷ xs) f e = (f x e.0, each_weaker P Q xs f e.1)

two_right : {X : Type 0} (R : X → X → Type 0) (xs ys : List X) → EachTwo R (xs ++ ys) → EachTwo R ys
two_right R [] ys e = e
two_right R (x ∷ xs) ys e = two_right R xs ys e.1

-- ---- the terminals of one address

all_at : (a : ℕ) (normals : List Parts) → Each (λ P. P.address ≡ a) (described_at a normals)
all_at a [] = tt
all_at a (v ∷ vs) = by_test (v.address == a) refl (all_at a vs)
  where
    by_test : (t : Bool) → v.address == a ≡ t → Each (λ P. P.address ≡ a) (described_at a vs) → Each (λ P. P.address ≡ a) (map description_in (if t then v ∷ filter (λ w. w.address == a) vs else filter (λ w. w.address == a) vs))
    by_test true is all = (eqb-true v.address a is, all)
    by_test false is all = all

one_alone : (a : ℕ) (Ps : List Description) → EachTwo (λ P Q. P.address ≢ Q.address) Ps → Each (λ P. P.address ≡ a) Ps → length Ps ≤ 1
one_alone a [] d e = omega arith
one_alone a (P ∷ []) d e = omega arith
one_alone a (P ∷ Q ∷ Ps) d e = absurd (d.0.0 (e.0 ∙ sym e.1.0))

pub one_powered : (a : ℕ) (normals : List Parts) (Ps : List Description) (bus : TerminalBus Parts) → IsPowered (Ps ++ described_at a normals) bus → length (described_at a normals) ≤ 1
one_powered a normals Ps bus p = one_alone a (described_at a normals) (two_right (λ P Q. P.address ≢ Q.address) Ps (described_at a normals) p.differ) (all_at a normals)

-- one that comes later is one more
pub one_more : (a : ℕ) (normals : List Parts) (i : ℕ) (d : Parts) → i < length normals → (get_or normals i d).address ≡ a → suc (length (described_at a (take i normals))) ≤ length (described_at a normals)
one_more a [] i d within here = absurd (omega (arith, within))
one_more a (v ∷ vs) zero d within here =
    let there : length (described_at a (v ∷ vs)) ≡ suc (length (described_at a vs)) = ap (λ t. length (map description_in (if t then v ∷ filter (λ w. w.address == a) vs else filter (λ w. w.address == a) vs))) (eq-eqb v.address a here) in
    omega (arith, there)
one_more a (v ∷ vs) (suc i) d within here = by_test (v.address == a) (one_more a vs i d (omega (arith, within)) here)
  where
    by_test : (t : Bool) → suc (length (described_at a (take i vs))) ≤ length (described_at a vs) →
        suc (length (map description_in (if t then v ∷ filter (λ w. w.address == a) (take i vs) else filter (λ w. w.address == a) (take i vs)))) ≤ length (map description_in (if t then v ∷ filter (λ w. w.address == a) vs else filter (λ w. w.address == a) vs))
    by_test true less = omega (arith, less)
    by_test false less = less

-- ---- the terminals below an address

each_below : (a : ℕ) (normals : List Parts) → Each (λ P. P.address < a) (described_below a normals)
each_below zero normals = tt
each_below (suc a) normals =
    each_join (λ P. P.address < suc a) (described_below a normals) (described_at a normals)
    (each_weaker (λ P. P.address < a) (λ P. P.address < suc a) (described_below a normals) (λ P l. omega (arith, l)) (each_below a normals))
    (each_weaker (λ P. P.address ≡ a) (λ P. P.address < suc a) (described_at a normals) (λ P is. omega (arith, is)) (all_at a normals))

few_below : (a : ℕ) (normals : List Parts) → ((b : ℕ) → b < a → length (described_at b normals) ≤ 1) → length (described_below a normals) ≤ a
few_below zero normals one = omega arith
few_below (suc a) normals one =
    let before : length (described_below a normals) ≤ a = few_below a normals (λ b l. one b (omega (arith, l))) in
    let here : length (described_at a normals) ≤ 1 = one a (omega arith) in
    omega (arith, before, here, length-append (described_below a normals) (described_at a normals))

pub are_below : (a : ℕ) (normals : List Parts) → ((b : ℕ) → b < a → length (described_at b normals) ≤ 1) → AreBelow a (described_below a normals)
are_below a normals one = record { each = each_below a normals; few = few_below a normals one }

-- each address below the next has one terminal at most
pub ones_more : (a : ℕ) (normals : List Parts) (bus : TerminalBus Parts) → ((b : ℕ) → b < a → length (described_at b normals) ≤ 1) → IsPowered (described_below a normals ++ described_at a normals) bus →
    (b : ℕ) → b < suc a → length (described_at b normals) ≤ 1
ones_more a normals bus one p b l = by_test (b == a) refl
  where
    by_test : (t : Bool) → b == a ≡ t → length (described_at b normals) ≤ 1
    by_test true is = subst (λ n. length (described_at n normals) ≤ 1) (sym (eqb-true b a is)) (one_powered a normals (described_below a normals) bus p)
    by_test false is = one b (omega (arith, l, λ (same : b ≡ a). differ (sym (eq-eqb b a same) ∙ is)))
      where
        differ : true ≡ false → ⊥
        differ q = cc q

-- ---- why a terminal is not added

none_below : (a : ℕ) (Ps : List Description) → Each (λ P. P.address < a) Ps → some (has_address a) (powered_up Ps) ≡ false
none_below a [] e = refl
none_below a (P ∷ Ps) e =
    let other : P.address == a ≡ false = ne_eqb P.address a (λ same. absurd (omega (arith, e.0, same))) in
    (λ j. other j || some (has_address a) (powered_up Ps)) ∙ none_below a Ps e.1

not_full : (a : ℕ) (Ps : List Description) → AreBelow a Ps → a ≤ 30 → not_added (powered_up Ps) a ≡ None
not_full a Ps below low =
    let few : length (powered_up Ps) ≤ 30 = omega (arith, length-map Ps member_of, below.few, low) in
    let room : length (powered_up Ps) == 31 ≡ false = ne_eqb (length (powered_up Ps)) 31 (λ all. absurd (omega (arith, few, all))) in
    λ j. if none_below a Ps below.each j then Some (SameAddress a) else if room j then Some Full else None

-- so another has the address
pub is_second : (a : ℕ) (Ps more : List Description) (normal : Parts) → AreBelow a Ps → a ≤ 30 → IsCrowded (Ps ++ more) a normal → 1 ≤ length more
is_second a Ps [] normal below low crowd = absurd (none_some (sym (ap (λ Qs. is_some (not_added (powered_up Qs) a)) (append-nil Ps) ∙ ap is_some (not_full a Ps below low)) ∙ crowd.full))
  where
    none_some : false ≡ true → ⊥
    none_some q = cc q
is_second a Ps (P ∷ more) normal below low crowd = omega arith

some_err : {X E : Type 0} (r : Result X E) → is_ok r ≡ false → is_some (result_err r) ≡ true
some_err (Ok x) e = cc e
some_err (Err f) e = refl

pub is_crowded : (v : Parts) (setup : Setup) (a : ℕ) (Ps : List Description) (r : Result (Unit {0}) NotAdded) → parts_of setup v.tables ≡ v → v.address ≡ a → is_ok r ≡ false → result_err r ≡ not_added (powered_up Ps) setup.address → IsCrowded Ps a v
is_crowded v setup a Ps r same here refused why = record {
  here = here;
  full = subst (λ n. is_some (not_added (powered_up Ps) n) ≡ true) (ap (λ (w : Parts). w.address) same ∙ here) (ap is_some (sym why) ∙ some_err r refused);
}
