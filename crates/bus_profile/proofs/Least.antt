-- The first check of a list that fails has the least place, where the list is made of parts in order.
use Rattle.std.proofs.Common.{◌≡◌, ◌≢◌, ℕ, suc, ◌<◌, Bool, true, false, cond, List, [], ◌∷◌, ◌++◌, Some, None, refl, ap, ◌∙◌, inl, inr, ⊎_elim, arith}
use Rattle.std.proofs.lemmas.Option.{same_Some}
use Rattle.std.specs.Option.{option_or}
use Rattle.bus_profile.specs.declared.fault.ProfileFault.{ProfileFault}
use Rattle.bus_profile.specs.declared.fault.ProfileFault.TheVariants.{NotToml}
use Rattle.bus_profile.specs.Checks.{Check, IsBefore, IsAmong, IsFirst, HasNoFault, under, numbered, in_order, first_fault}
use Rattle.bus_profile.specs.inner.FirstFault.{fault_of_parts}

-- ---- the first of a list of parts

first_fault-append : (xs ys : List Check) → first_fault (xs ++ ys) ≡ option_or (first_fault xs) (first_fault ys)
first_fault-append [] ys = refl
first_fault-append (x ∷ xs) ys = pick x.fails (first_fault-append xs ys)
  where
    pick : (b : Bool) → first_fault (xs ++ ys) ≡ option_or (first_fault xs) (first_fault ys)
        → cond b (Some x.fault) (first_fault (xs ++ ys)) ≡ option_or (cond b (Some x.fault) (first_fault xs)) (first_fault ys)
    pick true e = refl
    pick false e = e

first_fault-under : (n : ℕ) (xs : List Check) → first_fault (under n xs) ≡ first_fault xs
first_fault-under n [] = refl
first_fault-under n (x ∷ xs) = ap (cond x.fails (Some x.fault)) (first_fault-under n xs)

first_fault-numbered : (n : ℕ) (parts : List (List Check)) → first_fault (numbered n parts) ≡ fault_of_parts parts
first_fault-numbered n [] = refl
first_fault-numbered n (part ∷ parts) =
    first_fault-append (under n part) (numbered (suc n) parts) ∙ rw (first_fault-under n part, first_fault-numbered (suc n) parts)

pub first_fault-in_order : (parts : List (List Check)) → first_fault (in_order parts) ≡ fault_of_parts parts
unfolding in_order
first_fault-in_order parts = first_fault-numbered 0 parts

-- ---- places that rise

-- the place is before those of all the checks
abbrev pub IsBeforeAll : List ℕ → List Check → Type 0
IsBeforeAll p [] = Unit {0}
IsBeforeAll p (c ∷ cs) = IsBefore p c.place × IsBeforeAll p cs

-- the places rise, and no fault is that of a text without a tree
abbrev pub Rises : List Check → Type 0
Rises [] = Unit {0}
Rises (c ∷ cs) = IsBeforeAll c.place cs × Rises cs × (c.fault ≢ NotToml)

abbrev pub AllRise : List (List Check) → Type 0
AllRise [] = Unit {0}
AllRise (part ∷ parts) = Rises part × AllRise parts

IsBeforeAll-append : (p : List ℕ) (xs ys : List Check) → IsBeforeAll p xs → IsBeforeAll p ys → IsBeforeAll p (xs ++ ys)
IsBeforeAll-append p [] ys a b = b
IsBeforeAll-append p (x ∷ xs) ys a b = (a.0, IsBeforeAll-append p xs ys a.1 b)

-- the same number in front of all
IsBeforeAll-under : (n : ℕ) (p : List ℕ) (xs : List Check) → IsBeforeAll p xs → IsBeforeAll (n ∷ p) (under n xs)
IsBeforeAll-under n p [] a = tt
IsBeforeAll-under n p (x ∷ xs) a = (inr (refl, a.0), IsBeforeAll-under n p xs a.1)

-- a greater number in front of the others
IsBeforeAll-later : (n m : ℕ) (p : List ℕ) (xs : List Check) → n < m → IsBeforeAll (n ∷ p) (under m xs)
IsBeforeAll-later n m p [] l = tt
IsBeforeAll-later n m p (x ∷ xs) l = (inl l, IsBeforeAll-later n m p xs l)

IsBeforeAll-numbered : (n m : ℕ) (p : List ℕ) (parts : List (List Check)) → n < m → IsBeforeAll (n ∷ p) (numbered m parts)
IsBeforeAll-numbered n m p [] l = tt
IsBeforeAll-numbered n m p (part ∷ parts) l =
    IsBeforeAll-append (n ∷ p) (under m part) (numbered (suc m) parts) (IsBeforeAll-later n m p part l) (IsBeforeAll-numbered n (suc m) p parts (omega arith))

part_rises : (n : ℕ) (part : List Check) (parts : List (List Check)) → Rises part → Rises (numbered (suc n) parts) → Rises (under n part ++ numbered (suc n) parts)
part_rises n [] parts r s = s
part_rises n (c ∷ cs) parts r s =
    let here = IsBeforeAll-under n c.place cs r.0 in
    let later = IsBeforeAll-numbered n (suc n) c.place parts (omega arith) in
    (IsBeforeAll-append (n ∷ c.place) (under n cs) (numbered (suc n) parts) here later, part_rises n cs parts r.1 s, r.2)

numbered_rise : (n : ℕ) (parts : List (List Check)) → AllRise parts → Rises (numbered n parts)
numbered_rise n [] a = tt
numbered_rise n (part ∷ parts) a = part_rises n part parts a.0 (numbered_rise (suc n) parts a.1)

pub in_order_rises : (parts : List (List Check)) → AllRise parts → Rises (in_order parts)
unfolding in_order
in_order_rises parts a = numbered_rise 0 parts a

-- ---- the least place

before_each : (p : List ℕ) (cs : List Check) → IsBeforeAll p cs → (d : Check) → IsAmong cs d → IsBefore p d.place
before_each p [] a d h = absurd h
before_each p (c ∷ cs) a d (inl e) = rw e a.0
before_each p (c ∷ cs) a d (inr h) = before_each p cs a.1 d h

pub IsFirst-from : (cs : List Check) (f : ProfileFault) → Rises cs → first_fault cs ≡ Some f → IsFirst cs f
IsFirst-from [] f r e = absurd (cc)
IsFirst-from (c ∷ cs) f r e = pick c.fails refl e (IsFirst-from cs f r.1)
  where
    pick : (b : Bool) → c.fails ≡ b → cond b (Some c.fault) (first_fault cs) ≡ Some f → (first_fault cs ≡ Some f → IsFirst cs f) → IsFirst (c ∷ cs) f
    pick true fails e later = record {
      check = c;
      among = inl refl;
      fails = fails;
      is = cc;
      least = λ d among _. ⊎_elim (λ same. inl same) (λ more. inr (before_each c.place cs r.0 d more)) among;
    }
    pick false passes e later =
        let first = later e in record {
          check = first.check;
          among = inr first.among;
          fails = first.fails;
          is = first.is;
          least = λ d among fails. ⊎_elim (λ same. let e : d.fails ≡ c.fails = ap (λ x. x.fails) same in absurd (cc)) (λ more. first.least d more fails) among;
        }

pub HasNoFault-from : (cs : List Check) → first_fault cs ≡ None → HasNoFault cs
HasNoFault-from [] e d h = absurd h
HasNoFault-from (c ∷ cs) e d h = pick c.fails refl e (HasNoFault-from cs)
  where
    pick : (b : Bool) → c.fails ≡ b → cond b (Some c.fault) (first_fault cs) ≡ None → (first_fault cs ≡ None → HasNoFault cs) → d.fails ≡ false
    pick true fails e later = absurd (cc)
    pick false passes e later = ⊎_elim (λ same. rw same passes) (λ more. later e d more) h

-- the fault of a tree is never that of a text without one
pub first_fault-tree : (cs : List Check) → Rises cs → first_fault cs ≡ Some NotToml → ⊥
first_fault-tree [] r e = absurd (cc)
first_fault-tree (c ∷ cs) r e = pick c.fails e (first_fault-tree cs r.1)
  where
    pick : (b : Bool) → cond b (Some c.fault) (first_fault cs) ≡ Some NotToml → (first_fault cs ≡ Some NotToml → ⊥) → ⊥
    pick true e later = r.2 (same_Some _ _ e)
    pick false e later = later e
