-- Faults that are told one after the other.
use Rattle.std.proofs.Common.{◌≡◌, ℕ, ◌+◌, ◌<◌, ◌==◌, true, false, List, [], ◌∷◌, ◌++◌, length, drop, get_or, refl, sym, ap, ◌∙◌, append_assoc, arith}
use Rattle.std.specs.List.{flat_map}
use Rattle.std.proofs.lemmas.Bool.Decides.{nat_tests}
use Rattle.std.proofs.lemmas.List.{drop_more}
use Rattle.rt1553_import.specs.declared.fault.TableFault.{TableFault}
use Rattle.rt1553_import.specs.TableFaults.{or_others}

-- what is left to tell, after one part of it is told
pub told_step : (old new part rest more all : List TableFault) → new ≡ old ++ part → rest ≡ part ++ more → old ++ rest ≡ all → new ++ more ≡ all
told_step old new part rest more all grown splits so_far = ap (λ n. n ++ more) grown ∙ append_assoc old part more ∙ sym (ap (λ r. old ++ r) splits) ∙ so_far

pub flat_step : {A : Type 0} (f : A → List TableFault) (xs : List A) (i : ℕ) (d : A) (part : List TableFault) → i < length xs → part ≡ f (get_or xs i d) → flat_map f (drop i xs) ≡ part ++ flat_map f (drop (i + 1) xs)
flat_step f xs i d part within is = ap (flat_map f) (drop_more xs i d within) ∙ ap (λ p. p ++ flat_map f (drop (i + 1) xs)) (sym is)

-- ---- faults that come before others

pub or_else_first : (fs others : List TableFault) → false ≡ (length fs == 0) → fs ≡ or_others fs others
or_else_first [] others e = cc e
or_else_first (f ∷ fs) others e = refl

pub no_faults : (fs : List TableFault) → true ≡ (length fs == 0) → fs ≡ []
no_faults [] e = refl
no_faults (f ∷ fs) e = let none : length (f ∷ fs) ≡ 0 = grind (arith, nat_tests) in absurd (omega (arith, none))

pub some_faults : (fs : List TableFault) → false ≡ (length fs == 0) → 0 < length fs
some_faults [] e = cc e
some_faults (f ∷ fs) e = omega arith
