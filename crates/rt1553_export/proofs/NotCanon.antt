-- No TOML document begins as a canonical text: behind the key `rt1553` no equals sign stands.
use Rattle.std.proofs.Common.{◌≡◌, ℕ, ◌==◌, ◌||◌, Bool, true, false, nat_eq, None, Some, List, ◌++◌, length, take, drop, codes, refl, sym, ap, ◌∙◌, arith}
use Rattle.std.proofs.lemmas.Bool.Decides.{nat_tests}
use Rattle.std.proofs.lemmas.List.{take-append-drop}
use Rattle.std.proofs.lemmas.Slice.Eq.{bytes_eq-Decides}
use Rattle.std.specs.List.{starts_with}
use Rattle.toml.specs.Data.{Members}
use Rattle.toml.specs.Parse.{parse_document}
use Rattle.toml.proofs.OnLiterals.{toml_on_literals}
use Rattle.bus_legal.specs.declared.profile.Profile.{Profile}
use Rattle.bus_profile.specs.Read.{Accepts}
use Rattle.rt1553.specs.Load.{is_canon_text}

no_first : (rest : List ℕ) → parse_document (codes "rt1553 1\n" ++ rest) ≡ None
unfolding toml_on_literals
no_first rest = let some : (length (codes "rt1553 1\n" ++ rest) == 0) ≡ false = grind (arith, nat_tests) in rw some refl

no_second : (rest : List ℕ) → parse_document (codes "rt1553 2\n" ++ rest) ≡ None
unfolding toml_on_literals
no_second rest = let some : (length (codes "rt1553 2\n" ++ rest) == 0) ≡ false = grind (arith, nat_tests) in rw some refl

begins_not : (head text : List ℕ) (tree : Members) → ((rest : List ℕ) → parse_document (head ++ rest) ≡ None) → parse_document text ≡ Some tree → starts_with nat_eq text head ≡ false
begins_not head text tree none reads = by_test (starts_with nat_eq text head) refl
  where
    by_test : (b : Bool) → starts_with nat_eq text head ≡ b → b ≡ false
    by_test false e = refl
    by_test true e =
        let same : head ≡ take (length head) text = (bytes_eq-Decides head (take (length head) text)).0 e in
        let whole : text ≡ head ++ drop (length head) text = sym (take-append-drop (length head) text) ∙ ap (λ h. h ++ drop (length head) text) (sym same) in
        let clash : None ≡ Some tree = sym (none (drop (length head) text)) ∙ ap parse_document (sym whole) ∙ reads in
        cc

pub accepted_no_canon : (text : List ℕ) (profile : Profile) → Accepts text profile → is_canon_text text ≡ false
accepted_no_canon text profile a =
    λ j. begins_not (codes "rt1553 1\n") text a.tree no_first a.is.reads j || begins_not (codes "rt1553 2\n") text a.tree no_second a.is.reads j
