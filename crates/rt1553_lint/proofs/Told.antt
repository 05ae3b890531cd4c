-- What findings are of, as findings are added.
use Rattle.std.proofs.Common.{◌≡◌, ◌<◌, ◌+◌, ◌==◌, ℕ, suc, arith, Bool, true, false, List, [], ◌∷◌, ◌++◌, map, length, get_or, drop, Option, Some, None, refl, ap, ◌∙◌, sym, append_assoc}
use Rattle.std.proofs.lemmas.Bool.{eqb-true}
use Rattle.std.proofs.lemmas.List.{drop_more, map-append}
use Rattle.bus_legal.specs.declared.profile.Profile
use Rattle.bus_profile.specs.Read.{Accepts}
use Rattle.spare_entries.specs.Spares.{places_of}
use Rattle.spare_entries.specs.declared.spare.SparePlace.{SparePlace}
use Rattle.bus_profile.specs.declared.fault.ProfileFault.{ProfileFault}
use Rattle.bus_profile.specs.declared.fault.ProfileFault.TheVariants.{NotToml, UnknownKey, Missing, WrongKind, OutOfRange, BadRanges, TooMany, RequiredCode, Memory}
use Rattle.rt1553.specs.Load.{is_canon_text, IsNoProfile, IsNotLoadedBy, IsNotLoaded}
use Rattle.rt1553.specs.declared.fault.LoadFault.TheVariants as load
use Rattle.rt1553_lint.specs.declared.finding.LintFault.{LintFault}
use Rattle.rt1553_lint.specs.declared.finding.LintFault.TheVariants.{Profile}
use Rattle.rt1553_lint.specs.declared.finding.Finding.{Finding}
use Rattle.rt1553_lint.specs.Findings.{Subject, subjects, profile_error, Warns, FindsFaults, FindsRefused, as_load_fault}
use Rattle.rt1553_lint.specs.Places.{IsNone}

-- one finding more
pub subjects_push : (fs new : List Finding) (f : Finding) (fault : Option _) (spare : Option _) → new ≡ fs ++ f ∷ [] → f.fault ≡ fault → f.spare ≡ spare → subjects new ≡ subjects fs ++ (fault, spare) ∷ []
subjects_push fs new f fault spare is of_fault of_spare = ap subjects is ∙ (map-append (λ f. (f.fault, f.spare)) fs (f ∷ []) ∙ rw of_fault (rw of_spare refl))

-- one fault more is told
pub subjects_step : (fs new : List Finding) (f : Finding) (faults : List ProfileFault) (i : ℕ) (d : ProfileFault) (all : List Subject) → i < length faults → new ≡ fs ++ f ∷ []
    → f.fault ≡ Some (Profile (get_or faults i d)) → f.spare ≡ None → subjects fs ++ map profile_error (drop i faults) ≡ all → subjects new ++ map profile_error (drop (i + 1) faults) ≡ all
subjects_step fs new f faults i d all within is told none before =
    ap (λ xs. xs ++ map profile_error (drop (i + 1) faults)) (subjects_push fs new f (Some (Profile (get_or faults i d))) None is told none)
    ∙ (append_assoc (subjects fs) (profile_error (get_or faults i d) ∷ []) (map profile_error (drop (i + 1) faults)) ∙ (ap (λ xs. subjects fs ++ map profile_error xs) (sym (drop_more faults i d within)) ∙ before))

-- faults were found
pub finds_faults : (text : List ℕ) (faults : List ProfileFault) (found : List Finding) (none : Bool) → subjects found ≡ map profile_error faults → none ≡ (length found == 0) → none ≡ false → FindsFaults text faults found
finds_faults text [] [] none told empty some = let both : true ≡ false = sym empty ∙ some in absurd (cc)
finds_faults text [] (f ∷ fs) none told empty some = absurd (cc)
finds_faults text (fault ∷ faults) found none told empty some = told

-- there is no fault
pub finds_warnings : (text : List ℕ) (faults : List ProfileFault) (found warned : List Finding) (none : Bool) (p : Profile.Profile) → subjects found ≡ map profile_error faults → none ≡ (length found == 0) → none ≡ true
    → Accepts text p → Warns p (places_of p) [] warned → FindsFaults text faults warned
finds_warnings text [] found warned none p told empty all accepts warns = (p, accepts, warns)
finds_warnings text (fault ∷ faults) [] warned none p told empty all accepts warns = absurd (cc)
finds_warnings text (fault ∷ faults) (f ∷ fs) warned none p told empty all accepts warns =
    let nothing : suc (length fs) ≡ 0 = eqb-true (length (f ∷ fs)) 0 (sym empty ∙ all) in absurd (omega (arith, nothing))

-- a text that is no document is refused by that alone, or as a canonical text
no_document : (text : List ℕ) (fault : ProfileFault) → IsNone text → IsNoProfile text fault → fault ≡ NotToml
no_document text NotToml none is = refl
no_document text Memory none is = absurd is
no_document text (UnknownKey part) none is = absurd (none is.tree is.is)
no_document text (Missing part key) none is = absurd (none is.tree is.is)
no_document text (WrongKind part key) none is = absurd (none is.tree is.is)
no_document text (OutOfRange part key) none is = absurd (none is.tree is.is)
no_document text (BadRanges part key) none is = absurd (none is.tree is.is)
no_document text (TooMany part key) none is = absurd (none is.tree is.is)
no_document text (RequiredCode code) none is = absurd (none is.tree is.is)

only_toml_by : (b : Bool) (text : List ℕ) (fault : ProfileFault) → IsNone text → IsNotLoadedBy b text (load.Profile fault) → fault ≡ NotToml
only_toml_by true text fault none is = absurd is
only_toml_by false text fault none is = no_document text fault none is

pub only_toml : (text : List ℕ) (fault : ProfileFault) → IsNone text → IsNotLoaded text (load.Profile fault) → fault ≡ NotToml
only_toml text fault none is = only_toml_by (is_canon_text text) text fault none is

-- one fault is all that is found
pub finds_refused : (text : List ℕ) (found : List Finding) (finding : Finding) (fault : LintFault) → found ≡ finding ∷ [] → finding.fault ≡ Some fault → finding.spare ≡ None
    → IsNotLoaded text (as_load_fault fault) → FindsRefused text found
finds_refused text found finding fault is of_fault of_spare refused = record {
  fault = fault;
  refused = refused;
  told = subjects_push [] found finding (Some fault) None is of_fault of_spare;
}

-- the same is found where the findings are of the same
warns_same : (p : Profile.Profile) (places : List SparePlace) (found placed : List Finding) → subjects placed ≡ subjects found → Warns p places [] found → Warns p places [] placed
warns_same p places found placed same warns = record { spare = warns.spare; picked = warns.picked; added = same ∙ warns.added }

pub finds_same : (text : List ℕ) (faults : List ProfileFault) (found placed : List Finding) → subjects placed ≡ subjects found → FindsFaults text faults found → FindsFaults text faults placed
finds_same text [] found placed same finds = (finds.0, finds.1, warns_same finds.0 (places_of finds.0) found placed same finds.2)
finds_same text (fault ∷ faults) found placed same finds = same ∙ finds
