-- The warnings of some places, and then of more.
use Rattle.std.proofs.Common.{◌≡◌, inl, inr, ℕ, zero, suc, ◌+◌, ◌<◌, length, Bool, true, false, not, IsTrue, ◌↔◌, List, get_or, subst, arith, [], ◌∷◌, ◌++◌, map, flat_map, refl, ap, ◌∙◌, sym, append_assoc, append-nil}
use Rattle.std.specs.List.{range_with_len}
use Rattle.std.proofs.lemmas.List.{map-append, get_or_default}
use Rattle.std.proofs.lemmas.List.FromFn.{map-range_with_len_more}
use Rattle.bus_legal.specs.declared.profile.Profile.{Profile}
use Rattle.spare_entries.proofs.Zeroed.{zeroed_once}
use Rattle.rt1553_lint.specs.declared.finding.Finding.{Finding}
use Rattle.spare_entries.specs.declared.spare.SparePlace.{SparePlace}
use Rattle.bus_legal.specs.declared.entries.InitialWords.{InitialWords}
use Rattle.bus_legal.specs.Meaning.{description_of}
use Rattle.terminal_rules.specs.Same.{Same}
use Rattle.spare_entries.specs.declared.spare.Setting.{Setting}
use Rattle.spare_entries.specs.declared.spare.SparePlace.TheVariants.{Key, Initial, Word}
use Rattle.spare_entries.specs.Without.{SparesWord, with_entry, without_setting}
use Rattle.spare_entries.specs.Spares.{is_default, GivesWord, IsSpare, IsSpareInitial, Picks, initial_places}
use Rattle.rt1553_lint.specs.Findings.{Warns, subjects, warning_of}

picks_append : {A : Type 0} (P : A → Type 0) (xs ys us vs : List A) → Picks P xs us → Picks P ys vs → Picks P (xs ++ ys) (us ++ vs)
picks_append P [] ys us vs none picked = rw none picked
picks_append P (x ∷ xs) ys us vs (inl first) picked = inl (first.0, first.1 ++ vs, ap (λ zs. zs ++ vs) first.2, picks_append P xs ys first.1 vs first.3 picked)
picks_append P (x ∷ xs) ys us vs (inr first) picked = inr (first.0, picks_append P xs ys us vs first.1 picked)

pub warns_append : (p : Profile) (xs ys : List SparePlace) (old mid new : List Finding) → Warns p xs old mid → Warns p ys mid new → Warns p (xs ++ ys) old new
warns_append p xs ys old mid new first then = record {
  spare = first.spare ++ then.spare;
  picked = picks_append (IsSpare p) xs ys first.spare then.spare first.picked then.picked;
  added = then.added ∙ (ap (λ zs. zs ++ map warning_of then.spare) first.added
      ∙ (append_assoc (subjects old) (map warning_of first.spare) (map warning_of then.spare) ∙ ap (λ zs. subjects old ++ zs) (sym (map-append warning_of first.spare then.spare))));
}

pub warns_yes : (p : Profile) (place : SparePlace) (old new : List Finding) → IsSpare p place → subjects new ≡ subjects old ++ warning_of place ∷ [] → Warns p (place ∷ []) old new
warns_yes p place old new is added = record { spare = place ∷ []; picked = inl (is, [], refl, refl); added = added }

pub warns_no : (p : Profile) (place : SparePlace) (fs : List Finding) → (IsSpare p place → ⊥) → Warns p (place ∷ []) fs fs
warns_no p place fs not = record { spare = []; picked = inr (not, refl); added = sym (append-nil (subjects fs)) }

-- one place more, of those that are given by a number
pub warns_more : (p : Profile) (place : ℕ → SparePlace) (n : ℕ) (old mid new : List Finding) → Warns p (map place (range_with_len 0 n)) old mid → Warns p (place n ∷ []) mid new
    → Warns p (map place (range_with_len 0 (n + 1))) old new
warns_more p place n old mid new first then = let e : 0 + n ≡ n = omega arith in rw (map-range_with_len_more place 0 n n e) (warns_append p (map place (range_with_len 0 n)) (place n ∷ []) old mid new first then)

initials_more : (a n j : ℕ) → a + n ≡ j → flat_map initial_places (range_with_len a (n + 1)) ≡ flat_map initial_places (range_with_len a n) ++ initial_places j
initials_more a zero j e = let here : a ≡ j = omega (arith, e) in append-nil (initial_places a) ∙ ap initial_places here
initials_more a (suc n) j e =
    let next : suc n + 1 ≡ suc (n + 1) = omega arith in
    ap (λ m. flat_map initial_places (range_with_len a m)) next
    ∙ (ap (λ xs. initial_places a ++ xs) (initials_more (a + 1) n j (omega (arith, e)))
    ∙ sym (append_assoc (initial_places a) (flat_map initial_places (range_with_len (a + 1) n)) (initial_places j)))

-- one initial entry more
pub warns_initial : (p : Profile) (n : ℕ) (old mid new : List Finding) → Warns p (flat_map initial_places (range_with_len 0 n)) old mid → Warns p (initial_places n) mid new
    → Warns p (flat_map initial_places (range_with_len 0 (n + 1))) old new
warns_initial p n old mid new first then = let e : 0 + n ≡ n = omega arith in rw (initials_more 0 n n e) (warns_append p (flat_map initial_places (range_with_len 0 n)) (initial_places n) old mid new first then)

-- by the answer of a test
pub warns_unless : (b : Bool) (p : Profile) (place : SparePlace) (fs : List Finding) → (IsTrue b ↔ IsSpare p place) → b ≡ false → Warns p (place ∷ []) fs fs
warns_unless b p place fs test fails = warns_no p place fs (λ is. let holds : b ≡ true = test.1 is in absurd (cc))

-- an initial entry that has no effect itself: none of its words is told
no_words : (p : Profile) (k : ℕ) (words : List ℕ) → IsSpareInitial p k → Picks (IsSpare p) (map (Word k) words) []
no_words p k [] spare = refl
no_words p k (word ∷ words) spare = inr ((λ is. is.2 spare), no_words p k words spare)

pub not_spare : (b : Bool) (p : Profile) (k : ℕ) → (IsTrue b ↔ IsSpareInitial p k) → not b ≡ true → IsSpareInitial p k → ⊥
not_spare b p k test fails spare = let yes : b ≡ true = test.1 spare in absurd (cc)

pub warns_entry : (b : Bool) (p : Profile) (k : ℕ) (old new : List Finding) → (IsTrue b ↔ IsSpareInitial p k) → b ≡ true → subjects new ≡ subjects old ++ warning_of (Initial k) ∷ [] → Warns p (initial_places k) old new
warns_entry b p k old new test is added =
    record { spare = Initial k ∷ []; picked = inl (test.0 is, [], refl, no_words p k (range_with_len 0 32) (test.0 is)); added = added }

pub warns_words : (b : Bool) (p : Profile) (k : ℕ) (old new : List Finding) → (IsTrue b ↔ IsSpareInitial p k) → b ≡ false → Warns p (map (Word k) (range_with_len 0 32)) old new → Warns p (initial_places k) old new
warns_words b p k old new test fails words =
    warns_append p (Initial k ∷ []) (map (Word k) (range_with_len 0 32)) old old new (warns_unless b p (Initial k) old test fails) words

pub warns_if : (b : Bool) (p : Profile) (place : SparePlace) (old new : List Finding) → (IsTrue b ↔ IsSpare p place) → b ≡ true → subjects new ≡ subjects old ++ warning_of place ∷ [] → Warns p (place ∷ []) old new
warns_if b p place old new test is added = warns_yes p place old new (test.0 is) added

-- a key at its default
pub warns_default : (p : Profile) (setting : Setting) (fs : List Finding) → is_default p setting ≡ true → Warns p (Key setting ∷ []) fs fs
warns_default p setting fs default = warns_no p (Key setting) fs (λ is. let other : is_default p setting ≡ false = is.0 in absurd (cc))

pub warns_needed : (b : Bool) (p : Profile) (setting : Setting) (fs : List Finding) → (IsTrue b ↔ Same (description_of p) (without_setting p setting)) → b ≡ false → Warns p (Key setting ∷ []) fs fs
warns_needed b p setting fs test fails = warns_no p (Key setting) fs (λ is. let holds : b ≡ true = test.1 is.1 in absurd (cc))

pub warns_setting : (b : Bool) (p : Profile) (setting : Setting) (old new : List Finding) → is_default p setting ≡ false → (IsTrue b ↔ Same (description_of p) (without_setting p setting)) → b ≡ true
    → subjects new ≡ subjects old ++ warning_of (Key setting) ∷ [] → Warns p (Key setting ∷ []) old new
warns_setting b p setting old new other test is added = warns_yes p (Key setting) old new (other, test.0 is) added

-- a word that isn't given, or is 0
pub warns_no_word : (b : Bool) (p : Profile) (k word : ℕ) (e : InitialWords) (xs : List InitialWords) (fs : List Finding) → xs ≡ p.initials → e ≡ get_or xs k e
    → (IsTrue b ↔ GivesWord word e) → b ≡ false → Warns p (Word k word ∷ []) fs fs
warns_no_word b p k word e xs fs same at test fails = warns_no p (Word k word) fs (λ is.
    let given : GivesWord word e = subst (λ y. GivesWord word y) (sym (at ∙ ap (λ zs. get_or zs k e) same)) (is.0 e) in
    let holds : b ≡ true = test.1 given in absurd (cc))

spares_once : (p : Profile) (k word : ℕ) → InitialWords → SparesWord p k word false → SparesWord p k word true → ⊥
spares_once p k word e fails holds =
    let n = fails e in let y = holds e in
    let same : y.0 ≡ n.0 = zeroed_once (get_or p.initials k e) word y.0 n.0 y.1 n.1 in
    let h : false ≡ true = n.2.1 (subst (λ new. Same (description_of p) (with_entry p k new)) same (y.2.0 refl)) in absurd (cc)

pub warns_needed_word : (b : Bool) (p : Profile) (k word : ℕ) (e : InitialWords) (fs : List Finding) → SparesWord p k word b → b ≡ false → Warns p (Word k word ∷ []) fs fs
warns_needed_word b p k word e fs spares fails = warns_no p (Word k word) fs (λ is. spares_once p k word e (subst (λ x. SparesWord p k word x) fails spares) is.1)

pub warns_word : (b c : Bool) (p : Profile) (k word : ℕ) (e : InitialWords) (xs : List InitialWords) (old new : List Finding) → xs ≡ p.initials → k < length p.initials → e ≡ get_or xs k e
    → (IsTrue b ↔ GivesWord word e) → b ≡ true → SparesWord p k word c → c ≡ true → (IsSpareInitial p k → ⊥)
    → subjects new ≡ subjects old ++ warning_of (Word k word) ∷ [] → Warns p (Word k word ∷ []) old new
warns_word b c p k word e xs old new same low at test given spares is needed added =
    warns_yes p (Word k word) old new
    ((λ d. subst (λ y. GivesWord word y) (at ∙ (ap (λ zs. get_or zs k e) same ∙ get_or_default p.initials k e d low)) (test.0 given)), subst (λ x. SparesWord p k word x) is spares, needed) added
