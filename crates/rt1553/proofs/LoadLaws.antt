-- Laws of texts: what they are of, and their canonical bytes.
use Rattle.std.proofs.Common.{◌≡◌, ℕ, ◌==◌, ◌||◌, List, ◌++◌, Bool, true, false, Some, refl, ap, sym, ◌∙◌, subst, codes}
use Rattle.toml.specs.Data.{Members}
use Rattle.std.proofs.lemmas.Bool.{eqb-true}
use Rattle.line_format.specs.Shapes.{number_line}
use Rattle.line_format.proofs.OneText.{parted, number_one, number_value, number_fits}
use Rattle.line_format.proofs.Writes.{number_text, number_spelled}
use Rattle.bus_legal.specs.declared.profile.Profile.{Profile}
use Rattle.bus_profile.specs.Read.{IsTree, Accepts}
use Rattle.bus_profile.specs.Gives.{profile_of}
use Rattle.bus_profile.proofs.Faultless.{faultless_gives}
use Rattle.bus_legal.specs.Description.{Description}
use Rattle.bus_legal.specs.Meaning.{description_of}
use Rattle.bus_legal.specs.Parts.{Parts, description_in, IsNormal}
use Rattle.bus_legal.specs.Reach.{reach}
use Rattle.bus_legal.proofs.Made.{made_of, made-normal, made-reach}
use Rattle.bus_legal.proofs.NormalLaws.{reach-normal}
use Rattle.bus_legal.proofs.SameNormals.{same_normals}
use Rattle.bus_legal.proofs.PlainLaws.{described_alike}
use Rattle.bus_canon.specs.Canon.{version_field, is_read, canon, Text, AnyText}
use Rattle.bus_canon.proofs.CanonLaws.{text_read, text_normal, normal_text, written_normal, value_one, text_one}
use Rattle.rt1553.specs.Load.{is_canon_text, IsProfileText, OfBy, Reaches}
use Rattle.rt1553.specs.Canon.{CanonIsItsOwn, OneCanon, OneDescription, HasCanon, AcceptedHaveCanon, CanonTextsHaveCanon, FaultlessHaveCanon}
use Rattle.rt1553.proofs.ProfileRanges.{accepted_in_range}

-- ---- a canonical text begins as such

begins : (version : ℕ) (rest : List ℕ) → is_read version ≡ true → is_canon_text (number_text (codes "rt1553") version_field version ++ rest) ≡ true
begins version rest e = by_test (version == 1) refl
  where
    by_test : (b : Bool) → (version == 1) ≡ b → is_canon_text (number_text (codes "rt1553") version_field version ++ rest) ≡ true
    by_test true f = ap (λ n. is_canon_text (number_text (codes "rt1553") version_field n ++ rest)) (eqb-true version 1 f)
    by_test false f = ap (λ n. is_canon_text (number_text (codes "rt1553") version_field n ++ rest)) (eqb-true version 2 (ap (λ b. b || (version == 2)) (sym f) ∙ e))

pub text_begins : (v : Parts) (bytes : List ℕ) → AnyText v bytes → is_canon_text bytes ≡ true
unfolding canon
text_begins v bytes means =
    let p = parted (number_line (codes "rt1553") version_field is_read) _ v bytes means in
    let read : is_read p.value ≡ true = number_value (codes "rt1553") version_field is_read p.value p.front p.spells_front in
    let front : p.front ≡ number_text (codes "rt1553") version_field p.value =
    number_one (codes "rt1553") version_field is_read p.value p.front _ p.spells_front
    (number_spelled (codes "rt1553") version_field is_read p.value (number_fits (codes "rt1553") version_field is_read p.value p.front p.spells_front) read) in
    ap is_canon_text (p.is ∙ ap (λ x. x ++ p.rest) front) ∙ begins p.value p.rest read

-- ---- a text is of one terminal

pub one_tree : (text : List ℕ) (s t : Members) → IsTree text s → IsTree text t → s ≡ t
one_tree text s t p q = let both : Some s ≡ Some t = sym p.reads ∙ q.reads in cc both

one_of : (by : Bool) (text : List ℕ) (P Q : Description) → OfBy by text P → OfBy by text Q → P ≡ Q
one_of true text P Q p q = p.gives ∙ ap description_in (value_one p.value q.value text p.means q.means) ∙ sym q.gives
one_of false text P Q p q =
    p.gives
    ∙ described_alike p.profile q.profile
    (p.accepts.gives ∙ ap profile_of (one_tree text p.accepts.tree q.accepts.tree p.accepts.is q.accepts.is) ∙ sym q.accepts.gives)
    ∙ sym q.gives

pub one_description : OneDescription
one_description text P Q p q = one_of (is_canon_text text) text P Q p q

-- ---- what can be reached of a text

-- a canonical text is of what can be reached of it
pub canon_reaches : (v : Parts) (text : List ℕ) → AnyText v text → Reaches text v
canon_reaches v text means = record {
  description = description_in v;
  of = subst (λ b. OfBy b text (description_in v)) (sym (text_begins v text means)) (record { value = v; means = means; gives = refl });
  reached = sym (reach-normal v (text_normal v text means));
}

-- what can be reached of a text is one value
pub one_value : (text : List ℕ) (v w : Parts) → IsNormal v → IsNormal w → Reaches text v → Reaches text w → v ≡ w
one_value text v w a b p q =
    same_normals v w a b (p.reached ∙ ap reach (one_description text p.description q.description p.of q.of) ∙ sym q.reached)

-- ---- canonical bytes

pub canon_is_its_own : CanonIsItsOwn
canon_is_its_own text bytes c = record { value = c.value; reaches = canon_reaches c.value bytes (text_read c.value bytes c.means); means = c.means }

pub one_canon : OneCanon
one_canon text bytes others p q =
    let same : p.value ≡ q.value = one_value text p.value q.value (written_normal p.value bytes p.means) (written_normal q.value others q.means) p.reaches q.reaches in
    text_one q.value bytes others (subst (λ v. Text v bytes) same p.means) q.means

-- an accepted text has canonical bytes: the text of what can be reached of it
pub has_canon : (text : List ℕ) (v : Parts) → IsNormal v → Reaches text v → HasCanon text
has_canon text v normal p = let t = normal_text v normal in (t.0, record { value = v; reaches = p; means = t.1 })

pub canon_has_canon : CanonTextsHaveCanon
canon_has_canon text v means = has_canon text v (text_normal v text means) (canon_reaches v text means)

-- a text that is no canonical text, of this profile
pub profile_reaches : (text : List ℕ) (p : Profile) (v : Parts) → Accepts text p → is_canon_text text ≡ false → description_in v ≡ reach (description_of p) → Reaches text v
profile_reaches text p v accepts toml reached = record {
  description = description_of p;
  of = subst (λ b. OfBy b text (description_of p)) (sym toml) (record { profile = p; accepts = accepts; gives = refl });
  reached = reached;
}

-- ---- each accepted text has canonical bytes

of_profile : (text : List ℕ) (P : Description) → IsProfileText text P → is_canon_text text ≡ false → HasCanon text
of_profile text P of toml =
    let described = description_of of.profile in
    let range = accepted_in_range text of.profile of.accepts in
    has_canon text (made_of described) (made-normal described range) (profile_reaches text of.profile (made_of described) of.accepts toml (made-reach described range))

of_has_canon : (by : Bool) (text : List ℕ) (P : Description) → is_canon_text text ≡ by → OfBy by text P → HasCanon text
of_has_canon true text P is of = canon_has_canon text of.value of.means
of_has_canon false text P is of = of_profile text P of is

pub accepted_have_canon : AcceptedHaveCanon
accepted_have_canon text = (
  λ accepted. of_has_canon (is_canon_text text) text accepted.0 refl accepted.1,
  λ canon. let reaches = canon.1.reaches in (reaches.description, reaches.of),
)

-- the profile of a text that is accepted as a profile text
profile_in : (text : List ℕ) → is_canon_text text ≡ false → HasCanon text → (profile : Profile) × Accepts text profile
profile_in text toml canon =
    let reaches = canon.1.reaches in
    let of : IsProfileText text reaches.description = subst (λ b. OfBy b text reaches.description) toml reaches.of in
    (of.profile, of.accepts)

pub faultless_have_canon : FaultlessHaveCanon
faultless_have_canon text tree toml is =
    let gives = faultless_gives text tree is in (
      λ none. let given = gives.0 none in of_profile text (description_of given.0) (record { profile = given.0; accepts = given.1; gives = refl }) toml,
      λ canon. gives.1 (profile_in text toml canon),
    )
