-- Laws of two texts: equal canonical bytes, and terminals that are the same.
use Rattle.std.proofs.Common.{◌≡◌, ◌≢◌, ◌≤◌, ℕ, List, [], refl, ap, sym, ◌∙◌, subst}
use Rattle.bus_legal.specs.Description.{Description}
use Rattle.bus_legal.specs.Parts.{Parts, description_in, IsNormal}
use Rattle.bus_legal.specs.Reach.{reach}
use Rattle.terminal_rules.specs.declared.event.Event.{Event}
use Rattle.terminal_rules.specs.Out.{outs}
use Rattle.terminal_rules.specs.Same.{Same}
use Rattle.terminal_exchanges.specs.Distinguish.{TellsApart}
use Rattle.terminal_rules.proofs.Reach.Same.{same_where_reached, outs_from-reach}
use Rattle.terminal_exchanges.proofs.Distinguish.Apart.{apart-reach, apart_not_same}
use Rattle.bus_canon.specs.Canon.{Text}
use Rattle.bus_canon.specs.declared.difference.Difference.{Difference}
use Rattle.bus_canon.specs.Difference.{IsFirstDifference, script_for}
use Rattle.bus_canon.proofs.CanonLaws.{normal_text, written_normal, written_value_one, text_one}
use Rattle.bus_canon.proofs.SameLaws.{equal_where_same}
use Rattle.rt1553.specs.Load.{Of, Reaches}
use Rattle.rt1553.specs.Canon.{IsCanon}
use Rattle.rt1553.specs.declared.comparison.Verdict.{Verdict}
use Rattle.rt1553.specs.declared.comparison.Verdict.TheVariants as verdict
use Rattle.rt1553.specs.Compare.{AreSame, AreDifferent, IsRight, IsExact, Headline}
use Rattle.rt1553.proofs.LoadLaws.{one_description}

-- ---- an accepted text has canonical bytes: the text of what can be reached of it

abbrev bytes_of : (v : Parts) → IsNormal v → List ℕ
bytes_of v normal = (normal_text v normal).0

canon_of : (text : List ℕ) (v : Parts) (normal : IsNormal v) → Reaches text v → IsCanon text (bytes_of v normal)
canon_of text v normal p = record { value = v; reaches = p; means = (normal_text v normal).1 }

other_bytes : (v w : Parts) (normal : IsNormal v) (normal' : IsNormal w) → v ≢ w → bytes_of v normal ≢ bytes_of w normal'
other_bytes v w normal normal' other e =
    other (written_value_one v w (bytes_of w normal') (subst (Text v) e (normal_text v normal).1) (normal_text w normal').1)

-- the address of an accepted text's terminal
pub own_address : (text : List ℕ) (v : Parts) → IsNormal v → (p : Reaches text v) → p.description.address ≤ 30
own_address text v normal p = subst (λ n. n ≤ 30) (ap (λ D. D.address) p.reached) normal.address

pub same_terminals : (first second : List ℕ) (v : Parts) → IsNormal v → (p : Reaches first v) (q : Reaches second v) → Same p.description q.description
same_terminals first second v normal p q =
    same_where_reached p.description q.description (own_address first v normal p) (own_address second v normal q) (sym p.reached ∙ q.reached)

-- ---- verdicts

pub are_same : (first second : List ℕ) (v : Parts) → IsNormal v → Reaches first v → Reaches second v → AreSame first second
are_same first second v normal p q = record {
  p = p.description;
  q = q.description;
  of_first = p.of;
  of_second = q.of;
  bytes = bytes_of v normal;
  canon_first = canon_of first v normal p;
  canon_second = canon_of second v normal q;
  same = same_terminals first second v normal p q;
}

-- what is said of the parts of two texts is said of what can be reached of them
of_reached : (X : Description → Description → Type 0) (v w : Parts) (P Q : Description) → description_in v ≡ reach P → description_in w ≡ reach Q
    → X (description_in v) (description_in w) → X (reach P) (reach Q)
of_reached X v w P Q p q x = subst (λ D. X D (reach Q)) p (subst (λ D. X (description_in v) D) q x)

pub are_different : (first second : List ℕ) (v w : Parts) (script : List Event) → IsNormal v → IsNormal w → Reaches first v → Reaches second w
    → (d : Difference) × IsFirstDifference (description_in v) (description_in w) d × (script ≡ script_for (description_in v) (description_in w) d)
    → TellsApart (description_in v) (description_in w) script → AreDifferent first second script
are_different first second v w script normal normal' p q f t = record {
  p = p.description;
  q = q.description;
  of_first = p.of;
  of_second = q.of;
  first_bytes = bytes_of v normal;
  second_bytes = bytes_of w normal';
  canon_first = canon_of first v normal p;
  canon_second = canon_of second w normal' q;
  canonical = other_bytes v w normal normal' (λ e. t.differ (ap (λ x. outs (description_in x) script) e));
  difference = f.0;
  first_difference = of_reached (λ A B. IsFirstDifference A B f.0) v w p.description q.description p.reached q.reached f.1;
  shows = f.2 ∙ (λ j. script_for (p.reached j) (q.reached j) f.0);
  apart = apart-reach p.description q.description script (own_address first v normal p) (own_address second w normal' q)
      (of_reached (λ A B. TellsApart A B script) v w p.description q.description p.reached q.reached t);
}

-- whatever descriptions the texts are of, a verdict that is right is exact
pub right_is_exact : (first second : List ℕ) (v : Verdict) → IsRight first second v → IsExact first second v
right_is_exact first second verdict.Same r P Q p q = (
  λ _. subst (λ D. Same D Q) (one_description first r.p P r.of_first p) (subst (λ D. Same r.p D) (one_description second r.q Q r.of_second q) r.same),
  λ _. refl,
)
right_is_exact first second (verdict.Differ script) r P Q p q = (
  λ e. cc,
  λ same. absurd (apart_not_same r.p r.q script.items r.apart
      (subst (λ D. Same D r.q) (one_description first P r.p p r.of_first) (subst (λ D. Same P D) (one_description second Q r.q q r.of_second) same))),
)

-- ---- the headline

-- the parts of canonical bytes are what can be reached of the text's terminal
parts_reached : (text bytes : List ℕ) (P : Description) (c : IsCanon text bytes) → Of text P → description_in c.value ≡ reach P
parts_reached text bytes P c of = c.reaches.reached ∙ ap reach (one_description text c.reaches.description P c.reaches.of of)

small_address : (v : Parts) (P : Description) → IsNormal v → description_in v ≡ reach P → P.address ≤ 30
small_address v P normal e = subst (λ n. n ≤ 30) (ap (λ D. D.address) e) normal.address

same_reached : (P Q : Description) → P.address ≤ 30 → Q.address ≤ 30 → Same P Q → Same (reach P) (reach Q)
same_reached P Q p q same es proper = outs_from-reach P [] es p ∙ same es proper ∙ sym (outs_from-reach Q [] es q)

pub headline : Headline
headline first second a b P Q p q c d =
    let v = c.value in
    let w = d.value in
    let normal = written_normal v a c.means in
    let normal' = written_normal w b d.means in
    let reached = parts_reached first a P c p in
    let reached' = parts_reached second b Q d q in
    let low = small_address v P normal reached in
    let low' = small_address w Q normal' reached' in (
      λ e. same_where_reached P Q low low' (sym reached ∙ ap description_in (written_value_one v w b (subst (Text v) e c.means) d.means) ∙ reached'),
      λ same.
          let parts : Same (description_in v) (description_in w) = subst (λ D. Same D (description_in w)) (sym reached) (subst (λ D. Same (reach P) D) (sym reached') (same_reached P Q low low' same)) in
          text_one w a b (subst (λ x. Text x a) (equal_where_same v w normal normal' parts) c.means) d.means,
    )
