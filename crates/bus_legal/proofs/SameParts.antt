-- The test of equality that is made field by field tells whether parts are equal.
use Rattle.std.proofs.Common.{◌≡◌, Bool, true, false, ◌&&◌, ◌==◌, ℕ, List, refl, ap, sym, ◌∙◌}
use Rattle.std.specs.Bool.{Decides}
use Rattle.std.specs.Cmp.Lexicographic.{pointwise}
use mathlib.Core.Bool.{beq}
use Rattle.std.proofs.lemmas.Slice.Eq.{slice_eq-Decides}
use Rattle.std.proofs.lemmas.Bool.Decides.{Decides-eqb, Decides-and}
use Rattle.bus_legal.specs.declared.tables.Tables.{Tables}
use Rattle.bus_legal.specs.Parts.{Parts}

same_truth : (a b : Bool) → Decides (beq a b) (a ≡ b)
same_truth true true = (λ e. refl, λ e. refl)
same_truth false false = (λ e. refl, λ e. refl)
same_truth true false = (λ e. cc, λ e. cc)
same_truth false true = (λ e. cc, λ e. cc)

abbrev pub eq_words : List ℕ → List ℕ → Bool
eq_words xs ys = pointwise (λ x y. x == y) xs ys

same_words : (xs ys : List ℕ) → Decides (eq_words xs ys) (xs ≡ ys)
same_words xs ys = slice_eq-Decides Decides-eqb xs ys _ refl

abbrev pub eq_tables : Tables → Tables → Bool
eq_tables t u =
    eq_words t.own_receive u.own_receive && (eq_words t.own_transmit u.own_transmit && (eq_words t.broadcast_receive u.broadcast_receive
    && ((t.own_mode == u.own_mode) && (t.broadcast_mode == u.broadcast_mode))))

-- the test of all parts but the tables
abbrev pub eq_setups : Parts → Parts → Bool
eq_setups v w =
    (v.address == w.address) && (beq v.broadcast w.broadcast && ((v.wrap == w.wrap) && (beq v.accept w.accept
    && ((v.vector == w.vector) && ((v.bit == w.bit) && pointwise (pointwise (λ x y. x == y)) v.initial w.initial)))))

abbrev pub eq_parts : Parts → Parts → Bool
eq_parts v w = eq_setups v w && eq_tables v.tables w.tables

abbrev tables_by : List ℕ → List ℕ → List ℕ → ℕ → ℕ → Tables
tables_by r t b o m = record { own_receive = r; own_transmit = t; broadcast_receive = b; own_mode = o; broadcast_mode = m }

abbrev parts_by : ℕ → Bool → ℕ → Bool → ℕ → ℕ → List (List ℕ) → Tables → Parts
parts_by a b w c v t i l = record { address = a; broadcast = b; wrap = w; accept = c; vector = v; bit = t; initial = i; tables = l }

same_tables : (t u : Tables) → Decides (eq_tables t u) (t ≡ u)
same_tables t u =
    let fields =
    Decides-and _ _ (same_words t.own_receive u.own_receive) (Decides-and _ _ (same_words t.own_transmit u.own_transmit) (Decides-and _ _ (same_words t.broadcast_receive u.broadcast_receive)
    (Decides-and _ _ (Decides-eqb t.own_mode u.own_mode) (Decides-eqb t.broadcast_mode u.broadcast_mode)))) in (
      λ e. let (r, (s, (b, (o, m)))) = fields.0 e in λ j. tables_by (r j) (s j) (b j) (o j) (m j),
      λ e. fields.1 (ap (λ n. n.own_receive) e, (ap (λ n. n.own_transmit) e, (ap (λ n. n.broadcast_receive) e, (ap (λ n. n.own_mode) e, ap (λ n. n.broadcast_mode) e)))),
    )

same_parts : (v w : Parts) → Decides (eq_parts v w) (v ≡ w)
same_parts v w =
    let fields =
    Decides-and _ _ (Decides-and _ _ (Decides-eqb v.address w.address) (Decides-and _ _ (same_truth v.broadcast w.broadcast)
    (Decides-and _ _ (Decides-eqb v.wrap w.wrap) (Decides-and _ _ (same_truth v.accept w.accept)
    (Decides-and _ _ (Decides-eqb v.vector w.vector) (Decides-and _ _ (Decides-eqb v.bit w.bit) (slice_eq-Decides same_words v.initial w.initial _ refl)))))))
    (same_tables v.tables w.tables) in (
      λ e. let ((a, (b, (x, (c, (u, (t, i)))))), l) = fields.0 e in λ j. parts_by (a j) (b j) (x j) (c j) (u j) (t j) (i j) (l j),
      λ e. fields.1 ((ap (λ n. n.address) e, (ap (λ n. n.broadcast) e, (ap (λ n. n.wrap) e, (ap (λ n. n.accept) e, (ap (λ n. n.vector) e, (ap (λ n. n.bit) e, ap (λ n. n.initial) e)))))), ap (λ n. n.tables) e),
    )

-- the two tests together tell whether the parts are equal
pub same_by : (v w x y : Parts) (s t : Bool) → v ≡ x → w ≡ y → s ≡ eq_setups v w → t ≡ eq_tables v.tables w.tables → Decides (s && t) (x ≡ y)
same_by v w x y s t ev ew es et =
    let both : (s && t) ≡ eq_parts v w = λ j. es j && et j in
    let same = same_parts v w in
    (λ h. sym ev ∙ (same.0 (sym both ∙ h) ∙ ew), λ e. both ∙ same.1 (ev ∙ (e ∙ sym ew)))
