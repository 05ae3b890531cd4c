-- Laws of the four beginnings: of the sightings that nothing explains after each of them the latest is one that nothing explains.
use Rattle.std.proofs.Common.{◌≡◌, ◌∙◌, ◌≤◌, ◌⊎◌, inl, inr, Option, Some, None, IfSome, ◌↔◌, List, [], ◌∷◌, ◌++◌, length, refl, sym, ap, subst, arith}
use Rattle.bus_legal.specs.Description.{Description}
use Rattle.terminal_recordings.specs.Later.{ShutDown, shut_history}
use Rattle.terminal_recordings.specs.MaybeGaps.{MaybeSighting, ExplainsReading, IsExplainedSomehow}
use Rattle.terminal_recordings.proofs.MaybeLaw.{maybe_law}
use Rattle.recorded_terminal.specs.declared.watch.Marked.{Marked}
use Rattle.recorded_terminal.specs.declared.watch.Unexplained.{Unexplained}
use Rattle.recorded_terminal.specs.Marks.{maybe_in}
use Rattle.recorded_terminal.specs.Watched.{instead_of, IsUnexplainedAt, IsDecidedAt}
use Rattle.recorded_terminal.specs.Judged.{IsExplainedBegun, IsUnexplainedBegunAt, IsBest}
use Rattle.recorded_terminal.specs.declared.beginnings.BestBeginning.{BestBeginning}
use Rattle.recorded_terminal.specs.Follows.{shut_down}
use Rattle.recorded_terminal.specs.inner.Latest.{IsLatest, IsBetter}
use Rattle.recorded_terminal.proofs.WayLaws.{maybe_append}
use Rattle.recorded_terminal.proofs.WatchLaws.{found_unexplained}

-- of two fronts of one list the shorter is a front of the longer
front_of_front : (is bs cs ds : List Marked) (x y : Marked) → is ++ x ∷ cs ≡ bs ++ y ∷ ds → length is ≤ length bs → (rest : List Marked) × (bs ++ y ∷ [] ≡ (is ++ x ∷ []) ++ rest)
front_of_front [] [] cs ds x y e m = let same : x ≡ y = cc in ([], λ j. sym same j ∷ [])
front_of_front [] (b ∷ bs) cs ds x y e m = let same : x ≡ b = cc in (bs ++ y ∷ [], λ j. sym same j ∷ (bs ++ y ∷ []))
front_of_front (a ∷ is) [] cs ds x y e m = absurd (omega arith)
front_of_front (a ∷ is) (b ∷ bs) cs ds x y e m =
    let same : a ≡ b = cc in
    let tails : is ++ x ∷ cs ≡ bs ++ y ∷ ds = cc in
    let less : length is ≤ length bs = omega arith in
    let more = front_of_front is bs cs ds x y tails less in
    (more.0, λ j. sym same j ∷ more.1 j)

-- what one of the beginnings explains
pub begun_some : (P : Description) (ms : List MaybeSighting) → (shut : ShutDown) × IsExplainedSomehow P (shut_history P shut) ms → ExplainsReading (IsExplainedBegun P) ms
begun_some P ms (shut, (reading, reads, (recording, fits, x))) = (reading, reads, (recording, fits, (shut, x)))

pub some_begun : (P : Description) (ms : List MaybeSighting) → ExplainsReading (IsExplainedBegun P) ms → (shut : ShutDown) × IsExplainedSomehow P (shut_history P shut) ms
some_begun P ms (reading, reads, (recording, fits, (shut, x))) = (shut, (reading, reads, (recording, fits, x)))

-- after a beginning nothing explains a sighting that is no later
abbrev pub FailsBy : Description → List Marked → Unexplained → ShutDown → Type 0
FailsBy P ms it s = (jt : Unexplained) × IsUnexplainedAt P (shut_history P s) ms jt × (jt.number ≤ it.number)

-- what comes of some of the beginnings, where this one is told
abbrev pub BestAt : Description → List Marked → (ShutDown → Type 0) → ShutDown → Option Unexplained → Type 0
BestAt P ms Among s None = IsExplainedSomehow P (shut_history P s) (maybe_in ms)
BestAt P ms Among s (Some it) = IsUnexplainedAt P (shut_history P s) ms it × ((t : ShutDown) → Among t → FailsBy P ms it t)

abbrev pub Best : Description → List Marked → (ShutDown → Type 0) → BestBeginning → Type 0
Best P ms Among b = BestAt P ms Among (shut_down b.shut) b.first

-- of one
pub best_one : (P : Description) (ms : List Marked) (s : ShutDown) (r : Option Unexplained) → IsDecidedAt P (shut_history P s) ms r → BestAt P ms (λ x. x ≡ s) s r
best_one P ms s None d = d.explained.0 refl
best_one P ms s (Some it) d = (d.unexplained, λ x same. subst (FailsBy P ms it) (sym same) (it, d.unexplained, omega arith))

fails_later : (P : Description) (ms : List Marked) (it jt : Unexplained) (s : ShutDown) → it.number ≤ jt.number → FailsBy P ms it s → FailsBy P ms jt s
fails_later P ms it jt s m (kt, f, n) = (kt, f, omega arith)

-- of two at once
better : (P : Description) (ms : List Marked) (S T : ShutDown → Type 0) (r s t : ShutDown) (p q o : Option Unexplained) → ((t ≡ r) × (o ≡ p)) ⊎ ((t ≡ s) × (o ≡ q)) → IsLatest p q o → BestAt P ms S r p → BestAt P ms T s q →
    BestAt P ms (λ x. S x ⊎ T x) t o
better P ms S T r s t None q None (inl (e, f)) is a b = subst (λ k. IsExplainedSomehow P (shut_history P k) (maybe_in ms)) (sym e) a
better P ms S T r s t None None None (inr (e, f)) is a b = subst (λ k. IsExplainedSomehow P (shut_history P k) (maybe_in ms)) (sym e) b
better P ms S T r s t None (Some y) None (inr (e, f)) is a b = absurd (cc)
better P ms S T r s t (Some x) None None (inl (e, f)) is a b = absurd (cc)
better P ms S T r s t (Some x) None None (inr (e, f)) is a b = subst (λ k. IsExplainedSomehow P (shut_history P k) (maybe_in ms)) (sym e) b
better P ms S T r s t (Some x) (Some y) (Some it) one (m, n) a b = (
  pick one,
  λ u among. elim among [ inl in_s ↦ fails_later P ms x it u m (a.1 u in_s) | inr in_t ↦ fails_later P ms y it u n (b.1 u in_t) ],
)
  where
    pick : ((t ≡ r) × (Some it ≡ Some x)) ⊎ ((t ≡ s) × (Some it ≡ Some y)) → IsUnexplainedAt P (shut_history P t) ms it
    pick (inl (e, f)) = let same : it ≡ x = cc in rw (e, same) a.0
    pick (inr (e, f)) = let same : it ≡ y = cc in rw (e, same) b.0
better P ms S T r s t None q (Some it) one is a b = absurd is
better P ms S T r s t (Some x) None (Some it) one is a b = absurd is
better P ms S T r s t (Some x) (Some y) None one is a b = absurd is

pub best_two : (P : Description) (ms : List Marked) (S T : ShutDown → Type 0) (p q o : BestBeginning) → Best P ms S p → Best P ms T q → IsBetter p q o → Best P ms (λ x. S x ⊎ T x) o
best_two P ms S T p q o a b i = better P ms S T (shut_down p.shut) (shut_down q.shut) (shut_down o.shut) p.first q.first o.first (by i.is) i.latest a b
  where
    by : (o ≡ p) ⊎ (o ≡ q) → ((shut_down o.shut ≡ shut_down p.shut) × (o.first ≡ p.first)) ⊎ ((shut_down o.shut ≡ shut_down q.shut) × (o.first ≡ q.first))
    by (inl e) = inl (ap (λ (x : BestBeginning). shut_down x.shut) e, ap (λ (x : BestBeginning). x.first) e)
    by (inr e) = inr (ap (λ (x : BestBeginning). shut_down x.shut) e, ap (λ (x : BestBeginning). x.first) e)

-- all four: so is decided whether one of them explains all
best_explained : (P : Description) (ms : List Marked) (Among : ShutDown → Type 0) (s : ShutDown) (o : Option Unexplained) → ((s : ShutDown) → Among s) → BestAt P ms Among s o →
    (o ≡ None) ↔ ExplainsReading (IsExplainedBegun P) (maybe_in ms)
best_explained P ms Among s None all b = (λ e. begun_some P (maybe_in ms) (s, b), λ x. refl)
best_explained P ms Among s (Some it) all b = (
  λ e. absurd (cc),
  λ x.
      let y = some_begun P (maybe_in ms) x in
      let f : FailsBy P ms it y.0 = b.1 y.0 (all y.0) in
      absurd (found_unexplained P (shut_history P y.0) ms f.0 f.1 y.1),
)

best_begins : (P : Description) (ms : List Marked) (Among : ShutDown → Type 0) (s : ShutDown) (o : Option Unexplained) → BestAt P ms Among s o → o ≡ None →
    IsExplainedSomehow P (shut_history P s) (maybe_in ms)
best_begins P ms Among s None b e = b
best_begins P ms Among s (Some it) b e = absurd (cc)

best_first : (P : Description) (ms : List Marked) (Among : ShutDown → Type 0) (s : ShutDown) (o : Option Unexplained) → ((s : ShutDown) → Among s) → BestAt P ms Among s o → IfSome o (IsUnexplainedBegunAt P ms)
best_first P ms Among s None all b = tt
best_first P ms Among s (Some it) all (i, fails) = record {
  before = i.before;
  later = i.later;
  all = i.all;
  number = i.number;
  explained = begun_some P (maybe_in i.before) (s, i.explained);
  unexplained = λ x.
      let y = some_begun P (maybe_in (i.before ++ it.marked ∷ [])) x in
      let f : FailsBy P ms it y.0 = fails y.0 (all y.0) in
      let j : IsUnexplainedAt P (shut_history P y.0) ms f.0 = f.1 in
      let more = front_of_front j.before i.before j.later i.later f.0.marked it.marked (sym j.all ∙ i.all) (subst (λ n. n ≤ length i.before) j.number (subst (λ n. f.0.number ≤ n) i.number f.2)) in
      let here : List Marked = j.before ++ f.0.marked ∷ [] in
      let cut : maybe_in (i.before ++ it.marked ∷ []) ≡ maybe_in here ++ maybe_in more.0 = ap maybe_in more.1 ∙ maybe_append here more.0 in
      j.unexplained (maybe_law.fronts P (shut_history P y.0) (maybe_in here) (maybe_in more.0) (subst (IsExplainedSomehow P (shut_history P y.0)) cut y.1));
  possible = begun_some P (maybe_in i.before ++ instead_of it ∷ []) (s, i.possible);
}

pub best_is : (P : Description) (ms : List Marked) (Among : ShutDown → Type 0) (best : BestBeginning) → ((s : ShutDown) → Among s) → Best P ms Among best → IsBest P ms best
best_is P ms Among best all b = record {
  explained = best_explained P ms Among (shut_down best.shut) best.first all b;
  first = best_first P ms Among (shut_down best.shut) best.first all b;
  begins = best_begins P ms Among (shut_down best.shut) best.first b;
}
