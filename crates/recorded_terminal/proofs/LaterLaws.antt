-- Laws of a recording that began at any time: where a watch is in it, and what comes of the part that is judged.
use Rattle.std.proofs.Common.{◌≡◌, ◌∙◌, ℕ, zero, suc, nat_lt, nat_le, ◌&&◌, Bool, true, false, if◌then◌else◌, Option, Some, None, IfSome, List, [], ◌∷◌, ◌++◌, refl, sym, ap, subst, append_assoc, append-nil, length, length-append, ◌+◌, add-one, arith}
use Rattle.std.proofs.lemmas.Bool.Decides.{nat_tests}
use Rattle.bus_word.specs.declared.word.Bus.TheVariants.{A, B}
use Rattle.bus_word.specs.declared.cell.Cell.{Cell}
use Rattle.bus_legal.specs.Description.{Description, described}
use Rattle.terminal_rules.specs.declared.event.Event.{Event}
use Rattle.terminal_rules.specs.declared.event.Event.TheVariants.{Word, Noise, Gap, Write, Vector, Bit, Flag as FlagIs, Slot}
use Rattle.terminal_rules.specs.Status.{spares}
use Rattle.terminal_rules.specs.Out.{Sending}
use Rattle.terminal_recordings.specs.Recordings.{Sighting}
use Rattle.terminal_recordings.specs.Later.{IsExplainedLater, Gaps, no_gaps, are_two, gaps_with, command_for, first_command, asks_back, BeginsAfresh, shutting}
use Rattle.terminal_recordings.specs.Masks.{MaskedSighting}
use Rattle.terminal_recordings.specs.MaybeGaps.{MaybeSighting, Seen, MaybeGap, ExplainsReading, certainly, fresh_part}
use Rattle.terminal_recordings.proofs.Leaving.{shutting_leaves, shutting_proper}
use Rattle.terminal_recordings.proofs.MaybeLaw.{maybe_law}
use Rattle.recorded_terminal.specs.declared.beginnings.BestBeginning.{BestBeginning}
use Rattle.recorded_terminal.specs.declared.watch.Marked.{Marked}
use Rattle.recorded_terminal.specs.declared.watch.Unexplained.{Unexplained}
use Rattle.recorded_terminal.specs.declared.later.Gaps.{Gaps as Counted}
use Rattle.recorded_terminal.specs.declared.later.WatchPhase.{WatchPhase}
use Rattle.recorded_terminal.specs.declared.later.WatchPhase.TheVariants.{Sought, Begun, Afresh}
use Rattle.recorded_terminal.specs.declared.later.LaterWatch.{LaterWatch}
use Rattle.recorded_terminal.specs.Marks.{maybe, maybe_in, seen_in}
use Rattle.recorded_terminal.specs.Watched.{IsUnexplainedBy}
use Rattle.recorded_terminal.specs.Judged.{shown_gaps, CanBegin, IsExplainedBegun, IsUnexplainedBegunAt, WatchBegun, unless_asks, IsPartOf, IsBegun, IsBest, WatchesPart, WatchesLater, IsJudged}
use Rattle.recorded_terminal.specs.inner.Gaps.{at_most_two, AreGaps, IsPartOn}
use Rattle.recorded_terminal.proofs.WayLaws.{maybe_append, certainly_append, are_recording}
use Rattle.recorded_terminal.proofs.BeginningLaws.{begun_some}

-- ---- gaps that are counted alike

-- two counts of gaps between which no pause tells
pub record Alike (g k : Gaps) : Type 0 where
  pub a : at_most_two g.a ≡ at_most_two k.a
  pub b : at_most_two g.b ≡ at_most_two k.b

big : (n : ℕ) → at_most_two (suc (suc n)) ≡ 2
big n = ap (λ t. if t then suc (suc n) else 2) (is_big n)
  where
    is_big : (n : ℕ) → nat_lt (suc (suc n)) 2 ≡ false
    is_big n = grind (arith, nat_tests)

two_alike : (m n : ℕ) → at_most_two m ≡ at_most_two n → nat_le 2 m ≡ nat_le 2 n
two_alike zero zero e = refl
two_alike zero (suc zero) e = refl
two_alike zero (suc (suc n)) e = let wrong : zero ≡ suc (suc zero) = e ∙ big n in absurd (cc)
two_alike (suc zero) zero e = refl
two_alike (suc zero) (suc zero) e = refl
two_alike (suc zero) (suc (suc n)) e = let wrong : suc zero ≡ suc (suc zero) = e ∙ big n in absurd (cc)
two_alike (suc (suc m)) zero e = let wrong : suc (suc zero) ≡ zero = sym (big m) ∙ e in absurd (cc)
two_alike (suc (suc m)) (suc zero) e = let wrong : suc (suc zero) ≡ suc zero = sym (big m) ∙ e in absurd (cc)
two_alike (suc (suc m)) (suc (suc n)) e = is_two m ∙ sym (is_two n)
  where
    is_two : (n : ℕ) → nat_le 2 (suc (suc n)) ≡ true
    is_two n = grind (arith, nat_tests)

more_alike : (m n : ℕ) → at_most_two m ≡ at_most_two n → at_most_two (suc m) ≡ at_most_two (suc n)
more_alike zero zero e = refl
more_alike zero (suc zero) e = let wrong : zero ≡ suc zero = e in absurd (cc)
more_alike zero (suc (suc n)) e = let wrong : zero ≡ suc (suc zero) = e ∙ big n in absurd (cc)
more_alike (suc m) zero e = by m e
  where
    by : (m : ℕ) → at_most_two (suc m) ≡ at_most_two zero → at_most_two (suc (suc m)) ≡ at_most_two (suc zero)
    by zero e = let wrong : suc zero ≡ zero = e in absurd (cc)
    by (suc m) e = let wrong : suc (suc zero) ≡ zero = sym (big m) ∙ e in absurd (cc)
more_alike (suc m) (suc n) e = big m ∙ sym (big n)

abbrev AreAlike : Option Gaps → Option Gaps → Type 0
AreAlike None None = Unit {0}
AreAlike (Some g) (Some k) = Alike g k
AreAlike _ _ = ⊥

gaps_alike : (g k : Gaps) (e : Event) (sent : Option Sending) → Alike g k → AreAlike (gaps_with g e sent) (gaps_with k e sent)
gaps_alike g k (Gap A) sent x = record { a = more_alike g.a k.a x.a; b = x.b }
gaps_alike g k (Gap B) sent x = record { a = x.a; b = more_alike g.b k.b x.b }
gaps_alike g k Slot None x = by (are_two g) (are_two k) (λ j. two_alike g.a k.a x.a j && two_alike g.b k.b x.b j)
  where
    by : (s t : Bool) → s ≡ t → AreAlike (if s then None else Some g) (if t then None else Some k)
    by true true e = tt
    by false false e = x
    by true false e = absurd (cc)
    by false true e = absurd (cc)
gaps_alike g k Slot (Some w) x = record { a = refl; b = refl }
gaps_alike g k (Word b w) sent x = record { a = refl; b = refl }
gaps_alike g k (Noise b) sent x = record { a = refl; b = refl }
gaps_alike g k (Write p v) sent x = record { a = refl; b = refl }
gaps_alike g k (Vector v) sent x = record { a = refl; b = refl }
gaps_alike g k (Bit v) sent x = record { a = refl; b = refl }
gaps_alike g k (FlagIs f v) sent x = record { a = refl; b = refl }

abbrev next_part : Description → List MaybeSighting → Option Gaps → Option (List MaybeSighting)
next_part P later o = elim o as (λ o. Option (List MaybeSighting)) [ None ↦ unless_asks P later (asks_back P (first_command P (certainly later))) | Some n ↦ fresh_part P n later ]

pub part_alike : (P : Description) (xs : List MaybeSighting) (g k : Gaps) → Alike g k → fresh_part P g xs ≡ fresh_part P k xs
part_alike P [] g k x = refl
part_alike P (MaybeGap b ∷ later) g k x = part_alike P later g k x
part_alike P (Seen s ∷ later) g k x =
    by (gaps_with g s.sighting.event s.sighting.sent) (gaps_with k s.sighting.event s.sighting.sent) (gaps_alike g k s.sighting.event s.sighting.sent x) (part_alike P later)
  where
    by : (o p : Option Gaps) → AreAlike o p → ((m n : Gaps) → Alike m n → fresh_part P m later ≡ fresh_part P n later) → next_part P later o ≡ next_part P later p
    by None None y next = refl
    by (Some m) (Some n) y next = next m n y
    by None (Some n) y next = absurd y
    by (Some m) None y next = absurd y

-- ---- the first command

abbrev first_of : Option ℕ → Option ℕ → Option ℕ
first_of o rest = elim o as (λ o. Option ℕ) [ None ↦ rest | Some c ↦ Some c ]

none_both : (o rest : Option ℕ) → first_of o rest ≡ None → (o ≡ None) × (rest ≡ None)
none_both None rest e = (refl, e)
none_both (Some c) rest e = absurd (cc)

first_over : (P : Description) (xs ys : List Sighting) → first_command P xs ≡ None → first_command P (xs ++ ys) ≡ first_command P ys
first_over P [] ys e = refl
first_over P (s ∷ xs) ys e =
    let both = none_both (command_for P s.event) (first_command P xs) e in
    ap (λ o. first_of o (first_command P (xs ++ ys))) both.0 ∙ first_over P xs ys both.1

first_stays : (P : Description) (xs ys : List Sighting) (c : ℕ) → first_command P xs ≡ Some c → first_command P (xs ++ ys) ≡ Some c
first_stays P [] ys c e = absurd (cc)
first_stays P (s ∷ xs) ys c e = by (command_for P s.event) e (first_stays P xs ys c)
  where
    by : (o : Option ℕ) → first_of o (first_command P xs) ≡ Some c → (first_command P xs ≡ Some c → first_command P (xs ++ ys) ≡ Some c) → first_of o (first_command P (xs ++ ys)) ≡ Some c
    by None e next = next e
    by (Some d) e next = e

afresh_front : (P : Description) (xs ys : List Sighting) → BeginsAfresh P (xs ++ ys) → BeginsAfresh P xs
afresh_front P [] ys a = refl
afresh_front P (s ∷ xs) ys a = by (command_for P s.event) a (afresh_front P xs ys)
  where
    by : (o : Option ℕ) → asks_back P (first_of o (first_command P (xs ++ ys))) ≡ false → (BeginsAfresh P (xs ++ ys) → BeginsAfresh P xs) → asks_back P (first_of o (first_command P xs)) ≡ false
    by None e next = next e
    by (Some c) e next = e

none_over : (P : Description) (xs ys : List MaybeSighting) → first_command P (certainly xs) ≡ None → first_command P (certainly (xs ++ ys)) ≡ first_command P (certainly ys)
none_over P xs ys e = ap (first_command P) (certainly_append xs ys) ∙ first_over P (certainly xs) (certainly ys) e

-- ---- one sighting more

one_seen : (xs : List MaybeSighting) (x : MaybeSighting) (more : List MaybeSighting) → (xs ++ x ∷ []) ++ more ≡ xs ++ x ∷ more
one_seen xs x more = append_assoc xs (x ∷ []) more

sought_more : (P : Description) (xs : List MaybeSighting) (x : MaybeSighting) (k n : Counted) → IsPartOf P xs [] (Sought k) → IsPartOn P (Sought k) x (Sought n) → IsPartOf P (xs ++ x ∷ []) [] (Sought n)
sought_more P xs (Seen s) k n part is more =
    ap (fresh_part P no_gaps) (one_seen xs (Seen s) more) ∙ part (Seen s ∷ more) ∙ by (gaps_with (shown_gaps k) s.sighting.event s.sighting.sent) is
  where
    by : (o : Option Gaps) → AreGaps o (Some n) → next_part P more o ≡ fresh_part P (shown_gaps n) more
    by None x = absurd x
    by (Some g) x = part_alike P more g (shown_gaps n) (record { a = sym x.a; b = sym x.b })
sought_more P xs (MaybeGap b) k n part is more =
    let same : n ≡ k = cc in
    ap (fresh_part P no_gaps) (one_seen xs (MaybeGap b) more) ∙ part (MaybeGap b ∷ more) ∙ (λ j. fresh_part P (shown_gaps (sym same j)) more)

begun_by : (P : Description) (xs : List MaybeSighting) (x : MaybeSighting) (k : Counted) → IsPartOf P xs [] (Sought k) → IsPartOn P (Sought k) x Begun → IsPartOf P (xs ++ x ∷ []) [] Begun
begun_by P xs (Seen s) k part is = (refl, λ more. ap (fresh_part P no_gaps) (one_seen xs (Seen s) more) ∙ part (Seen s ∷ more) ∙ by more (gaps_with (shown_gaps k) s.sighting.event s.sighting.sent) is)
  where
    by : (more : List MaybeSighting) (o : Option Gaps) → AreGaps o None → next_part P more o ≡ unless_asks P more (asks_back P (first_command P (certainly more)))
    by more None x = refl
    by more (Some g) x = absurd x
begun_by P xs (MaybeGap b) k part is = absurd (cc)

-- what asks back is passed over
passed : (P : Description) (ys : List MaybeSighting) (s : MaskedSighting) (c : ℕ) (more : List MaybeSighting) (g : Gaps) → first_command P (certainly ys) ≡ None → command_for P s.sighting.event ≡ Some c → spares P c ≡ true →
    fresh_part P g (ys ++ Seen s ∷ more) ≡ fresh_part P no_gaps more
passed P [] s c more g none is asks = ap (next_part P more) (by s.sighting.event is)
  where
    by : (e : Event) → command_for P e ≡ Some c → gaps_with g e s.sighting.sent ≡ Some no_gaps
    by (Word b w) is = refl
    by (Noise b) is = absurd (cc)
    by (Gap b) is = absurd (cc)
    by (Write p v) is = absurd (cc)
    by (Vector v) is = absurd (cc)
    by (Bit v) is = absurd (cc)
    by (FlagIs f v) is = absurd (cc)
    by Slot is = absurd (cc)
passed P (MaybeGap b ∷ ys) s c more g none is asks = passed P ys s c more g none is asks
passed P (Seen y ∷ ys) s c more g none is asks = by (gaps_with g y.sighting.event y.sighting.sent) (λ n both. passed P ys s c more n both is asks)
  where
    both : (command_for P y.sighting.event ≡ None) × (first_command P (certainly ys) ≡ None)
    both = none_both (command_for P y.sighting.event) (first_command P (certainly ys)) none

    first : asks_back P (first_command P (certainly (ys ++ Seen s ∷ more))) ≡ true
    first = ap (asks_back P) (none_over P ys (Seen s ∷ more) both.1 ∙ ap (λ o. first_of o (first_command P (certainly more))) is) ∙ asks

    by : (o : Option Gaps) → ((n : Gaps) → first_command P (certainly ys) ≡ None → fresh_part P n (ys ++ Seen s ∷ more) ≡ fresh_part P no_gaps more) → next_part P (ys ++ Seen s ∷ more) o ≡ fresh_part P no_gaps more
    by None rest = ap (unless_asks P (ys ++ Seen s ∷ more)) first ∙ rest no_gaps both.1
    by (Some n) rest = rest n both.1

sought_again : (P : Description) (xs ys : List MaybeSighting) (x : MaybeSighting) (n : Counted) → IsPartOf P xs ys Begun → IsPartOn P Begun x (Sought n) → IsPartOf P (xs ++ x ∷ []) [] (Sought n)
sought_again P xs ys (Seen s) n (none, part) (counted, (c, is, asks)) more =
    ap (fresh_part P no_gaps) (one_seen xs (Seen s) more) ∙ part (Seen s ∷ more)
    ∙ ap (unless_asks P (ys ++ Seen s ∷ more)) (ap (λ o. asks_back P (first_of o (first_command P (certainly more)))) is ∙ asks)
    ∙ passed P ys s c more no_gaps none is asks
    ∙ part_alike P more no_gaps (shown_gaps n) (record { a = sym counted.a; b = sym counted.b })
sought_again P xs ys (MaybeGap b) n part is more = absurd (cc)

begun_on : (P : Description) (xs ys : List MaybeSighting) (x : MaybeSighting) → IsPartOf P xs ys Begun → IsPartOn P Begun x Begun → IsPartOf P (xs ++ x ∷ []) (ys ++ x ∷ []) Begun
begun_on P xs ys (Seen s) (none, part) is = (
  none_over P ys (Seen s ∷ []) none ∙ ap (λ o. first_of o None) is,
  λ more.
      ap (fresh_part P no_gaps) (one_seen xs (Seen s) more) ∙ part (Seen s ∷ more)
      ∙ ap (λ o. unless_asks P (ys ++ Seen s ∷ more) (asks_back P (first_of o (first_command P (certainly more))))) is
      ∙ ap (λ l. unless_asks P l (asks_back P (first_command P (certainly more)))) (sym (one_seen ys (Seen s) more)),
)
begun_on P xs ys (MaybeGap b) (none, part) is = (
  none_over P ys (MaybeGap b ∷ []) none,
  λ more.
      ap (fresh_part P no_gaps) (one_seen xs (MaybeGap b) more) ∙ part (MaybeGap b ∷ more)
      ∙ ap (λ l. unless_asks P l (asks_back P (first_command P (certainly more)))) (sym (one_seen ys (MaybeGap b) more)),
)

afresh_by : (P : Description) (xs ys : List MaybeSighting) (x : MaybeSighting) → IsPartOf P xs ys Begun → IsPartOn P Begun x Afresh → IsPartOf P (xs ++ x ∷ []) (ys ++ x ∷ []) Afresh
afresh_by P xs ys (Seen s) (none, part) (c, is, asks) = (
  (c, none_over P ys (Seen s ∷ []) none ∙ ap (λ o. first_of o None) is, asks),
  λ more.
      ap (fresh_part P no_gaps) (one_seen xs (Seen s) more) ∙ part (Seen s ∷ more)
      ∙ ap (unless_asks P (ys ++ Seen s ∷ more)) (ap (λ o. asks_back P (first_of o (first_command P (certainly more)))) is ∙ asks)
      ∙ ap Some (sym (one_seen ys (Seen s) more)),
)
afresh_by P xs ys (MaybeGap b) part is = absurd (cc)

afresh_on : (P : Description) (xs ys : List MaybeSighting) (x : MaybeSighting) → IsPartOf P xs ys Afresh → IsPartOf P (xs ++ x ∷ []) (ys ++ x ∷ []) Afresh
afresh_on P xs ys x ((c, is, asks), part) = (
  (c, ap (first_command P) (certainly_append ys (x ∷ [])) ∙ first_stays P (certainly ys) (certainly (x ∷ [])) c is, asks),
  λ more. ap (fresh_part P no_gaps) (one_seen xs x more) ∙ part (x ∷ more) ∙ ap Some (sym (one_seen ys x more)),
)

-- once a part begins afresh, it does
still_afresh : (P : Description) (x : MaybeSighting) (q : WatchPhase) → IsPartOn P Afresh x q → q ≡ Afresh
still_afresh P (Seen s) (Sought n) is = absurd is
still_afresh P (Seen s) Begun is = absurd is
still_afresh P (Seen s) Afresh is = refl
still_afresh P (MaybeGap b) q is = is

-- ---- a watch with one sighting more

one_more_seen : (P : Description) (ms part : List Marked) (m : Marked) (p : WatchPhase) → IsPartOf P (maybe_in ms ++ maybe m ∷ []) (maybe_in part ++ maybe m ∷ []) p → IsPartOf P (maybe_in (ms ++ m ∷ [])) (maybe_in (part ++ m ∷ [])) p
one_more_seen P ms part m p x =
    subst (λ l. IsPartOf P l (maybe_in (part ++ m ∷ [])) p) (sym (maybe_append ms (m ∷ [])))
    (subst (λ l. IsPartOf P (maybe_in ms ++ maybe m ∷ []) l p) (sym (maybe_append part (m ∷ []))) x)

watches_sought : {L : Type 0} (is_legal : L → Cell → Bool) (P : Description) (ms : List Marked) (m : Marked) (w : LaterWatch L) (p : WatchPhase) (n : Counted) → WatchesPart is_legal P ms w p →
    IsPartOn P p (maybe m) (Sought n) → IsPartOf P (maybe_in (ms ++ m ∷ [])) [] (Sought n)
watches_sought is_legal P ms m w (Sought k) n part is =
    subst (λ l. IsPartOf P l [] (Sought n)) (sym (maybe_append ms (m ∷ []))) (sought_more P (maybe_in ms) (maybe m) k n part is)
watches_sought is_legal P ms m w Begun n i is =
    subst (λ l. IsPartOf P l [] (Sought n)) (sym (maybe_append ms (m ∷ []))) (sought_again P (maybe_in ms) (maybe_in i.part) (maybe m) n i.is_part is)
watches_sought is_legal P ms m w Afresh n i is = let wrong : Sought n ≡ Afresh = still_afresh P (maybe m) (Sought n) is in absurd (cc)

no_begin : (P : Description) (x : MaybeSighting) (k : Counted) → IsPartOn P (Sought k) x Afresh → ⊥
no_begin P (Seen s) k is = is
no_begin P (MaybeGap b) k is = cc

watches_begun : {L : Type 0} (is_legal : L → Cell → Bool) (P : Description) (ms : List Marked) (m : Marked) (w v : LaterWatch L) (k : Counted) (q : WatchPhase) → WatchesPart is_legal P ms w (Sought k) →
    IsPartOn P (Sought k) (maybe m) q → ((n : Counted) → q ≡ Sought n → ⊥) → v.after ≡ m.line → v.before ≡ suc (length ms) → WatchBegun is_legal P [] v.beginnings → WatchesPart is_legal P (ms ++ m ∷ []) v q
watches_begun is_legal P ms m w v k (Sought n) part is not_sought line before watches = absurd (not_sought n refl)
watches_begun is_legal P ms m w v k Begun part is not_sought line before watches = record {
  front = ms;
  pause = m;
  part = [];
  all = refl;
  line = line;
  before = before;
  watches = watches;
  is_part = subst (λ l. IsPartOf P l [] Begun) (sym (maybe_append ms (m ∷ []))) (begun_by P (maybe_in ms) (maybe m) k part is);
}
watches_begun is_legal P ms m w v k Afresh part is not_sought line before watches = absurd (no_begin P (maybe m) k is)

part_more : {L : Type 0} (is_legal : L → Cell → Bool) (P : Description) (ms : List Marked) (m : Marked) (w v : LaterWatch L) (p q : WatchPhase) (i : IsBegun is_legal P ms w p) → v.after ≡ w.after → v.before ≡ w.before →
    WatchBegun is_legal P (i.part ++ m ∷ []) v.beginnings → IsPartOf P (maybe_in ms ++ maybe m ∷ []) (maybe_in i.part ++ maybe m ∷ []) q → IsBegun is_legal P (ms ++ m ∷ []) v q
part_more is_legal P ms m w v p q i same stays watches x = record {
  front = i.front;
  pause = i.pause;
  part = i.part ++ m ∷ [];
  all = ap (λ l. l ++ m ∷ []) i.all ∙ append_assoc i.front (i.pause ∷ i.part) (m ∷ []);
  line = same ∙ i.line;
  before = stays ∙ i.before;
  watches = watches;
  is_part = one_more_seen P ms i.part m q x;
}

watches_more : {L : Type 0} (is_legal : L → Cell → Bool) (P : Description) (ms : List Marked) (m : Marked) (w v : LaterWatch L) (p q : WatchPhase) → WatchesPart is_legal P ms w p →
    IsPartOn P p (maybe m) q → ((n : Counted) → p ≡ Sought n → ⊥) → ((n : Counted) → q ≡ Sought n → ⊥) → v.after ≡ w.after → v.before ≡ w.before →
    ((ns : List Marked) → WatchBegun is_legal P ns w.beginnings → WatchBegun is_legal P (ns ++ m ∷ []) v.beginnings) → WatchesPart is_legal P (ms ++ m ∷ []) v q
watches_more is_legal P ms m w v (Sought k) q i is not_sought still same stays sees = absurd (not_sought k refl)
watches_more is_legal P ms m w v Begun (Sought n) i is not_sought still same stays sees = absurd (still n refl)
watches_more is_legal P ms m w v Begun Begun i is not_sought still same stays sees =
    part_more is_legal P ms m w v Begun Begun i same stays (sees i.part i.watches) (begun_on P (maybe_in ms) (maybe_in i.part) (maybe m) i.is_part is)
watches_more is_legal P ms m w v Begun Afresh i is not_sought still same stays sees =
    part_more is_legal P ms m w v Begun Afresh i same stays (sees i.part i.watches) (afresh_by P (maybe_in ms) (maybe_in i.part) (maybe m) i.is_part is)
watches_more is_legal P ms m w v Afresh (Sought n) i is not_sought still same stays sees = absurd (still n refl)
watches_more is_legal P ms m w v Afresh Begun i is not_sought still same stays sees = let wrong : Begun ≡ Afresh = still_afresh P (maybe m) Begun is in absurd (cc)
watches_more is_legal P ms m w v Afresh Afresh i is not_sought still same stays sees =
    part_more is_legal P ms m w v Afresh Afresh i same stays (sees i.part i.watches) (afresh_on P (maybe_in ms) (maybe_in i.part) (maybe m) i.is_part)

abbrev own : {L : Type 0} → (L → Cell → Bool) → LaterWatch L → Description
own is_legal w = described w.setup (is_legal w.legality)

part_with : {L : Type 0} (is_legal : L → Cell → Bool) (P : Description) (w : LaterWatch L) (p q r : WatchPhase) (x : MaybeSighting) → own is_legal w ≡ P → p ≡ r → IsPartOn (own is_legal w) p x q → IsPartOn P r x q
part_with is_legal P w p q r x same is y = subst (λ D. IsPartOn D r x q) same (subst (λ p. IsPartOn (own is_legal w) p x q) is y)

counted_more : {L : Type 0} (is_legal : L → Cell → Bool) (P : Description) (ms : List Marked) (m : Marked) (w v : LaterWatch L) → WatchesLater is_legal P ms w → v.seen ≡ w.seen + 1 → v.seen ≡ length (ms ++ m ∷ [])
counted_more is_legal P ms m w v watches seen = omega (arith, seen, watches.counted, length-append ms (m ∷ []))

pub sees_sought : {L : Type 0} (is_legal : L → Cell → Bool) (P : Description) (ms : List Marked) (m : Marked) (w v : LaterWatch L) (n : Counted) → WatchesLater is_legal P ms w →
    own is_legal v ≡ own is_legal w → v.seen ≡ w.seen + 1 → IsPartOn (own is_legal w) w.part (maybe m) v.part → v.part ≡ Sought n → WatchesLater is_legal P (ms ++ m ∷ []) v
sees_sought is_legal P ms m w v n watches same seen with is = record {
  description = same ∙ watches.description;
  can = watches.can;
  counted = counted_more is_legal P ms m w v watches seen;
  watches =
      subst (WatchesPart is_legal P (ms ++ m ∷ []) v) (sym is)
      (watches_sought is_legal P ms m w w.part n watches.watches
      (part_with is_legal P w w.part (Sought n) w.part (maybe m) watches.description refl (subst (IsPartOn (own is_legal w) w.part (maybe m)) is with)));
}

pub sees_begun : {L : Type 0} (is_legal : L → Cell → Bool) (P : Description) (ms : List Marked) (m : Marked) (w v : LaterWatch L) (k : Counted) → WatchesLater is_legal P ms w →
    own is_legal v ≡ own is_legal w → v.seen ≡ w.seen + 1 → IsPartOn (own is_legal w) w.part (maybe m) v.part → w.part ≡ Sought k → ((n : Counted) → v.part ≡ Sought n → ⊥) → v.after ≡ m.line → v.before ≡ v.seen →
    WatchBegun is_legal (own is_legal w) [] v.beginnings → WatchesLater is_legal P (ms ++ m ∷ []) v
sees_begun is_legal P ms m w v k watches same seen with is not_sought line before fresh = record {
  description = same ∙ watches.description;
  can = watches.can;
  counted = counted_more is_legal P ms m w v watches seen;
  watches =
      watches_begun is_legal P ms m w v k v.part (subst (WatchesPart is_legal P ms w) is watches.watches)
      (part_with is_legal P w w.part v.part (Sought k) (maybe m) watches.description is with) not_sought line
      (before ∙ seen ∙ add-one w.seen ∙ ap suc watches.counted)
      (subst (λ D. WatchBegun is_legal D [] v.beginnings) watches.description fresh);
}

pub sees_more : {L : Type 0} (is_legal : L → Cell → Bool) (P : Description) (ms : List Marked) (m : Marked) (w v : LaterWatch L) → WatchesLater is_legal P ms w →
    own is_legal v ≡ own is_legal w → v.seen ≡ w.seen + 1 → IsPartOn (own is_legal w) w.part (maybe m) v.part → ((n : Counted) → w.part ≡ Sought n → ⊥) → ((n : Counted) → v.part ≡ Sought n → ⊥) →
    v.after ≡ w.after → v.before ≡ w.before → ((ns : List Marked) → WatchBegun is_legal P ns w.beginnings → WatchBegun is_legal P (ns ++ m ∷ []) v.beginnings) → WatchesLater is_legal P (ms ++ m ∷ []) v
sees_more is_legal P ms m w v watches same seen with not_sought still line before sees = record {
  description = same ∙ watches.description;
  can = watches.can;
  counted = counted_more is_legal P ms m w v watches seen;
  watches =
      watches_more is_legal P ms m w v w.part v.part watches.watches
      (part_with is_legal P w w.part v.part w.part (maybe m) watches.description refl with) not_sought still line before sees;
}

-- ---- the part that is judged

later_of_begun : (P : Description) → CanBegin P → (ms : List MaybeSighting) → ExplainsReading (IsExplainedBegun P) ms → ExplainsReading (IsExplainedLater P) ms
later_of_begun P can ms (reading, reads, (recording, fits, (shut, x))) =
    (reading, reads, (recording, fits, (shutting P shut, shutting_proper P shut can.address, (shutting_leaves P shut can.address can.shutdown).quiet, x)))

begun_of_later : (P : Description) → CanBegin P → (ms : List Marked) → BeginsAfresh P (seen_in ms) → ExplainsReading (IsExplainedLater P) (maybe_in ms) → ExplainsReading (IsExplainedBegun P) (maybe_in ms)
begun_of_later P can ms afresh x = begun_some P (maybe_in ms) ((maybe_law.later P (maybe_in ms) can.address can.shutdown (are_recording ms) afresh).0 x)

unexplained_later : (P : Description) → CanBegin P → (part : List Marked) → BeginsAfresh P (seen_in part) → (it : Unexplained) → IsUnexplainedBegunAt P part it → IsUnexplainedBy (IsExplainedLater P) part it
unexplained_later P can part afresh it i =
    let front : List Marked = i.before ++ it.marked ∷ [] in
    let cut : seen_in part ≡ seen_in front ++ seen_in i.later =
    ap seen_in (i.all ∙ sym (append_assoc i.before (it.marked ∷ []) i.later)) ∙ (ap certainly (maybe_append front i.later) ∙ certainly_append (maybe_in front) (maybe_in i.later)) in
    record {
      before = i.before;
      later = i.later;
      all = i.all;
      number = i.number;
      explained = later_of_begun P can (maybe_in i.before) i.explained;
      unexplained = λ x. i.unexplained (begun_of_later P can front (afresh_front P (seen_in front) (seen_in i.later) (subst (BeginsAfresh P) cut afresh)) x);
      possible = later_of_begun P can _ i.possible;
    }

-- the part, and that it begins afresh
part_now : (P : Description) (xs ys : List MaybeSighting) (p : WatchPhase) → ((n : Counted) → p ≡ Sought n → ⊥) → IsPartOf P xs ys p → (fresh_part P no_gaps xs ≡ Some ys) × BeginsAfresh P (certainly ys)
part_now P xs ys (Sought k) not_sought x = absurd (not_sought k refl)
part_now P xs ys Begun not_sought (none, part) = (
  ap (fresh_part P no_gaps) (sym (append-nil xs)) ∙ part [] ∙ ap Some (append-nil ys),
  ap (asks_back P) none,
)
part_now P xs ys Afresh not_sought ((c, is, asks), part) = (
  ap (fresh_part P no_gaps) (sym (append-nil xs)) ∙ part [] ∙ ap Some (append-nil ys),
  ap (asks_back P) is ∙ asks,
)

pub none_judged : (P : Description) (xs : List MaybeSighting) (k : Counted) → IsPartOf P xs [] (Sought k) → fresh_part P no_gaps xs ≡ None
none_judged P xs k part = ap (fresh_part P no_gaps) (sym (append-nil xs)) ∙ part []

pub begun_of : {L : Type 0} (is_legal : L → Cell → Bool) (P : Description) (ms : List Marked) (w : LaterWatch L) (p : WatchPhase) → ((n : Counted) → p ≡ Sought n → ⊥) → WatchesPart is_legal P ms w p →
    IsBegun is_legal P ms w p
begun_of is_legal P ms w (Sought k) not_sought x = absurd (not_sought k refl)
begun_of is_legal P ms w Begun not_sought x = x
begun_of is_legal P ms w Afresh not_sought x = x

pub judged : {L : Type 0} (is_legal : L → Cell → Bool) (P : Description) → CanBegin P → (ms : List Marked) (w : LaterWatch L) (p : WatchPhase) (best : BestBeginning) → ((n : Counted) → p ≡ Sought n → ⊥) →
    (i : IsBegun is_legal P ms w p) → IsBest P i.part best → IsJudged P ms (record { after = w.after; before = w.before; shut = best.shut; first = best.first })
judged is_legal P can ms w p best not_sought i b =
    let now = part_now P (maybe_in ms) (maybe_in i.part) p not_sought i.is_part in
    record {
      front = i.front;
      pause = i.pause;
      part = i.part;
      all = i.all;
      line = i.line;
      before = i.before;
      is_part = now.0;
      explained = (
        λ none. later_of_begun P can (maybe_in i.part) (b.explained.0 none),
        λ x. b.explained.1 (begun_of_later P can i.part now.1 x),
      );
      begins = b.begins;
      first = by best.first b.first now.1;
    }
  where
    by : (r : Option Unexplained) → IfSome r (IsUnexplainedBegunAt P i.part) → BeginsAfresh P (seen_in i.part) → IfSome r (IsUnexplainedBy (IsExplainedLater P) i.part)
    by None x afresh = tt
    by (Some it) x afresh = unexplained_later P can i.part afresh it x
