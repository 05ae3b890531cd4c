-- Laws of recordings in which all came.
use Rattle.std.proofs.Common.{◌≡◌, ◌∙◌, ◌↔◌, false, List, [], ◌∷◌, ◌++◌, map, length, refl, sym, ap, subst}
use Rattle.terminal_rules.specs.declared.event.Event.{Event}
use Rattle.terminal_rules.specs.declared.event.Event.TheVariants.{Word, Noise, Gap, Write, Vector, Bit, Flag as FlagIs, Slot}
use Rattle.terminal_recordings.specs.Recordings.{Sighting, IsRecording}
use Rattle.terminal_recordings.specs.Masks.{MaskedSighting, unmasked, ExplainsSome}
use Rattle.terminal_recordings.specs.MaybeGaps.{Seen, ExplainsReading, certainly}
use Rattle.terminal_recordings.proofs.MaybeLaw.{whole_reading}
use Rattle.recorded_terminal.specs.declared.watch.Marked.{Marked}
use Rattle.recorded_terminal.specs.declared.watch.Unexplained.{Unexplained}
use Rattle.recorded_terminal.specs.Marks.{masked, masked_in, maybe, maybe_of, maybe_in, AllCame}
use Rattle.recorded_terminal.specs.Ways.{masked_with}
use Rattle.recorded_terminal.specs.Watched.{instead_of, IsUnexplainedBy}
use Rattle.recorded_terminal.proofs.WayLaws.{mark_is}

it_came : (m : Marked) → m.is_maybe ≡ false → maybe m ≡ Seen (masked m)
it_came m e = (λ j. maybe_of m.sighting.event (e j) (masked m)) ∙ by m.sighting.event
  where
    by : (e : Event) → maybe_of e false (masked m) ≡ Seen (masked m)
    by (Gap b) = refl
    by (Word b w) = refl
    by (Noise b) = refl
    by (Write p v) = refl
    by (Vector v) = refl
    by (Bit v) = refl
    by (FlagIs f v) = refl
    by Slot = refl

pub all_came : (ms : List Marked) → AllCame ms → maybe_in ms ≡ map Seen (masked_in ms)
all_came [] a = refl
all_came (m ∷ ms) a = λ j. it_came m a.0 j ∷ all_came ms a.1 j

pub came_front : (ms ns : List Marked) → AllCame (ms ++ ns) → AllCame ms
came_front [] ns a = tt
came_front (m ∷ ms) ns a = (a.0, came_front ms ns a.1)

pub came_back : (ms ns : List Marked) → AllCame (ms ++ ns) → AllCame ns
came_back [] ns a = a
came_back (m ∷ ms) ns a = came_back ms ns a.1

pub masked_append : (ms ns : List Marked) → masked_in (ms ++ ns) ≡ masked_in ms ++ masked_in ns
masked_append [] ns = refl
masked_append (m ∷ ms) ns = ap (λ l. masked m ∷ l) (masked_append ms ns)

pub masked_recording : (ms : List Marked) → IsRecording (unmasked (masked_in ms))
masked_recording [] = tt
masked_recording (m ∷ ms) = (mark_is m, masked_recording ms)

seen_more : (xs : List MaskedSighting) (x : MaskedSighting) → map Seen xs ++ Seen x ∷ [] ≡ map Seen (xs ++ x ∷ [])
seen_more [] x = refl
seen_more (y ∷ xs) x = ap (λ l. Seen y ∷ l) (seen_more xs x)

-- what came for certain is all of it
pub certainly_all : (xs : List MaskedSighting) → certainly (map Seen xs) ≡ unmasked xs
certainly_all [] = refl
certainly_all (x ∷ xs) = ap (λ l. x.sighting ∷ l) (certainly_all xs)

-- so some reading is explained exactly if it is
pub came_explained : (E : List Sighting → Type 0) (ms : List Marked) → AllCame ms → ExplainsReading E (maybe_in ms) ↔ ExplainsSome E (masked_in ms)
came_explained E ms a = (
  λ x. (whole_reading E (masked_in ms)).0 (subst (ExplainsReading E) (all_came ms a) x),
  λ x. subst (ExplainsReading E) (sym (all_came ms a)) ((whole_reading E (masked_in ms)).1 x),
)

-- the first that nothing explains
pub record CameUnexplained (E : List Sighting → Type 0) (ms : List Marked) (it : Unexplained) : Type 0 where
  pub before : List Marked
  pub later : List Marked
  pub all : ms ≡ before ++ it.marked ∷ later
  pub number : it.number ≡ length before
  pub explained : ExplainsSome E (masked_in before)
  pub unexplained : ExplainsSome E (masked_in (before ++ it.marked ∷ [])) → ⊥
  pub possible : ExplainsSome E (masked_in before ++ masked_with it.marked it.sent ∷ [])

pub came_unexplained : (E : List Sighting → Type 0) (ms : List Marked) (it : Unexplained) → AllCame ms → IsUnexplainedBy E ms it → CameUnexplained E ms it
came_unexplained E ms it a i =
    let came : AllCame (i.before ++ it.marked ∷ i.later) = subst AllCame i.all a in
    let front : AllCame i.before = came_front i.before (it.marked ∷ i.later) came in
    let here : AllCame (i.before ++ it.marked ∷ []) = join i.before (it.marked ∷ []) front ((came_back i.before (it.marked ∷ i.later) came).0, tt) in
    record {
      before = i.before;
      later = i.later;
      all = i.all;
      number = i.number;
      explained = (came_explained E i.before front).0 i.explained;
      unexplained = λ x. i.unexplained ((came_explained E (i.before ++ it.marked ∷ []) here).1 x);
      possible =
          (whole_reading E (masked_in i.before ++ masked_with it.marked it.sent ∷ [])).0
          (subst (ExplainsReading E) ((λ j. all_came i.before front j ++ instead_of it ∷ []) ∙ seen_more (masked_in i.before) (masked_with it.marked it.sent)) i.possible);
    }
  where
    join : (xs ys : List Marked) → AllCame xs → AllCame ys → AllCame (xs ++ ys)
    join [] ys a b = b
    join (x ∷ xs) ys a b = (a.0, join xs ys a.1 b)
