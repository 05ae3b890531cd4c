-- Laws of stretches of a part in which too many ways are left.
use Rattle.std.proofs.Common.{◌≡◌, ◌∙◌, ℕ, zero, suc, ◌+◌, arith, Option, Some, None, Result, Ok, Err, IfOk, IfErr, OnOk, List, [], ◌∷◌, ◌++◌, length, filter, not, refl, sym, ap, subst, append_assoc, append-nil, length-append}
use Rattle.std.proofs.lemmas.List.Elements.{filter-append}
use Rattle.bus_legal.specs.Description.{Description}
use Rattle.terminal_recordings.specs.MaybeGaps.{MaybeSighting}
use Rattle.recorded_terminal.specs.declared.watch.Marked.{Marked}
use Rattle.recorded_terminal.specs.declared.watch.WatchFault.{WatchFault}
use Rattle.recorded_terminal.specs.declared.watch.WatchFault.TheVariants as watch
use Rattle.recorded_terminal.specs.declared.later.FreshPart.{FreshPart}
use Rattle.recorded_terminal.specs.Judged.{IsJudgedBy}
use Rattle.recorded_terminal.specs.Marks.{maybe_in, HasManyWays}
use Rattle.recorded_terminal.proofs.WayLaws.{maybe_append}
use Rattle.rt1553_verify.specs.Stated.{StatedEvent}
use Rattle.script_recordings.specs.declared.explaining.PartTold.{PartTold}
use Rattle.script_recordings.specs.declared.explaining.Stretches.{Stretches}
use Rattle.script_recordings.specs.declared.tally.Tally.{Tally}
use Rattle.script_recordings.specs.Parts.{is_silence, heard}
use Rattle.script_recordings.specs.Seen.{AreToldAs, StateWords, recorded_warning, shows_word}
use Rattle.script_recordings.specs.Explained.{first_some, told_first, IsJudgedLater, IsBehindStretches, IsJudgedBehind, IsJudgedAtFirst}
use Rattle.script_recordings.specs.inner.Reads.{AreMarkedAs, IsUnlessMany, TellsJudged}
use Rattle.script_recordings.specs.inner.Tallies.{IsTally, words_stated}
use Rattle.script_recordings.specs.inner.PartsTold.{joined_warning, judged_of, AreStretches, CountsStretches, TellsJust, TellsThen, IsToldFirst, IsToldLater}
use Rattle.script_recordings.proofs.ReadLaws.{are_told, all_heard}
use Rattle.script_recordings.proofs.SinceLaws.{judged_later}

-- ---- what a watch gives

pub given_ok : {T : Type 0} (r : Result T WatchFault) (x : T) (F : T → Type 0) → IsUnlessMany r (Some x) → IfOk r F → F x
given_ok (Ok y) x F is f = subst F (sym is) f
given_ok (Err watch.TooManyWays) x F is f = absurd is
given_ok (Err watch.Memory) x F is f = absurd is

pub given_many : {T : Type 0} (r : Result T WatchFault) (F : WatchFault → Type 0) → IsUnlessMany r None → IfErr r F → F watch.TooManyWays
given_many (Ok y) F is f = absurd is
given_many (Err watch.TooManyWays) F is f = f
given_many (Err watch.Memory) F is f = absurd is

pub given_on : {T : Type 0} (r : Result T WatchFault) (x : T) (F : Type 0) → IsUnlessMany r (Some x) → OnOk r F → F
given_on (Ok y) x F is f = f
given_on (Err watch.TooManyWays) x F is f = absurd is
given_on (Err watch.Memory) x F is f = absurd is

-- three things that hold of a result, as one
pub all_ok : {T E : Type 0} (r : Result T E) (F G H K : T → Type 0) → IfOk r F → IfOk r G → IfOk r H → ((x : T) → F x → G x → H x → K x) → IfOk r K
all_ok (Ok x) F G H K f g h all = all x f g h
all_ok (Err e) F G H K f g h all = tt

-- ---- the words that are stated

pub shown_more : (xs ys : List MaybeSighting) → length (filter shows_word (xs ++ ys)) ≡ length (filter shows_word xs) + length (filter shows_word ys)
shown_more xs ys = ap length (filter-append shows_word xs ys) ∙ length-append (filter shows_word xs) (filter shows_word ys)

pub told_more : (ss ts : List StatedEvent) (xs ys : List MaybeSighting) → AreToldAs ss xs → AreToldAs ts ys → AreToldAs (ss ++ ts) (xs ++ ys)
told_more [] ts [] ys are more = more
told_more [] ts (x ∷ xs) ys are more = absurd are
told_more (s ∷ ss) ts [] ys are more = absurd are
told_more (s ∷ ss) ts (x ∷ xs) ys are more = (are.0, told_more ss ts xs ys are.1 more)

pub words_more : (ss ts : List StatedEvent) (n m : ℕ) → StateWords ss n → StateWords ts m → StateWords (ss ++ ts) (n + m)
words_more ss ts n m (xs, are, k) (ys, more, l) = (
  xs ++ ys,
  subst (λ zs. AreToldAs zs (xs ++ ys)) (sym (filter-append (λ s. not (is_silence s)) ss ts)) (told_more (heard ss) (heard ts) xs ys are more),
  (λ j. k j + l j) ∙ sym (shown_more xs ys),
)

pub words_of : (ss : List StatedEvent) (ms : List Marked) (n : ℕ) → AreMarkedAs ss ms → n ≡ length (words_stated ms) → StateWords ss n
words_of ss ms n are is = (maybe_in ms, subst (λ zs. AreToldAs zs (maybe_in ms)) (sym (all_heard ss (maybe_in ms) told)) told, is)
  where
    told : AreToldAs ss (maybe_in ms)
    told = are_told ss ms are

-- ---- stretches

-- the events of sightings and of those behind them
record Parted (ss : List StatedEvent) (ms ns : List Marked) : Type 0 where
  front : List StatedEvent
  rest : List StatedEvent
  all : ss ≡ front ++ rest
  are : AreMarkedAs front ms
  are_rest : AreMarkedAs rest ns

parted : (ss : List StatedEvent) (ms ns : List Marked) → AreMarkedAs ss (ms ++ ns) → Parted ss ms ns
parted ss [] ns are = record { front = []; rest = ss; all = refl; are = tt; are_rest = are }
parted [] (m ∷ ms) ns are = absurd are
parted (s ∷ ss) (m ∷ ms) ns are =
    let c = parted ss ms ns are.1 in
    record { front = s ∷ c.front; rest = c.rest; all = ap (λ l. s ∷ l) c.all; are = (are.0, c.are); are_rest = c.are_rest }

stretches_more : (n : ℕ) (ms front : List Marked) → AreStretches n ms → HasManyWays (maybe_in front) → AreStretches (suc n) (ms ++ front)
stretches_more zero ms front none many = (front, [], ap (λ l. l ++ front) none ∙ sym (append-nil front), many, refl)
stretches_more (suc n) ms front (f, l, all, has, more) many = (f, l ++ front, ap (λ k. k ++ front) all ∙ append_assoc f l front, has, stretches_more n l front more many)

-- one, and one more
one_stretch : (ms : List Marked) → HasManyWays (maybe_in ms) → AreStretches 1 ms
one_stretch ms many = (ms, [], sym (append-nil ms), many, refl)

pub counts_more : (cs ms : List Marked) (s new : Stretches) (tally : Tally) → CountsStretches cs s → HasManyWays (maybe_in ms) → IsTally ms tally → new.count ≡ s.count + 1 → new.answers ≡ s.answers + tally.answers
    → CountsStretches (cs ++ ms) new
counts_more cs ms s new tally (are, words) many is count answers = (
  subst (λ k. AreStretches k (cs ++ ms)) {x = suc s.count} (omega (arith, count)) (stretches_more s.count cs ms are many),
  answers ∙ (λ j. words j + is.answers j) ∙ sym (ap (λ l. length (filter shows_word l)) (maybe_append cs ms) ∙ shown_more (maybe_in cs) (maybe_in ms)),
)

are_behind : (n : ℕ) (front rest : List StatedEvent) (cs : List Marked) → AreMarkedAs front cs → AreStretches n cs → IsBehindStretches n (front ++ rest) rest
are_behind zero front rest cs are none = ap (λ l. l ++ rest) (by front (subst (AreMarkedAs front) none are))
  where
    by : (front : List StatedEvent) → AreMarkedAs front [] → front ≡ []
    by [] are = refl
    by (s ∷ front) are = absurd are
are_behind (suc n) front rest cs are (f, l, all, many, more) =
    let c = parted front f l (subst (AreMarkedAs front) all are) in
    (c.front, c.rest ++ rest, ap (λ k. k ++ rest) c.all ∙ append_assoc c.front c.rest rest, (maybe_in f, are_told c.front f c.are, many), are_behind n c.rest rest l c.are_rest more)

behind_twice : (n m k : ℕ) (events mid rest : List StatedEvent) → k ≡ n + m → IsBehindStretches n events mid → IsBehindStretches m mid rest → IsBehindStretches k events rest
behind_twice zero m k events mid rest sum is more = subst (λ l. IsBehindStretches k l rest) (sym is) (subst (λ i. IsBehindStretches i mid rest) (omega (arith, sum)) more)
behind_twice (suc n) m zero events mid rest sum is more = absurd (omega (arith, sum))
behind_twice (suc n) m (suc k) events mid rest sum (f, l, all, has, is) more = (f, l, all, has, behind_twice n m k l mid rest (omega (arith, sum)) is more)

-- ---- what is told behind them

told_of_rest : (D : Description) (front rest : List StatedEvent) (cs : List Marked) (s : Stretches) (t last all : PartTold) → AreMarkedAs front cs → CountsStretches cs s → TellsJust s.answers s.count t
    → IsToldLater D rest last → TellsThen t last all → IsToldLater D (front ++ rest) all
told_of_rest D front rest cs s t last all are counts tells (judged, (end, is, i), warned, words) then = (
  judged,
  (
    end,
    behind_twice s.count last.stretches all.stretches (front ++ rest) rest end (then.4 ∙ ap (λ k. k + last.stretches) tells.4) (are_behind s.count front rest cs are counts.0) is,
    subst (λ q. IsJudgedLater D end q (told_first all.first) judged) (sym (then.0 ∙ ap (λ q. first_some q last.after) tells.0))
        (subst (λ q. IsJudgedLater D end last.after (told_first q) judged) (sym (then.1 ∙ ap (λ q. first_some q last.first) tells.1)) i),
  ),
  then.2 ∙ ap (λ w. joined_warning w last.warning) tells.2 ∙ warned,
  subst (StateWords (front ++ rest)) (sym then.3) (words_more front rest t.answers last.answers (words_of front cs t.answers are (tells.3 ∙ counts.1)) words),
)

pub told_behind_stretches : (D : Description) (events : List StatedEvent) (cs ms : List Marked) (s : Stretches) (t last all : PartTold) → AreMarkedAs events (cs ++ ms) → CountsStretches cs s → TellsJust s.answers s.count t
    → ((rest : List StatedEvent) → AreMarkedAs rest ms → IsToldLater D rest last) → TellsThen t last all → IsToldLater D events all
told_behind_stretches D events cs ms s t last all are counts tells told then =
    let c = parted events cs ms are in
    subst (λ l. IsToldLater D l all) (sym c.all) (told_of_rest D c.front c.rest cs s t last all c.are counts tells (told c.rest c.are_rest) then)

-- behind a stretch it is as if it had begun at any time
first_behind : (P D : Description) (events : List StatedEvent) (t : PartTold) (n : ℕ) → t.stretches ≡ suc n → IsToldLater D events t → IsToldFirst P D events t
first_behind P D events t n is (judged, i, warned, words) =
    (judged, subst (λ k. IsJudgedAtFirst P D k events (told_first t.first) judged) (sym is) (t.after, subst (λ k. IsJudgedBehind D k events t.after (told_first t.first) judged) is i), warned, words)

pub first_of_rest : (P D : Description) (front rest : List StatedEvent) (ms : List Marked) (n : ℕ) (t last all : PartTold) → AreMarkedAs front ms → HasManyWays (maybe_in ms) → n ≡ length (words_stated ms)
    → TellsJust n 1 t → IsToldLater D rest last → TellsThen t last all → IsToldFirst P D (front ++ rest) all
first_of_rest P D front rest ms n t last all are many words just told then =
    first_behind P D (front ++ rest) all last.stretches (omega (arith, then.4, just.4)) (told_of_rest D front rest ms (record { count = 1; answers = n }) t last all are (one_stretch ms many, words) just told then)

-- ---- the last stretch

-- too many ways are left in it too
pub later_many : (D : Description) (events : List StatedEvent) (ms : List Marked) (n : ℕ) (t : PartTold) → AreMarkedAs events ms → HasManyWays (maybe_in ms) → n ≡ length (words_stated ms) → TellsJust n 1 t
    → IsToldLater D events t
later_many D events ms n t are many words just = (
  [],
  subst (λ k. IsJudgedBehind D k events t.after (told_first t.first) []) (sym just.4) (
    [],
    (events, [], sym (append-nil events), (maybe_in ms, are_told events ms are, many), refl),
    subst (λ q. IsJudgedLater D [] q (told_first t.first) []) (sym just.0) (ap told_first just.1, refl, ([], tt, refl)),
  ),
  just.2,
  words_of events ms t.answers are (just.3 ∙ words),
)

pub first_many : (P D : Description) (events : List StatedEvent) (ms : List Marked) (n : ℕ) (t : PartTold) → AreMarkedAs events ms → HasManyWays (maybe_in ms) → n ≡ length (words_stated ms) → TellsJust n 1 t
    → IsToldFirst P D events t
first_many P D events ms n t are many words just = first_behind P D events t 0 just.4 (later_many D events ms n t are many words just)

-- it is judged
pub later_judged : (D : Description) (events : List StatedEvent) (ms : List Marked) (judged : Option FreshPart) (tally : Tally) (t : PartTold) → AreMarkedAs events ms → IsTally ms tally → TellsJudged judged t.after t.first
    → t.warning ≡ recorded_warning (judged_of judged ms) → (t.answers ≡ tally.answers) × (t.stretches ≡ 0) → IsJudgedBy D ms judged → IsToldLater D events t
later_judged D events ms judged tally t are is tells warned counts i = (
  judged_of judged ms,
  subst (λ k. IsJudgedBehind D k events t.after (told_first t.first) (judged_of judged ms)) (sym counts.1) (events, refl, judged_later D events ms judged t.after t.first are tells i),
  warned,
  words_of events ms t.answers are (counts.0 ∙ is.answers),
)
