-- Laws of a recording in parts, one after the other.
use Rattle.std.proofs.Common.{◌≡◌, ◌∙◌, inl, ℕ, suc, ◌+◌, ◌<◌, ◌≤◌, arith, Bool, true, false, not, cond, ◌&&◌, ◌==◌, Option, Some, None, IfSome, is_some, Result, Ok, Err, List, [], ◌∷◌, ◌++◌, length, filter, refl, sym, ap, subst, append_assoc, append-nil, length-append}
use Rattle.std.proofs.lemmas.Bool.Decides.{nat_tests}
use Rattle.std.proofs.lemmas.List.Splits.{slice_split_none, slice_split_at}
use Rattle.bus_legal.specs.Description.{Description}
use Rattle.terminal_recordings.specs.MaybeGaps.{MaybeSighting}
use Rattle.recorded_terminal.specs.declared.watch.Marked.{Marked}
use Rattle.recorded_terminal.specs.Marks.{maybe_in}
use Rattle.rt1553_verify.specs.declared.stated.ScriptWarning.TheVariants.{NoEvent, NoAnswer}
use Rattle.rt1553_verify.specs.declared.stated.StatedFault.{StatedFault}
use Rattle.rt1553_verify.specs.Stated.{StatedEvent, stated_through, stated_warning, then_events}
use Rattle.rt1553_verify.specs.Verify.{ToldAnswer}
use Rattle.rt1553_verify.proofs.StatedLaws.{then-twice}
use Rattle.script_recordings.specs.declared.explaining.PartTold.{PartTold}
use Rattle.script_recordings.specs.declared.explaining.UnexplainedLine.{UnexplainedLine}
use Rattle.script_recordings.specs.declared.reading.RecordingFault.{RecordingFault}
use Rattle.script_recordings.specs.declared.reading.RecordingFault.TheVariants.{Unseen, Masked, NoWord, TooManyWays, Script}
use Rattle.script_recordings.specs.Parts.{is_silence, split_parts, heard}
use Rattle.script_recordings.specs.Seen.{AreToldAs, AreNoted, AreNoRecording, StateWords, recorded_warning, shows_word}
use Rattle.script_recordings.specs.Explained.{first_some, told_first, IsJudgedBehind, AreJudgedLater, IsJudgedFrom, IsJudgedSince}
use Rattle.script_recordings.specs.inner.Reads.{Left, AreMarkedAs, ReadsPart, ReadsThen, EndsPart}
use Rattle.script_recordings.specs.inner.PartsTold.{joined_warning, TellsJust, TellsThen, IsToldFirst, IsToldLater, ArePartsTold, AreOthersTold}
use Rattle.script_recordings.proofs.ReadLaws.{PartSoFar, part_ended, are_told, are_noted, noted_more, none_end}
use Rattle.script_recordings.proofs.StretchLaws.{shown_more, told_more, words_more}

abbrev Said : Type 0
Said = Result (List StatedEvent) StatedFault

-- ---- where parts end

-- events up to such a slot are the first part, and all others are those behind it
first_part : (ss : List StatedEvent) (xs : List MaybeSighting) (s : StatedEvent) (rest : List StatedEvent) → AreToldAs ss xs → is_silence s ≡ true → split_parts ((ss ++ s ∷ []) ++ rest) ≡ ss ∷ split_parts rest
first_part ss xs s rest are silent = ap split_parts (append_assoc ss (s ∷ []) rest) ∙ slice_split_at is_silence ss s rest (none_end ss xs are) silent

one_part : (ss : List StatedEvent) (xs : List MaybeSighting) → AreToldAs ss xs → split_parts ss ≡ ss ∷ []
one_part ss xs are = slice_split_none is_silence ss (none_end ss xs are)

-- a part and the slot that ends it
noted_part : (ss : List StatedEvent) (xs : List MaybeSighting) (s : StatedEvent) → AreToldAs ss xs → is_silence s ≡ true → AreNoted (ss ++ s ∷ [])
noted_part ss xs s are silent = noted_more ss (s ∷ []) (are_noted ss xs are) (inl silent, tt)

-- ---- what is told of parts

some_told : (one other : Option UnexplainedLine) → told_first (first_some one other) ≡ first_some (told_first one) (told_first other)
some_told None other = refl
some_told (Some line) other = refl

none_of_both : (n m : ℕ) → (n + m == 0) ≡ ((n == 0) && (m == 0))
none_of_both n m = grind (arith, nat_tests)

-- where there is a sighting
some_warning : (x : MaybeSighting) (xs : List MaybeSighting) → recorded_warning (x ∷ xs) ≡ cond (length (filter shows_word (x ∷ xs)) == 0) (Some NoAnswer) None
some_warning x xs =
    let some : (length (x ∷ xs) == 0) ≡ false = grind (arith, nat_tests) in
    ap (λ b. stated_warning (not b) (length (filter shows_word (x ∷ xs)))) some

warned_more : (xs ys : List MaybeSighting) → recorded_warning (xs ++ ys) ≡ joined_warning (recorded_warning xs) (recorded_warning ys)
warned_more [] ys = refl
warned_more (x ∷ xs) [] =
    ap recorded_warning (append-nil (x ∷ xs)) ∙ some_warning x xs ∙ by (length (filter shows_word (x ∷ xs)) == 0) ∙ ap (λ w. joined_warning w (Some NoEvent)) (sym (some_warning x xs))
  where
    by : (b : Bool) → cond b (Some NoAnswer) None ≡ joined_warning (cond b (Some NoAnswer) None) (Some NoEvent)
    by true = refl
    by false = refl
warned_more (x ∷ xs) (y ∷ ys) =
    let n = length (filter shows_word (x ∷ xs)) in
    let m = length (filter shows_word (y ∷ ys)) in
    some_warning x (xs ++ y ∷ ys) ∙ ap (λ k. cond (k == 0) (Some NoAnswer) None) (shown_more (x ∷ xs) (y ∷ ys)) ∙ ap (λ b. cond b (Some NoAnswer) None) (none_of_both n m) ∙ by (n == 0) (m == 0)
    ∙ (λ j. joined_warning (sym (some_warning x xs) j) (sym (some_warning y ys) j))
  where
    by : (b c : Bool) → cond (b && c) (Some NoAnswer) None ≡ joined_warning (cond b (Some NoAnswer) None) (cond c (Some NoAnswer) None)
    by true true = refl
    by true false = refl
    by false c = refl

-- ---- the words that are stated

-- those of a part, and of the slot that ends it
words_ended : (ss : List StatedEvent) (s : StatedEvent) (n : ℕ) → is_silence s ≡ true → StateWords ss n → StateWords (ss ++ s ∷ []) n
words_ended ss s n silent words =
    subst (StateWords (ss ++ s ∷ [])) (omega arith) (words_more ss (s ∷ []) n 0 words ([], subst (λ b. AreToldAs (cond (not b) (s ∷ []) []) []) (sym silent) tt, refl))

-- one part before others
told_before : (D : Description) (events : List StatedEvent) (parts : List (List StatedEvent)) (t others all : PartTold) → IsToldLater D events t → ArePartsTold D parts others → TellsThen t others all
    → ArePartsTold D (events ∷ parts) all
told_before D events parts t others all (seen, i, w, words) (more, are, v) then = (
  seen ++ more,
  (t.after, others.after, told_first t.first, told_first others.first, t.stretches, others.stretches, seen, more, i, are, then.0, ap told_first then.1 ∙ some_told t.first others.first, then.4, refl),
  then.2 ∙ (λ j. joined_warning (w j) (v j)) ∙ sym (warned_more seen more),
)

first_twice : {A : Type 0} (a b c : Option A) → first_some (first_some a b) c ≡ first_some a (first_some b c)
first_twice None b c = refl
first_twice (Some x) b c = refl

first_alone : {A : Type 0} (a : Option A) → a ≡ first_some a None
first_alone None = refl
first_alone (Some x) = refl

-- and one behind others
judged_behind : (D : Description) (parts : List (List StatedEvent)) (events : List StatedEvent) (after line : Option ℕ) (told one : Option ToldAnswer) (n m : ℕ) (judged seen : List MaybeSighting)
    → AreJudgedLater D parts after told n judged → IsJudgedBehind D m events line one seen
    → AreJudgedLater D (parts ++ events ∷ []) (first_some after line) (first_some told one) (n + m) (judged ++ seen)
judged_behind D [] events after line told one n m judged seen (a, t, none, j) i = (
  line,
  None,
  one,
  None,
  m,
  0,
  seen,
  [],
  i,
  (refl, refl, refl, refl),
  ap (λ q. first_some q line) a ∙ first_alone line,
  ap (λ q. first_some q one) t ∙ first_alone one,
  omega (arith, none),
  ap (λ l. l ++ seen) j ∙ sym (append-nil seen),
)
judged_behind D (part ∷ parts) events after line told one n m judged seen (l, ls, o, os, k, ks, s, more, p, are, a, t, both, j) i = (
  l,
  first_some ls line,
  o,
  first_some os one,
  k,
  ks + m,
  s,
  more ++ seen,
  p,
  judged_behind D parts events ls line os one ks m more seen are i,
  ap (λ q. first_some q line) a ∙ first_twice l ls line,
  ap (λ q. first_some q one) t ∙ first_twice o os one,
  omega (arith, both),
  ap (λ q. q ++ seen) j ∙ append_assoc s more seen,
)

told_behind : (D : Description) (parts : List (List StatedEvent)) (events : List StatedEvent) (t part all : PartTold) → ArePartsTold D parts t → IsToldLater D events part → TellsThen t part all
    → ArePartsTold D (parts ++ events ∷ []) all
told_behind D parts events t part all (judged, are, w) (seen, i, v, words) then = (
  judged ++ seen,
  subst (λ q. AreJudgedLater D (parts ++ events ∷ []) q (told_first all.first) all.stretches (judged ++ seen)) (sym then.0)
      (subst (λ q. AreJudgedLater D (parts ++ events ∷ []) (first_some t.after part.after) q all.stretches (judged ++ seen)) (sym (ap told_first then.1 ∙ some_told t.first part.first))
      (subst (λ q. AreJudgedLater D (parts ++ events ∷ []) (first_some t.after part.after) (first_some (told_first t.first) (told_first part.first)) q (judged ++ seen)) (sym then.4)
      (judged_behind D parts events t.after part.after (told_first t.first) (told_first part.first) t.stretches part.stretches judged seen are i))),
  then.2 ∙ (λ j. joined_warning (w j) (v j)) ∙ sym (warned_more judged seen),
)

told_nothing : (D : Description) (t : PartTold) → TellsJust 0 0 t → ArePartsTold D [] t
told_nothing D t (a, f, w, none, no_stretch) = ([], (a, ap told_first f, no_stretch, refl), w)

-- what was read of a part, and what holds of it
pub reads_then : (all left new : Left) (silence : Option ℕ) (ms : List Marked) {Holds : List StatedEvent → Type 0} → PartSoFar all left ms → EndsPart left new silence
    → ((events : List StatedEvent) → AreMarkedAs events ms → Holds events) → ReadsThen all new silence Holds
reads_then None left new silence ms read end holds = tt
reads_then (Some said) left new silence ms read end holds =
    let p = part_ended said left new silence ms read end in
    (p.0, p.1, (maybe_in ms, are_told p.0 ms p.2), holds p.0 p.2)

-- the same of sightings and of what is read behind them
pub reads_behind : (all left new : Left) (silence : Option ℕ) (ms : List Marked) (Later Holds : List StatedEvent → Type 0) → PartSoFar all left ms → ReadsThen left new silence Later
    → ((front later : List StatedEvent) → AreMarkedAs front ms → Later later → Holds (front ++ later)) → ReadsThen all new silence Holds
reads_behind None left new silence ms Later Holds read reads holds = tt
reads_behind (Some said) left new silence ms Later Holds (front, later, is, whole, are) reads holds =
    by silence (subst (λ (l : Left). ReadsThen l new silence Later) is reads)
  where
    by : (silence : Option ℕ) → ReadsThen (Some later) new silence Later → ReadsThen (Some said) new silence Holds
    by None (events, all, (xs, are_events), i) =
        (front ++ events, whole ∙ ap (then_events front) all, (maybe_in ms ++ xs, told_more front events (maybe_in ms) xs (are_told front ms are) are_events), holds front events are i)
    by (Some line) (events, (s, rest, is_left, all, silent, place), (xs, are_events), i) = (
      front ++ events,
      (s, rest, is_left, whole ∙ ap (then_events front) all ∙ then-twice front (events ++ s ∷ []) rest ∙ ap (λ l. then_events l rest) (sym (append_assoc front events (s ∷ []))), silent, place),
      (maybe_in ms ++ xs, told_more front events (maybe_in ms) xs (are_told front ms are) are_events),
      holds front events are i,
    )

-- ---- the parts behind one that ended

abbrev pub OthersSoFar : Description → Left → Option ℕ → Left → Option ℕ → PartTold → ℕ → Type 0
OthersSoFar D all None left silence t n = (silence ≡ None) × ArePartsTold D [] t × (n ≡ 0) × (t.answers ≡ 0)
OthersSoFar D None (Some line) left silence t n = Unit {0}
OthersSoFar D (Some said) (Some line) left None t n = AreOthersTold D (Some said) (Some line) t n
OthersSoFar D (Some said) (Some line) left (Some at) t n =
    (front : List StatedEvent) × (later : Said) × (parts : List (List StatedEvent)) × (left ≡ Some later) × (said ≡ then_events front later) × AreNoted front
    × ((rest : List StatedEvent) → split_parts (front ++ rest) ≡ parts ++ split_parts rest) × ArePartsTold D parts t × (length parts ≡ n) × StateWords front t.answers

none_before : (said : Said) → said ≡ then_events [] said
none_before (Ok ss) = refl
none_before (Err fault) = refl

pub others_none : (D : Description) (left : Left) (silence : Option ℕ) (t : PartTold) → TellsJust 0 0 t → OthersSoFar D left silence left silence t 0
others_none D left None t none = (refl, told_nothing D t none, refl, none.3)
others_none D None (Some line) t none = tt
others_none D (Some said) (Some line) t none = ([], said, [], refl, none_before said, tt, λ rest. refl, told_nothing D t none, refl, ([], tt, none.3))

pub others_more : (D : Description) (all : Left) (begun : Option ℕ) (left new : Left) (silence next : Option ℕ) (t part then : PartTold) (n : ℕ) → is_some silence ≡ true → OthersSoFar D all begun left silence t n
    → ReadsThen left new next (λ events. IsToldLater D events part) → TellsThen t part then → OthersSoFar D all begun new next then (n + 1)
others_more D all begun left new None next t part then n some far reads tells = absurd (cc)
others_more D all None left new (Some at) next t part then n some (none, told, few, no_words) reads tells = absurd (cc)
others_more D None (Some line) left new (Some at) None t part then n some far reads tells = tt
others_more D None (Some line) left new (Some at) (Some k) t part then n some far reads tells = tt
others_more D (Some said) (Some line) left new (Some at) next t part then n some (front, later, parts, is, whole, noted, split, told, many, words) reads tells =
    by next (subst (λ (l : Left). ReadsThen l new next (λ events. IsToldLater D events part)) is reads)
  where
    more : (events : List StatedEvent) → length (parts ++ events ∷ []) ≡ n + 1
    more events = length-append parts (events ∷ []) ∙ ap (λ k. k + 1) many

    both : (events : List StatedEvent) → StateWords events part.answers → StateWords (front ++ events) then.answers
    both events i = subst (StateWords (front ++ events)) (sym tells.3) (words_more front events t.answers part.answers words i)

    by : (next : Option ℕ) → ReadsThen (Some later) new next (λ events. IsToldLater D events part) → OthersSoFar D (Some said) (Some line) new next then (n + 1)
    by None (events, all, (xs, are), i) =
        let cut : split_parts (front ++ events) ≡ parts ++ events ∷ [] = split events ∙ ap (λ l. parts ++ l) (one_part events xs are) in (
          front ++ events,
          whole ∙ ap (then_events front) all,
          subst (λ l. ArePartsTold D l then) (sym cut) (told_behind D parts events t part then told i tells),
          ap length cut ∙ more events,
          both events i.3,
        )
    by (Some k) (events, (s, rest, is_left, all, silent, place), (xs, are), i) = (
      front ++ (events ++ s ∷ []),
      rest,
      parts ++ events ∷ [],
      is_left,
      whole ∙ ap (then_events front) all ∙ then-twice front (events ++ s ∷ []) rest,
      noted_more front (events ++ s ∷ []) noted (noted_part events xs s are silent),
      λ others. ap split_parts (append_assoc front (events ++ s ∷ []) others) ∙ split ((events ++ s ∷ []) ++ others) ∙ ap (λ l. parts ++ l) (first_part events xs s others are silent)
          ∙ sym (append_assoc parts (events ∷ []) (split_parts others)),
      told_behind D parts events t part then told i tells,
      more events,
      both (events ++ s ∷ []) (words_ended events s part.answers silent i.3),
    )

-- ---- what is no recording

behind : (front : List StatedEvent) (said later : Said) (fault : RecordingFault) → AreNoted front → said ≡ then_events front later → AreNoRecording later fault → AreNoRecording said fault
behind front said later (Script fault) noted whole bad = λ memory read. whole ∙ ap (then_events front) (bad memory read)
behind front said later TooManyWays noted whole bad = absurd bad
behind front said later (Unseen n) noted whole (before, s, rest, all, are, heard, bad) =
    (front ++ before, s, rest, whole ∙ ap (then_events front) all ∙ ap Ok (sym (append_assoc front before (s ∷ rest))), noted_more front before noted are, heard, bad)
behind front said later (Masked n) noted whole (before, s, rest, all, are, heard, bad) =
    (front ++ before, s, rest, whole ∙ ap (then_events front) all ∙ ap Ok (sym (append_assoc front before (s ∷ rest))), noted_more front before noted are, heard, bad)
behind front said later (NoWord n) noted whole (before, s, rest, all, are, heard, bad) =
    (front ++ before, s, rest, whole ∙ ap (then_events front) all ∙ ap Ok (sym (append_assoc front before (s ∷ rest))), noted_more front before noted are, heard, bad)

pub part_refused : (all left : Left) (ms : List Marked) (fault : RecordingFault) → PartSoFar all left ms → IfSome left (λ said. AreNoRecording said fault) → IfSome all (λ said. AreNoRecording said fault)
part_refused None left ms fault read bad = tt
part_refused (Some said) left ms fault (front, later, is, all, are) bad =
    behind front said later fault (are_noted front (maybe_in ms) (are_told front ms are)) all (subst (λ (l : Left). IfSome l (λ said. AreNoRecording said fault)) is bad)

pub others_refused : (D : Description) (all : Left) (begun : Option ℕ) (left : Left) (silence : Option ℕ) (t : PartTold) (n : ℕ) (fault : RecordingFault) → is_some silence ≡ true
    → OthersSoFar D all begun left silence t n → IfSome left (λ said. AreNoRecording said fault) → IfSome all (λ said. AreNoRecording said fault)
others_refused D all begun left None t n fault some far bad = absurd (cc)
others_refused D all None left (Some at) t n fault some (none, told, few, no_words) bad = absurd (cc)
others_refused D None (Some line) left (Some at) t n fault some far bad = tt
others_refused D (Some said) (Some line) left (Some at) t n fault some (front, later, parts, is, whole, noted, split, told, many, words) bad =
    behind front said later fault noted whole (subst (λ (l : Left). IfSome l (λ said. AreNoRecording said fault)) is bad)

-- none is read where the first part ended with the script
pub others_begun : (D : Description) (all : Left) (begun : Option ℕ) (left : Left) (silence : Option ℕ) (t : PartTold) (n : ℕ) → is_some silence ≡ true → OthersSoFar D all begun left silence t n → begun ≡ None → ⊥
others_begun D all begun left None t n some far none = absurd (cc)
others_begun D all None left (Some at) t n some (is, told, few, no_words) none = absurd (cc)
others_begun D all (Some line) left (Some at) t n some far none = absurd (cc)

-- those behind the first part
pub rest_refused : (all new : Left) (silence : Option ℕ) (Holds : List StatedEvent → Type 0) (fault : RecordingFault) → ReadsThen all new silence Holds → (silence ≡ None → ⊥) → IfSome new (λ said. AreNoRecording said fault)
    → IfSome all (λ said. AreNoRecording said fault)
rest_refused None new silence Holds fault reads some bad = tt
rest_refused (Some said) new None Holds fault reads some bad = absurd (some refl)
rest_refused (Some said) new (Some line) Holds fault (events, (s, later, is, all, silent, at), (xs, are), holds) some bad =
    behind (events ++ s ∷ []) said later fault (noted_part events xs s are silent) all (subst (λ (l : Left). IfSome l (λ said. AreNoRecording said fault)) is bad)

-- ---- the whole

-- the parts of all that is left, behind the first one, in which so many words are stated
pub record Whole (D : Description) (said : Said) (events : List StatedEvent) (others : PartTold) (n k : ℕ) : Type 0 where
  pub whole : List StatedEvent
  pub says : said ≡ Ok whole
  pub parts : List (List StatedEvent)
  pub split : split_parts whole ≡ events ∷ parts
  pub told : ArePartsTold D parts others
  pub many : length parts ≡ n
  pub words : StateWords whole (k + others.answers)

whole_of : (D : Description) (said : Said) (new : Left) (silence : Option ℕ) (events : List StatedEvent) (xs : List MaybeSighting) (others : PartTold) (n k : ℕ) → ReadsPart (Some said) new silence events
    → AreToldAs events xs → AreOthersTold D new silence others n → StateWords events k → Whole D said events others n k
whole_of D said new None events xs others n k reads are told words = record {
  whole = events;
  says = by new reads;
  parts = [];
  split = one_part events xs are;
  told = told.0;
  many = sym told.1;
  words = subst (StateWords events) (omega (arith, told.2)) words;
}
  where
    by : (new : Left) → ReadsPart (Some said) new None events → said ≡ Ok events
    by new reads = reads
whole_of D said new (Some line) events xs others n k (s, later, is, all, silent, at) are told words =
    let o : AreOthersTold D (Some later) (Some line) others n = subst (λ (l : Left). AreOthersTold D l (Some line) others n) is told in
    record {
      whole = (events ++ s ∷ []) ++ o.0;
      says = all ∙ ap (then_events (events ++ s ∷ [])) o.1;
      parts = split_parts o.0;
      split = first_part events xs s o.0 are silent;
      told = o.2;
      many = o.3;
      words = words_more (events ++ s ∷ []) o.0 k others.answers (words_ended events s k silent words) o.4;
    }

pub judged_since : (D : Description) (input : Option (List ℕ)) (all new : Left) (silence : Option ℕ) (first others told : PartTold) (n : ℕ) → IfSome input (λ script. all ≡ Some (stated_through script))
    → ReadsThen all new silence (λ events. IsToldLater D events first) → AreOthersTold D new silence others n → TellsThen first others told
    → IfSome input (λ script. IsJudgedSince D script told.after (told_first told.first) told.warning told.answers n told.stretches)
judged_since D None all new silence first others told n is reads rest then = tt
judged_since D (Some script) all new silence first others told n is reads rest then =
    by (subst (λ (l : Left). ReadsThen l new silence (λ events. IsToldLater D events first)) is reads)
  where
    by : ReadsThen (Some (stated_through script)) new silence (λ events. IsToldLater D events first) → IsJudgedSince D script told.after (told_first told.first) told.warning told.answers n told.stretches
    by (events, part, (xs, are), i) =
        let w = whole_of D (stated_through script) new silence events xs others n first.answers part are rest i.3 in
        let t : ArePartsTold D (split_parts w.whole) told = subst (λ l. ArePartsTold D l told) (sym w.split) (told_before D events w.parts first others told i w.told then) in
        record { events = w.whole; says = w.says; judged = t.0; are_judged = t.1; warned = t.2; stated = subst (StateWords w.whole) (sym then.3) w.words; counted = ap length w.split ∙ ap suc w.many }

pub judged_from : (P D : Description) (input : Option (List ℕ)) (all new : Left) (silence : Option ℕ) (first others told : PartTold) (n : ℕ) → IfSome input (λ script. all ≡ Some (stated_through script))
    → (G : Description → Type 0) → G P → ReadsThen all new silence (λ events. (P : Description) → G P → IsToldFirst P D events first) → AreOthersTold D new silence others n → TellsThen first others told
    → IfSome input (λ script. IsJudgedFrom P D script (told_first told.first) told.warning told.answers n told.stretches)
judged_from P D None all new silence first others told n is G g reads rest then = tt
judged_from P D (Some script) all new silence first others told n is G g reads rest then =
    by (subst (λ (l : Left). ReadsThen l new silence (λ events. (P : Description) → G P → IsToldFirst P D events first)) is reads)
  where
    by : ReadsThen (Some (stated_through script)) new silence (λ events. (P : Description) → G P → IsToldFirst P D events first)
        → IsJudgedFrom P D script (told_first told.first) told.warning told.answers n told.stretches
    by (events, part, (xs, are), i) =
        let f : IsToldFirst P D events first = i P g in
        let w = whole_of D (stated_through script) new silence events xs others n first.answers part are rest f.3 in
        record {
          events = w.whole;
          says = w.says;
          front = events;
          parts = w.parts;
          split = w.split;
          first = told_first first.first;
          recording = f.0;
          in_first = first.stretches;
          judged_first = f.1;
          after = others.after;
          later = told_first others.first;
          in_others = others.stretches;
          judged = w.told.0;
          judged_later = w.told.1;
          is = ap told_first then.1 ∙ some_told first.first others.first;
          warned = then.2 ∙ (λ j. joined_warning (f.2 j) (w.told.2 j)) ∙ sym (warned_more f.0 w.told.0);
          stated = subst (StateWords w.whole) (sym then.3) w.words;
          counted = (sym w.many, then.4);
        }

-- a part that ends before the script takes a turn
pub fewer_by : (silence : Option ℕ) (new mid old : ℕ) → IfSome silence (λ _. new < mid) → mid ≤ old → IfSome silence (λ _. new < old)
fewer_by None new mid old fewer few = tt
fewer_by (Some line) new mid old fewer few = omega (arith, fewer, few)

-- so there are fewer turns behind it, or no part is left
pub smaller_by : (silence next : Option ℕ) (old new : ℕ) → is_some silence ≡ true → IfSome next (λ _. new < old) → cond (is_some next) (new + 1) 0 < cond (is_some silence) (old + 1) 0
smaller_by None next old new some fewer = absurd (cc)
smaller_by (Some line) None old new some fewer = omega arith
smaller_by (Some line) (Some at) old new some fewer = omega (arith, fewer)
