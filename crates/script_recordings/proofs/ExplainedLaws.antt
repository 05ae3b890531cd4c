-- Laws of what is explained, of terminals that answer alike.
use Rattle.std.proofs.Common.{◌≡◌, ◌∙◌, ◌≤◌, ◌⊎◌, inl, inr, ⊎_elim, ℕ, Bool, true, false, Option, Some, None, IfSome, List, [], ◌∷◌, ◌++◌, map, refl, sym, ap, subst}
use Rattle.bus_word.specs.declared.word.Bus.{Bus}
use Rattle.bus_legal.specs.Description.{Description}
use Rattle.terminal_rules.specs.declared.event.Event.{Event}
use Rattle.terminal_rules.specs.declared.event.Event.TheVariants as event
use Rattle.terminal_rules.specs.Same.{AreProper}
use Rattle.terminal_recordings.specs.Recordings.{Sighting, seen_then, sightings, sightings_from, IsExplained}
use Rattle.terminal_recordings.specs.Completion.{shown_of}
use Rattle.terminal_recordings.specs.Masks.{MaskedSighting, FitsMasked, ExplainsSome}
use Rattle.terminal_recordings.specs.MaybeGaps.{MaybeSighting, Seen, MaybeGap, ExplainsReading, certain}
use Rattle.terminal_recordings.proofs.MaskLaw.{mask_law}
use Rattle.recorded_terminal.proofs.WayLaws.{maybe_append, are_recording, certain_recording}
use Rattle.script_lines.specs.EventLine.{script_text}
use Rattle.rt1553.proofs.EngineLaws.{AnswersAlike}
use Rattle.recorded_terminal.specs.declared.watch.Marked.{Marked}
use Rattle.recorded_terminal.specs.declared.watch.Unexplained.{Unexplained}
use Rattle.recorded_terminal.specs.SentWords.{word_shown}
use Rattle.recorded_terminal.specs.Marks.{masked, masked_in, maybe, maybe_of, maybe_in, seen_in, IsSeen}
use Rattle.recorded_terminal.specs.Watched.{IsUnexplainedBy, IsUnexplainedAt, IsDecidedAt}
use Rattle.rt1553_verify.specs.Stated.{StatedEvent}
use Rattle.rt1553_verify.specs.Verify.{ToldAnswer, told_answer}
use Rattle.script_recordings.specs.declared.explaining.UnexplainedLine.{UnexplainedLine}
use Rattle.script_recordings.specs.Seen.{IsToldAs, StatesRecording}
use Rattle.script_recordings.specs.Explained.{told_at, with_other, told_first, IsFirstUnexplainedBy, IsJudgedFirst, PlaysCertain, IsWitness}
use Rattle.script_recordings.specs.inner.Reads.{AreMarkedAs, TellsUnexplained}
use Rattle.script_recordings.specs.inner.Plays.{PlaysSeen}
use Rattle.script_recordings.specs.inner.Settled.{IsSettled}
use Rattle.script_recordings.proofs.SettleLaws.{left_open, all_seen}
use Rattle.script_recordings.proofs.ReadLaws.{are_told, Split, split}

pub sightings_alike : (P Q : Description) → AnswersAlike P Q → (h es : List Event) → sightings_from P h es ≡ sightings_from Q h es
sightings_alike P Q alike h [] = refl
sightings_alike P Q alike h (e ∷ es) = λ j. seen_then e (alike h e j) (sightings_alike P Q alike (e ∷ h) es j)

-- one of the recordings that are stated is so
pub some_alike : {E F : List Sighting → Type 0} → ((xs : List Sighting) → E xs → F xs) → (ms : List MaskedSighting) → ExplainsSome E ms → ExplainsSome F ms
some_alike to ms (recording, fits, x) = (recording, fits, to recording x)

-- and one of the readings
pub reading_alike : {E F : List Sighting → Type 0} → ((xs : List Sighting) → E xs → F xs) → (ms : List MaybeSighting) → ExplainsReading E ms → ExplainsReading F ms
reading_alike to ms (recording, reads, x) = (recording, reads, some_alike to recording x)

pub explained_alike : (P Q : Description) → AnswersAlike P Q → (recording : List Sighting) → IsExplained P recording → IsExplained Q recording
explained_alike P Q alike recording (es, proper, seen) = (es, proper, sym (sightings_alike P Q alike [] es) ∙ seen)

pub seen_or_open : (m : Marked) → IsSeen m ⊎ ((bus : Bus) × (maybe m ≡ MaybeGap bus))
seen_or_open m = by m.sighting.event m.is_maybe
  where
    by : (e : Event) (q : Bool) → (maybe_of e q (masked m) ≡ Seen (masked m)) ⊎ ((bus : Bus) × (maybe_of e q (masked m) ≡ MaybeGap bus))
    by (event.Gap b) true = inr (b, refl)
    by (event.Gap b) false = inl refl
    by (event.Word b w) q = inl refl
    by (event.Noise b) q = inl refl
    by (event.Write p v) q = inl refl
    by (event.Vector v) q = inl refl
    by (event.Bit v) q = inl refl
    by (event.Flag f v) q = inl refl
    by event.Slot q = inl refl

-- so what nothing explains was seen
unexplained_seen : (E : List Sighting → Type 0) (before : List Marked) (m : Marked) → ExplainsReading E (maybe_in before) → (ExplainsReading E (maybe_in (before ++ m ∷ [])) → ⊥) → IsSeen m
unexplained_seen E before m (recording, reads, x) none = ⊎_elim
    (λ is. is)
    (λ (bus, is). absurd (none (subst (ExplainsReading E) (sym (maybe_append before (m ∷ []) ∙ ap (λ y. maybe_in before ++ y ∷ []) is)) (recording, left_open (maybe_in before) bus recording reads, x))))
    (seen_or_open m)

-- what is told is the first that is unexplained, also by another word for it
pub first_told : {E F : List Sighting → Type 0} → ((xs : List Sighting) → E xs → F xs) → ((xs : List Sighting) → F xs → E xs) → (ss : List StatedEvent) (ms : List Marked) (it : Unexplained) (told : ToldAnswer)
    → AreMarkedAs ss ms → told ≡ told_at it.marked.line (masked it.marked) (word_shown it.sent) → IsUnexplainedBy E ms it → IsFirstUnexplainedBy F ss told
first_told {E = E} {F = F} to back ss ms it told are is i =
    let m : Marked = it.marked in
    let c : Split ss i.before m i.later = split ss i.before m i.later (subst (λ (l : List Marked). AreMarkedAs ss l) i.all are) in
    let seen : IsSeen m = unexplained_seen E i.before m i.explained i.unexplained in
    let here : maybe_in i.before ++ Seen (masked m) ∷ [] ≡ maybe_in (i.before ++ m ∷ []) = sym (maybe_append i.before (m ∷ []) ∙ ap (λ y. maybe_in i.before ++ y ∷ []) seen) in
    record {
      front = c.front;
      stated = c.stated;
      rest = c.rest;
      all = c.all;
      before = maybe_in i.before;
      sighting = masked m;
      other = word_shown it.sent;
      are_told = are_told c.front i.before c.are;
      is_seen = subst (IsToldAs c.stated) seen c.is.0;
      explained = reading_alike to (maybe_in i.before) i.explained;
      unexplained = λ x. i.unexplained (reading_alike back (maybe_in (i.before ++ m ∷ [])) (subst (ExplainsReading F) here x));
      possible = reading_alike to (maybe_in i.before ++ Seen (with_other (masked m) (word_shown it.sent)) ∷ []) i.possible;
      is_told = is ∙ ap (λ n. told_at n (masked m) (word_shown it.sent)) c.is.1;
    }

pub none_told : (first : Option Unexplained) (told : Option UnexplainedLine) → TellsUnexplained first told → told ≡ None → first ≡ None
none_told None None tells e = refl
none_told None (Some line) tells e = absurd tells
none_told (Some it) None tells e = absurd tells
none_told (Some it) (Some line) tells e = absurd (cc)

pub told_none : (first : Option Unexplained) (told : Option UnexplainedLine) → TellsUnexplained first told → first ≡ None → told ≡ None
told_none None None tells e = refl
told_none None (Some line) tells e = absurd tells
told_none (Some it) None tells e = absurd tells
told_none (Some it) (Some line) tells e = absurd (cc)

pub first_none : (first : Option UnexplainedLine) → told_first first ≡ None → first ≡ None
first_none None e = refl
first_none (Some line) e = absurd (cc)

-- ---- what comes of a recording

-- of a part, from power-up
pub judged_first : (events : List StatedEvent) (ms : List Marked) (first : Option Unexplained) (told : Option UnexplainedLine) (P Q : Description) → AnswersAlike Q P → AreMarkedAs events ms
    → TellsUnexplained first told → IsDecidedAt Q [] ms first → IsJudgedFirst P events (told_first told) (maybe_in ms)
judged_first events ms first told P Q alike are tells decided = record {
  are_told = are_told events ms are;
  explained = (
    λ e. reading_alike (explained_alike Q P alike) (maybe_in ms) (decided.explained.0 (none_told first told tells (first_none told e))),
    λ x. ap told_first (told_none first told tells (decided.explained.1 (reading_alike (explained_alike P Q (λ h e. sym (alike h e))) (maybe_in ms) x))),
  );
  first = by first told tells decided.unexplained;
}
  where
    by : (f : Option Unexplained) (t : Option UnexplainedLine) → TellsUnexplained f t → IfSome f (IsUnexplainedAt Q [] ms) → IfSome (told_first t) (IsFirstUnexplainedBy (IsExplained P) events)
    by f None is found = tt
    by None (Some line) is found = absurd is
    by (Some it) (Some line) is found = first_told (explained_alike Q P alike) (explained_alike P Q (λ h e. sym (alike h e))) events ms it (told_answer line.answer) are is found

-- ---- a witness

-- the events of what came for certain
pub plays_seen : (P Q : Description) → AnswersAlike Q P → (ms : List Marked) (events : List Event) → Q.address ≤ 30 → AreProper events → sightings Q events ≡ shown_of Q (seen_in ms) → PlaysSeen P ms events
plays_seen P Q alike ms events low proper shown = record {
  proper = proper;
  plays = λ x.
      subst (FitsMasked (certain (maybe_in ms))) (sym (sym (sightings_alike Q P alike [] events) ∙ shown))
      ((mask_law.decided Q [] (certain (maybe_in ms)) low (certain_recording (maybe_in ms) (are_recording ms))).0 (some_alike (explained_alike P Q (λ h e. sym (alike h e))) (certain (maybe_in ms)) x));
}

pub is_played : (P : Description) (script : List ℕ) (ms : List Marked) (events : List Event) → StatesRecording script (maybe_in ms) → PlaysSeen P ms events → PlaysCertain P script events
is_played P script ms events states i = record { proper = i.proper; recording = maybe_in ms; states = states; plays = i.plays }

pub certain_all : (xs : List MaskedSighting) → certain (map Seen xs) ≡ xs
certain_all [] = refl
certain_all (x ∷ xs) = ap (λ l. x ∷ l) (certain_all xs)

-- of a reading that is explained, if one is
pub is_witness : (P D : Description) → AnswersAlike D P → (script : List ℕ) (ms settled : List Marked) (events : List Event) → IsSettled D [] ms settled → StatesRecording script (maybe_in ms) → PlaysSeen P settled events → IsWitness P script events
is_witness P D alike script ms settled events s states i =
    let same : certain (maybe_in settled) ≡ masked_in settled = ap certain (all_seen settled s.seen) ∙ certain_all (masked_in settled) in
    record {
      proper = i.proper;
      recording = maybe_in ms;
      states = states;
      reading = masked_in settled;
      reads = s.reads;
      plays = λ x.
          subst (λ l. ExplainsSome (IsExplained P) l → FitsMasked l (sightings P events)) same i.plays
          (some_alike (explained_alike D P alike) (masked_in settled) (s.explained (reading_alike (explained_alike P D (λ h e. sym (alike h e))) (maybe_in ms) x)));
    }

-- what a script states, read: what is played of it, and its witness as a script
pub played_by : (input : Option (List ℕ)) (ms : List Marked) (events : List Event) {G : Description → Type 0} → IfSome input (λ script. StatesRecording script (maybe_in ms))
    → ((P : Description) → G P → PlaysSeen P ms events) → IfSome input (λ script. (P : Description) → G P → PlaysCertain P script events)
played_by None ms events states plays = tt
played_by (Some script) ms events states plays = λ P g. is_played P script ms events states (plays P g)

pub witness_by : (input : Option (List ℕ)) (D : Description) (ms settled : List Marked) (text : List ℕ) (events : List Event) {G : Description → Type 0} → IsSettled D [] ms settled → IfSome input (λ script. StatesRecording script (maybe_in ms))
    → text ≡ script_text events → ((P : Description) → G P → AnswersAlike D P) → ((P : Description) → G P → PlaysSeen P settled events)
    → IfSome input (λ script. (events : List Event) × (text ≡ script_text events) × ((P : Description) → G P → IsWitness P script events))
witness_by None D ms settled text events s states is alike plays = tt
witness_by (Some script) D ms settled text events s states is alike plays = (events, is, λ P g. is_witness P D (alike P g) script ms settled events s states (plays P g))
