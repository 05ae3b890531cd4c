-- How the ways of a recording take what is seen next.
use Rattle.std.specs.Prelude.{◌≡◌, ◌≤◌, ◌<◌, ◌*◌, ◌⊎◌, ℕ, Bool, true, Option, Some, None, List, [], ◌∷◌, ◌++◌, length}
use Rattle.std.specs.List.{AllByRecursion}
use Rattle.bus_word.specs.declared.word.Bus.{Bus}
use Rattle.bus_word.specs.declared.cell.Cell.{Cell}
use Rattle.bus_legal.specs.Description.{Description}
use Rattle.bus_terminal.specs.declared.answer.Sent.{Sent}
use Rattle.terminal_rules.specs.declared.event.Event.{Event}
use Rattle.terminal_recordings.specs.Recordings.{Sighting, IsRecording}
use Rattle.terminal_recordings.specs.Completion.{next_status}
use Rattle.terminal_recordings.specs.MaybeGaps.{MaybeSighting, Seen, MaybeGap, IsExplainedSomehow, IsMaybeRecording, certainly}
use Rattle.recorded_terminal.specs.declared.watch.Marked.{Marked}
use Rattle.recorded_terminal.specs.declared.way.Way.{Way}
use Rattle.recorded_terminal.specs.declared.ways.Instead.{Instead}
use Rattle.recorded_terminal.specs.Follows.{ShowTheSame}
use Rattle.recorded_terminal.specs.Marks.{maybe, maybe_in, most_ways, IsMaybeGapOn}
use Rattle.recorded_terminal.specs.Ways.{AnyOf, WaysHaveMet, Goes, CanGoOn, AnyCanGoOn, AreWays, masked_with}

-- a way is pushed, where there is room for it, or has met one that is there
abbrev pub Keeps : {L : Type 0} → (L → Cell → Bool) → List (Way L) → Way L → List (Way L) → Type 0
Keeps is_legal olds way news = ((news ≡ olds ++ way ∷ []) × (length olds < most_ways)) ⊎ ((news ≡ olds) × AnyOf (WaysHaveMet is_legal way) olds)

-- what was sent on the first way
abbrev pub SentFirst : {L : Type 0} → List (Way L) → Option Sent → Type 0
SentFirst [] sent = Unit {0}
SentFirst (w ∷ ws) sent = sent ≡ w.sent

-- the ways that are left stand where some did on which just what was seen was sent
pub record LeftOf {L : Type 0} (is_legal : L → Cell → Bool) (olds news : List (Way L)) : Type 0 where
  pub goes : (P : Description) (h : List Event) (ms : List Marked) → AllByRecursion (λ w. w.is_left ≡ true → Goes is_legal P h ms w) olds → AllByRecursion (Goes is_legal P h ms) news
  pub goes_on : (P : Description) (more : List MaybeSighting) → AnyOf (λ w. (w.is_left ≡ true) × CanGoOn is_legal P more w) olds → AnyCanGoOn is_legal P more news
  pub few : length news ≤ length olds

-- the second stand where the first do
pub record AreCopies {L : Type 0} (is_legal : L → Cell → Bool) (olds news : List (Way L)) : Type 0 where
  pub goes : (P : Description) (h : List Event) (ms : List Marked) → AllByRecursion (Goes is_legal P h ms) olds → AllByRecursion (Goes is_legal P h ms) news
  pub goes_on : (P : Description) (more : List MaybeSighting) → AnyCanGoOn is_legal P more olds → AnyCanGoOn is_legal P more news
  pub long : length news ≡ length olds

-- a sighting is followed by others, and by more behind them, and the next status word shows what this shows
pub record AreToldNext (status : Option ℕ) (m : Marked) (more : List MaybeSighting) (later : List Sighting) : Type 0 where
  pub are_more : IsMaybeRecording more
  pub are_later : IsRecording later
  pub next : ShowTheSame (next_status (certainly (maybe m ∷ more) ++ later)) status

-- a gap on this bus may have come or not
pub record Splits {L : Type 0} (is_legal : L → Cell → Bool) (b : Bus) (status : Option ℕ) (olds news : List (Way L)) : Type 0 where
  pub goes : (P : Description) (h : List Event) (ms : List Marked) (m : Marked) → IsMaybeGapOn b m → AllByRecursion (Goes is_legal P h ms) olds → AllByRecursion (Goes is_legal P h (ms ++ m ∷ [])) news
  pub goes_on : (P : Description) (h : List Event) (ms : List Marked) (m : Marked) (more : List MaybeSighting) (later : List Sighting) → P.address ≤ 30 → IsMaybeGapOn b m → AreToldNext status m more later →
      AllByRecursion (Goes is_legal P h ms) olds → AnyCanGoOn is_legal P (MaybeGap b ∷ more) olds → AnyCanGoOn is_legal P more news
  pub some : (olds ≡ [] → ⊥) → news ≡ [] → ⊥
  pub few : length news ≤ 2 * length olds
  pub most : length olds ≤ most_ways → length news ≤ most_ways

-- the ways with a sighting more: what comes next is explained from one of them on, if it is with the sighting before it
pub record StepsTo {L : Type 0} (is_legal : L → Cell → Bool) (P : Description) (h : List Event) (ms : List Marked) (m : Marked) (status : Option ℕ) (olds news : List (Way L)) : Type 0 where
  pub ways : AreWays is_legal P h (ms ++ m ∷ []) news
  pub goes_on : (more : List MaybeSighting) (later : List Sighting) → AreToldNext status m more later → AnyCanGoOn is_legal P (maybe m ∷ more) olds → AnyCanGoOn is_legal P more news

-- no way is left: with another word the sighting is explained, and as it was seen it isn't
pub record LeavesNone {L : Type 0} (is_legal : L → Cell → Bool) (P : Description) (h : List Event) (ms : List Marked) (m : Marked) (status : Option ℕ) (olds : List (Way L)) (sent : Option Sent) : Type 0 where
  pub possible : IsExplainedSomehow P h (maybe_in ms ++ Seen (masked_with m sent) ∷ [])
  pub never : (more : List MaybeSighting) (later : List Sighting) → AreToldNext status m more later → AnyCanGoOn is_legal P (maybe m ∷ more) olds → ⊥

abbrev pub SeesNext : {L : Type 0} → (L → Cell → Bool) → Description → List Event → List Marked → Marked → Option ℕ → List (Way L) → List (Way L) → Option Instead → Type 0
SeesNext is_legal P h ms m status olds news None = StepsTo is_legal P h ms m status olds news
SeesNext is_legal P h ms m status olds news (Some instead) = LeavesNone is_legal P h ms m status olds instead.sent
