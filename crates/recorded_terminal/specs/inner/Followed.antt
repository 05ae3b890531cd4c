-- Sightings that were followed on each way, up to one for which none was left.
use Rattle.std.specs.Prelude.{◌≡◌, ◌+◌, ℕ, Bool, Option, Some, None, List, [], ◌∷◌, ◌++◌, length}
use Rattle.bus_word.specs.declared.cell.Cell.{Cell}
use Rattle.bus_legal.specs.Description.{Description}
use Rattle.terminal_rules.specs.declared.event.Event.{Event}
use Rattle.terminal_recordings.specs.Recordings.{Sighting, IsRecording}
use Rattle.terminal_recordings.specs.Completion.{next_status}
use Rattle.terminal_recordings.specs.MaybeGaps.{MaybeSighting, IsExplainedSomehow, IsMaybeRecording, certainly}
use Rattle.recorded_terminal.specs.declared.watch.Marked.{Marked}
use Rattle.recorded_terminal.specs.declared.watch.Unexplained.{Unexplained}
use Rattle.recorded_terminal.specs.declared.way.Way.{Way}
use Rattle.recorded_terminal.specs.Follows.{ShowTheSame}
use Rattle.recorded_terminal.specs.Marks.{maybe_in, seen_in}
use Rattle.recorded_terminal.specs.declared.flag_ways.FlagWays.{FlagWays}
use Rattle.recorded_terminal.specs.Watched.{instead_of, IsUnexplainedAt, LeadOnByFlags}
use Rattle.recorded_terminal.specs.Ways.{AnyCanGoOn, AreWays}

-- the next status word that is seen in each of these sightings or later, before others, shows what this shows
abbrev pub AreBefore : Option ℕ → List Marked → List Sighting → Type 0
AreBefore status [] later = Unit {0}
AreBefore status (m ∷ ms) later = ShowTheSame (next_status (seen_in (m ∷ ms) ++ later)) status × AreBefore status ms later

-- the ways with these sightings more
pub record AreFollowed {L : Type 0} (is_legal : L → Cell → Bool) (P : Description) (h : List Event) (ms : List Marked) (status : Option ℕ) (followed : List Marked) (olds news : List (Way L)) : Type 0 where
  pub ways : AreWays is_legal P h (ms ++ followed) news
  pub goes_on : (more : List MaybeSighting) (later : List Sighting) → IsMaybeRecording more → IsRecording later → AreBefore status followed (certainly more ++ later) →
      AnyCanGoOn is_legal P (maybe_in followed ++ more) olds → AnyCanGoOn is_legal P more news

-- one of the sightings is explained with another word, and not as it was seen; it is numbered from here on
pub record EndsAt {L : Type 0} (is_legal : L → Cell → Bool) (P : Description) (h : List Event) (ms : List Marked) (n : ℕ) (status : Option ℕ) (waiting : List Marked) (olds : List (Way L)) (it : Unexplained) : Type 0 where
  pub before : List Marked
  pub rest : List Marked
  pub all : waiting ≡ before ++ it.marked ∷ rest
  pub number : it.number ≡ n + length before
  pub possible : IsExplainedSomehow P h (maybe_in (ms ++ before) ++ instead_of it ∷ [])
  pub never : (later : List Sighting) → IsRecording later → AreBefore status waiting later → AnyCanGoOn is_legal P (maybe_in (before ++ it.marked ∷ [])) olds → ⊥

-- the ways for all flags lead on behind what was seen, or it is not explained
abbrev pub FollowedByFlags : {L : Type 0} → (L → Cell → Bool) → Description → List Event → List Marked → List (FlagWays L) → Option Unexplained → Type 0
FollowedByFlags is_legal P h ms parts None = LeadOnByFlags is_legal P h ms parts
FollowedByFlags is_legal P h ms parts (Some it) = IsUnexplainedAt P h ms it

abbrev pub Followed : {L : Type 0} → (L → Cell → Bool) → Description → List Event → List Marked → ℕ → Option ℕ → List Marked → List (Way L) → List (Way L) → Option Unexplained → Type 0
Followed is_legal P h ms n status waiting olds news None = AreFollowed is_legal P h ms status waiting olds news
Followed is_legal P h ms n status waiting olds news (Some it) = EndsAt is_legal P h ms n status waiting olds it
