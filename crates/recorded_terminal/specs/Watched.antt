-- A recording that is watched from a history on, and the first sighting of it that no behaviour of the subsystem explains.
use Rattle.std.specs.Prelude.{◌≡◌, ◌+◌, ◌<◌, ◌≤◌, ◌^◌, ◌↔◌, IfSome, ℕ, Bool, Option, Some, None, List, [], ◌∷◌, ◌++◌, length}
use Rattle.std.specs.List.{AllByRecursion}
use Rattle.bus_word.specs.declared.cell.Cell.{Cell}
use Rattle.bus_legal.specs.Description.{Description}
use Rattle.terminal_rules.specs.declared.event.Event.{Event}
use Rattle.terminal_recordings.specs.Recordings.{Sighting, IsRecording, IsExplainedAfter}
use Rattle.terminal_recordings.specs.Completion.{next_status}
use Rattle.terminal_recordings.specs.MaybeGaps.{MaybeSighting, Seen, ExplainsReading, IsExplainedSomehow, IsMaybeRecording, certainly}
use Rattle.recorded_terminal.specs.declared.watch.Marked.{Marked}
use Rattle.recorded_terminal.specs.declared.watch.Unexplained.{Unexplained}
use Rattle.recorded_terminal.specs.declared.watch.Watch.{Watch}
use Rattle.recorded_terminal.specs.Marks.{maybe_in, seen_in}
use Rattle.recorded_terminal.specs.declared.flag_ways.FlagWays.{FlagWays}
use Rattle.recorded_terminal.specs.declared.way.Way.{Way}
use Rattle.recorded_terminal.specs.Follows.{ShowTheSame}
use Rattle.recorded_terminal.specs.Ways.{AnyOf, AnyCanGoOn, AreWays, masked_with}

-- the sighting, with the word that can be sent in place of the one that was seen
abbrev pub instead_of : Unexplained → MaybeSighting
instead_of it = Seen (masked_with it.marked it.sent)

-- The sightings before one are explained, and with it they are not, but with another word sent in it, or none.
pub record IsUnexplainedBy (explains : List Sighting → Type 0) (ms : List Marked) (it : Unexplained) : Type 0 where
  pub before : List Marked
  pub later : List Marked
  pub all : ms ≡ before ++ it.marked ∷ later
  pub number : it.number ≡ length before
  pub explained : ExplainsReading explains (maybe_in before)
  pub unexplained : ExplainsReading explains (maybe_in (before ++ it.marked ∷ [])) → ⊥
  pub possible : ExplainsReading explains (maybe_in before ++ instead_of it ∷ [])

-- so it is after a history
abbrev pub IsUnexplainedAt : Description → List Event → List Marked → Unexplained → Type 0
IsUnexplainedAt P h ms it = IsUnexplainedBy (IsExplainedAfter P h) ms it

-- nothing is told exactly if what was seen is explained after a history, and else the first sighting that is not
pub record IsDecidedAt (P : Description) (h : List Event) (ms : List Marked) (first : Option Unexplained) : Type 0 where
  pub explained : (first ≡ None) ↔ IsExplainedSomehow P h (maybe_in ms)
  pub unexplained : IfSome first (IsUnexplainedAt P h ms)

-- The ways that what was seen can have gone, where the next status word shows the flags of this one: whatever comes then is explained
-- only from one of them on.
pub record LeadOn {L : Type 0} (is_legal : L → Cell → Bool) (P : Description) (h : List Event) (ms : List Marked) (status : Option ℕ) (ws : List (Way L)) : Type 0 where
  pub ways : AreWays is_legal P h ms ws
  pub goes_on : (more : List MaybeSighting) (later : List Sighting) → IsMaybeRecording more → IsRecording later → ShowTheSame (next_status (certainly more ++ later)) status →
      IsExplainedSomehow P h (maybe_in ms ++ more) → AnyCanGoOn is_legal P more ws

-- the same for each status word of a list, where every one shows the flags of one of them
pub record LeadOnByFlags {L : Type 0} (is_legal : L → Cell → Bool) (P : Description) (h : List Event) (ms : List Marked) (parts : List (FlagWays L)) : Type 0 where
  pub each : AllByRecursion (λ o. LeadOn is_legal P h ms (Some o.status) o.ways.items) parts
  pub every : (bits : ℕ) → AnyOf (λ o. ShowTheSame (Some bits) (Some o.status)) parts
  pub few : length parts ≤ 16

-- the ways that lead on, whatever the next status word shows; or those for the flags that it can show
abbrev pub LeadOnBy : {L : Type 0} → (L → Cell → Bool) → Description → List Event → List Marked → List (Way L) → List (FlagWays L) → Type 0
LeadOnBy is_legal P h ms ws [] = (status : Option ℕ) → LeadOn is_legal P h ms status ws
LeadOnBy is_legal P h ms ws parts = LeadOnByFlags is_legal P h ms parts

-- how many sightings wait for a status word, and no more
abbrev pub most_waiting : ℕ
most_waiting = 16384

-- All that was seen is explained so far: the ways have followed it up to those that wait, among which is no status word.
pub record IsFollowing {L : Type 0} (is_legal : L → Cell → Bool) (P : Description) (h : List Event) (ms : List Marked) (w : Watch L) : Type 0 where
  pub followed : List Marked
  pub all : ms ≡ followed ++ w.waiting.items
  pub leads : LeadOnBy is_legal P h followed w.ways.items w.by_flags.items
  pub few : length w.waiting.items < most_waiting
  pub none : next_status (seen_in w.waiting.items) ≡ None
  pub counted : w.followed ≡ length followed
  pub bound : w.followed + length w.waiting.items < 2 ^ 64

-- or the first sighting that nothing explains was found
abbrev pub WatchesBy : {L : Type 0} → (L → Cell → Bool) → Description → List Event → List Marked → Watch L → Option Unexplained → Type 0
WatchesBy is_legal P h ms w None = IsFollowing is_legal P h ms w
WatchesBy is_legal P h ms w (Some it) = IsUnexplainedAt P h ms it

-- a watch has seen these sightings, of a terminal of P after a history
abbrev pub Watches : {L : Type 0} → (L → Cell → Bool) → Description → List Event → List Marked → Watch L → Type 0
Watches is_legal P h ms w = (P.address ≤ 30) × WatchesBy is_legal P h ms w w.first
