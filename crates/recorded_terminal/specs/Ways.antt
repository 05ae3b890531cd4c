-- The ways that a recording can have gone, where gaps in it may have come or not.
use Rattle.std.specs.Prelude.{◌≡◌, ◌↔◌, ◌⊎◌, ◌≤◌, ◌^◌, ℕ, Bool, true, false, Option, None, List, [], ◌∷◌, length, IsTrue}
use Rattle.std.specs.List.{AllByRecursion}
use Rattle.bus_word.specs.declared.word.Bus.{Bus}
use Rattle.bus_word.specs.declared.word.Bus.TheVariants.{A, B}
use Rattle.bus_word.specs.declared.cell.Cell.{Cell}
use Rattle.bus_legal.specs.Description.{Description}
use Rattle.terminal_rules.specs.declared.event.Event.{Event}
use Rattle.terminal_rules.specs.declared.event.Event.TheVariants.{Gap}
use Rattle.terminal_rules.specs.History.{run}
use Rattle.terminal_rules.specs.Out.{Sending, sent_in, out}
use Rattle.terminal_rules.specs.Past.{past, history_after}
use Rattle.terminal_rules.specs.Same.{AreProper}
use Rattle.terminal_state.specs.Buses.{on_bus}
use Rattle.terminal_state.specs.declared.buses.OnBuses.{OnBuses}
use Rattle.terminal_recordings.specs.Recordings.{sightings_from}
use Rattle.terminal_recordings.specs.Masks.{MaskedSighting, FitsWord, FitsMasked}
use Rattle.terminal_recordings.specs.MaybeGaps.{MaybeSighting, IsReadingOf, IsExplainedSomehow, is_quiet_after, HaveMet}
use Rattle.recorded_terminal.specs.declared.watch.Marked.{Marked}
use Rattle.recorded_terminal.specs.declared.way.Way.{Way}
use Rattle.bus_terminal.specs.declared.answer.Sent.{Sent}
use Rattle.recorded_terminal.specs.SentWords.{word_shown}
use Rattle.recorded_terminal.specs.Follows.{FollowsAt, told_by}
use Rattle.recorded_terminal.specs.Marks.{maybe_in, maybe_gaps, most_ways}

abbrev pub AnyOf : {A : Type 0} → (A → Type 0) → List A → Type 0
AnyOf Holds [] = ⊥
AnyOf Holds (x ∷ xs) = Holds x ⊎ AnyOf Holds xs

-- where a bus is quiet, no word or noise came there since its last gap
abbrev pub AreQuiet : OnBuses → Description → List Event → Type 0
AreQuiet quiet P h = (b : Bus) → on_bus b quiet ≡ true → run (past P h) b ≡ []

-- the buses that are quiet after an event
abbrev pub quiet_with : Event → OnBuses → OnBuses
quiet_with e quiet = record { a = is_quiet_after e A quiet.a; b = is_quiet_after e B quiet.b }

-- a way stands at this history
pub record WayIsAt {L : Type 0} (is_legal : L → Cell → Bool) (P : Description) (h : List Event) (w : Way L) : Type 0 where
  pub follows : FollowsAt is_legal P h w.follower
  pub quiet : AreQuiet w.quiet P h

-- the history when a sighting comes before which this word is sent, or none, where this is the next status word that is seen
abbrev pub told_then : Description → List Event → Option ℕ → Option Sending → List Event
told_then P h status sent = history_after (told_by P h status sent) h

-- A way takes a sighting: what was sent on it, whether that is as seen, and where it stands then.
pub record WaySees {L : Type 0} (is_legal : L → Cell → Bool) (status : Option ℕ) (m : Marked) (old new : Way L) : Type 0 where
  pub stands : (P : Description) (h : List Event) → WayIsAt is_legal P h old → WayIsAt is_legal P (m.sighting.event ∷ told_then P h status (word_shown m.sighting.sent)) new
  pub sent : (P : Description) (h : List Event) → WayIsAt is_legal P h old → word_shown new.sent ≡ sent_in (out P (told_then P h status (word_shown m.sighting.sent)) m.sighting.event)
  pub left : IsTrue new.is_left ↔ FitsWord m.any_word (word_shown m.sighting.sent) (word_shown new.sent)

-- each of one list and that at the same place in another
abbrev pub EachBy : {A : Type 0} → (A → A → Type 0) → List A → List A → Type 0
EachBy By [] [] = Unit {0}
EachBy By (x ∷ xs) (y ∷ ys) = By x y × EachBy By xs ys
EachBy By _ _ = ⊥

abbrev pub EachSees : {L : Type 0} → (L → Cell → Bool) → Option ℕ → Marked → List (Way L) → List (Way L) → Type 0
EachSees is_legal status m olds news = EachBy (WaySees is_legal status m) olds news

-- wherever the first stands, the second stands after a gap on this bus
abbrev pub WayTakesGap : {L : Type 0} → (L → Cell → Bool) → Bus → Option ℕ → Way L → Way L → Type 0
WayTakesGap is_legal b status w v = (P : Description) (h : List Event) → WayIsAt is_legal P h w → WayIsAt is_legal P (Gap b ∷ told_then P h status None) v

-- wherever two ways stand, they have met
abbrev pub WaysHaveMet : {L : Type 0} → (L → Cell → Bool) → Way L → Way L → Type 0
WaysHaveMet is_legal w v = (P : Description) (h k : List Event) → WayIsAt is_legal P h w → WayIsAt is_legal P k v → HaveMet P h k

-- Just what was seen came about by this history, after another: events that can come led there, and what is seen of them fits a
-- reading.
pub record IsWay (P : Description) (h : List Event) (ms : List Marked) (k : List Event) : Type 0 where
  pub events : List Event
  pub proper : AreProper events
  pub history : history_after events h ≡ k
  pub reading : List MaskedSighting
  pub reads : IsReadingOf (maybe_in ms) reading
  pub fits : FitsMasked reading (sightings_from P h events)

-- a way that what was seen can have gone
abbrev pub Goes : {L : Type 0} → (L → Cell → Bool) → Description → List Event → List Marked → Way L → Type 0
Goes is_legal P h ms w = (k : List Event) × WayIsAt is_legal P k w × IsWay P h ms k

-- what comes next is explained from one of the ways on
abbrev pub CanGoOn : {L : Type 0} → (L → Cell → Bool) → Description → List MaybeSighting → Way L → Type 0
CanGoOn is_legal P more w = (k : List Event) × WayIsAt is_legal P k w × IsExplainedSomehow P k more

abbrev pub AnyCanGoOn : {L : Type 0} → (L → Cell → Bool) → Description → List MaybeSighting → List (Way L) → Type 0
AnyCanGoOn is_legal P more ws = AnyOf (CanGoOn is_legal P more) ws

-- These are ways that what was seen can have gone. There is one, each gap that may have come makes at most two of one,
-- and there are no more than are followed.
pub record AreWays {L : Type 0} (is_legal : L → Cell → Bool) (P : Description) (h : List Event) (ms : List Marked) (ws : List (Way L)) : Type 0 where
  pub goes : AllByRecursion (Goes is_legal P h ms) ws
  pub some : ws ≡ [] → ⊥
  pub few : length ws ≤ 2 ^ maybe_gaps (maybe_in ms)
  pub most : length ws ≤ most_ways

-- a sighting with this word in place of the one that was seen, or none
abbrev pub masked_with : Marked → Option Sent → MaskedSighting
masked_with m sent = record { sighting = record { event = m.sighting.event; sent = word_shown sent }; any_word = false }
