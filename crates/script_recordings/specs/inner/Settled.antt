-- A reading of a recording in which gaps may have come.
use Rattle.std.specs.Prelude.{◌≡◌, ◌⊎◌, List, [], ◌∷◌, ◌++◌}
use Rattle.bus_word.specs.declared.word.Bus.{Bus}
use Rattle.bus_legal.specs.Description.{Description}
use Rattle.terminal_rules.specs.declared.event.Event.{Event}
use Rattle.terminal_recordings.specs.Recordings.{IsExplainedAfter}
use Rattle.terminal_recordings.specs.Masks.{ExplainsSome}
use Rattle.terminal_recordings.specs.MaybeGaps.{IsReadingOf, IsExplainedSomehow, gap_on}
use Rattle.recorded_terminal.specs.declared.watch.Marked.{Marked}
use Rattle.recorded_terminal.specs.Marks.{IsSeen, IsMaybeGapOn, masked, maybe_in, masked_in}

-- no gap may have come or not
abbrev pub AllSeen : List Marked → Type 0
AllSeen [] = Unit {0}
AllSeen (m ∷ ms) = IsSeen m × AllSeen ms

-- a reading after a history, which is explained if one is
pub record IsSettled (P : Description) (h : List Event) (ms settled : List Marked) : Type 0 where
  pub seen : AllSeen settled
  pub reads : IsReadingOf (maybe_in ms) (masked_in settled)
  pub explained : IsExplainedSomehow P h (maybe_in ms) → ExplainsSome (IsExplainedAfter P h) (masked_in settled)

-- the gap is left out: what comes behind it is explained without it
abbrev pub LeavesOut : Description → List Event → List Marked → List Marked → List Marked → Type 0
LeavesOut P h rest olds news = (news ≡ olds) × IsExplainedSomehow P h (maybe_in (olds ++ rest))

-- or it came: without it that is not
pub record LetsCome (P : Description) (h : List Event) (b : Bus) (rest olds news : List Marked) : Type 0 where
  pub gap : Marked
  pub seen : IsSeen gap
  pub is : masked gap ≡ gap_on b
  pub behind : news ≡ olds ++ gap ∷ []
  pub needed : IsExplainedSomehow P h (maybe_in (olds ++ rest)) → ⊥

-- a sighting is settled behind others, and before the rest: it came, or may have; then it is left out if the rest is explained without it
abbrev pub SettlesOne : Description → List Event → Marked → List Marked → List Marked → List Marked → Type 0
SettlesOne P h m rest olds news = (IsSeen m × (news ≡ olds ++ m ∷ [])) ⊎ ((b : Bus) × IsMaybeGapOn b m × (LeavesOut P h rest olds news ⊎ LetsCome P h b rest olds news))
