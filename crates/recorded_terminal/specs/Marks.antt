-- Sightings of a recording, with their places, as the definitions of recordings have them.
use Rattle.std.specs.Prelude.{◌≡◌, ℕ, suc, ◌<◌, ◌^◌, Bool, true, false, List, [], ◌∷◌, map}
use Rattle.bus_word.specs.declared.word.Bus.{Bus}
use Rattle.terminal_rules.specs.declared.event.Event.{Event}
use Rattle.terminal_rules.specs.declared.event.Event.TheVariants.{Gap}
use Rattle.terminal_recordings.specs.Recordings.{Sighting}
use Rattle.terminal_recordings.specs.Masks.{MaskedSighting, unmasked}
use Rattle.terminal_recordings.specs.MaybeGaps.{MaybeSighting, Seen, MaybeGap, certainly}
use Rattle.recorded_terminal.specs.declared.watch.Marked.{Marked}
use Rattle.recorded_terminal.specs.Sightings.{shown_sighting}

-- a sighting, with the word that may be left open
abbrev pub masked : Marked → MaskedSighting
masked m = record { sighting = shown_sighting m.sighting; any_word = m.any_word }

-- a gap that may have come, or else what was seen
abbrev pub maybe_of : Event → Bool → MaskedSighting → MaybeSighting
maybe_of (Gap b) true m = MaybeGap b
maybe_of e maybe m = Seen m

abbrev pub maybe : Marked → MaybeSighting
maybe m = maybe_of m.sighting.event m.is_maybe (masked m)

-- a gap on this bus that may have come, or not so
abbrev pub IsMaybeGapOn : Bus → Marked → Type 0
IsMaybeGapOn b m = maybe m ≡ MaybeGap b

abbrev pub IsSeen : Marked → Type 0
IsSeen m = maybe m ≡ Seen (masked m)

-- how many gaps may have come
abbrev pub maybe_gaps : List MaybeSighting → ℕ
maybe_gaps [] = 0
maybe_gaps (MaybeGap b ∷ xs) = suc (maybe_gaps xs)
maybe_gaps (Seen m ∷ xs) = maybe_gaps xs

-- how many ways are followed, and no more
abbrev pub most_ways : ℕ
most_ways = 64

-- the gaps that may have come leave room for more ways than are followed
abbrev pub HasManyWays : List MaybeSighting → Type 0
HasManyWays xs = most_ways < 2 ^ maybe_gaps xs

-- what was seen, without the places of the sightings
abbrev pub maybe_in : List Marked → List MaybeSighting
maybe_in ms = map maybe ms

-- of that what came for certain, with the words that stand where any may be
abbrev pub seen_in : List Marked → List Sighting
seen_in ms = certainly (maybe_in ms)

-- what was seen, where all of it came
abbrev pub masked_in : List Marked → List MaskedSighting
masked_in ms = map masked ms

-- with the words that stand where any may be
abbrev pub plainly : List Marked → List Sighting
plainly ms = unmasked (masked_in ms)

abbrev pub AllCame : List Marked → Type 0
AllCame [] = Unit {0}
AllCame (m ∷ ms) = (m.is_maybe ≡ false) × AllCame ms
