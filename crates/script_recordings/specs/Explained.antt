-- The first line of a script that no behaviour of the subsystem explains.
use Rattle.std.specs.Prelude.{ℕ, zero, suc, ◌≡◌, ◌+◌, ◌↔◌, false, Option, Some, None, IfSome, Ok, List, [], ◌∷◌, ◌++◌, length}
use Rattle.bus_legal.specs.Description.{Description}
use Rattle.terminal_rules.specs.declared.event.Event.{Event}
use Rattle.terminal_rules.specs.Same.{AreProper}
use Rattle.terminal_rules.specs.Out.{Sending, sending_out}
use Rattle.terminal_recordings.specs.Recordings.{Sighting, sightings, sightings_from, IsExplained}
use Rattle.terminal_recordings.specs.Later.{IsExplainedLater, IsExplainedAnyTime, no_gaps, ShutDown, shutting, shut_history}
use Rattle.terminal_recordings.specs.MaybeGaps.{MaybeSighting, Seen, IsReadingOf, ExplainsReading, certain, fresh_part}
use Rattle.terminal_recordings.specs.Masks.{MaskedSighting, FitsMasked, ExplainsSome}
use Rattle.recorded_terminal.specs.Marks.{HasManyWays}
use Rattle.script_lines.specs.Transcript.{answer_text}
use Rattle.rt1553_verify.specs.declared.stated.ScriptWarning.{ScriptWarning}
use Rattle.rt1553_verify.specs.Stated.{StatedEvent, stated_through}
use Rattle.rt1553_verify.specs.Verify.{ToldAnswer, told_answer}
use Rattle.script_recordings.specs.declared.explaining.UnexplainedLine.{UnexplainedLine}
use Rattle.script_recordings.specs.Parts.{split_parts}
use Rattle.script_recordings.specs.Seen.{stated_word, IsSeenAs, AreToldAs, StatesRecording, StateWords, recorded_warning}

-- what is told of the event of a line in which one word, or none, was seen, or one that is left open, and another can be sent, or none
abbrev pub told_at : ℕ → MaskedSighting → Option Sending → ToldAnswer
told_at line seen sent = record { line = line; expected = stated_word seen.any_word seen.sighting.sent; came = answer_text (sending_out sent) }

-- a sighting with another word in place of the one that was seen, or none
abbrev pub with_other : MaskedSighting → Option Sending → MaskedSighting
with_other seen other = record { sighting = record { event = seen.sighting.event; sent = other }; any_word = false }

-- The events before one are explained as they are stated, and with this one they are not, but with another word sent in it, or none:
-- of that is told.
pub record IsFirstUnexplainedBy (explains : List Sighting → Type 0) (events : List StatedEvent) (told : ToldAnswer) : Type 0 where
  pub front : List StatedEvent
  pub stated : StatedEvent
  pub rest : List StatedEvent
  pub all : events ≡ front ++ stated ∷ rest
  pub before : List MaybeSighting
  pub sighting : MaskedSighting
  pub other : Option Sending
  pub are_told : AreToldAs front before
  pub is_seen : IsSeenAs stated sighting
  pub explained : ExplainsReading explains before
  pub unexplained : ExplainsReading explains (before ++ Seen sighting ∷ []) → ⊥
  pub possible : ExplainsReading explains (before ++ Seen (with_other sighting other) ∷ [])
  pub is_told : told ≡ told_at stated.line sighting other

-- the first of two, if there is one
abbrev pub first_some : {A : Type 0} → Option A → Option A → Option A
first_some None b = b
first_some (Some a) b = Some a

-- what is told of a line, where something is
abbrev pub told_first : Option UnexplainedLine → Option ToldAnswer
told_first None = None
told_first (Some line) = Some (told_answer line.answer)

-- What is told of events that are one part, from power-up: nothing exactly if some behaviour of the subsystem explains them, else the first of them
-- that none explains.
pub record IsJudgedFirst (P : Description) (events : List StatedEvent) (told : Option ToldAnswer) (recording : List MaybeSighting) : Type 0 where
  pub are_told : AreToldAs events recording
  pub explained : (told ≡ None) ↔ ExplainsReading (IsExplained P) recording
  pub first : IfSome told (IsFirstUnexplainedBy (IsExplained P) events)

-- What is told of events that are one part, of a unit that was on before. Judged is what comes after the slot of a line, which ends a pause. Nothing is
-- told exactly if that is explained, whatever came before the pause; else the first of its events that nothing explains.
pub record IsJudgedAfter (D : Description) (events : List StatedEvent) (after : ℕ) (told : Option ToldAnswer) (judged : List MaybeSighting) : Type 0 where
  pub front : List StatedEvent
  pub pause : StatedEvent
  pub fresh : List StatedEvent
  pub all : events ≡ front ++ pause ∷ fresh
  pub line : after ≡ pause.line
  pub recording : List MaybeSighting
  pub are_told : AreToldAs events recording
  pub judged_told : AreToldAs fresh judged
  pub is_fresh : fresh_part D no_gaps recording ≡ Some judged
  pub explained : (told ≡ None) ↔ ExplainsReading (IsExplainedLater D) judged
  pub first : IfSome told (IsFirstUnexplainedBy (IsExplainedLater D) fresh)

-- nothing of a part begins afresh after a pause
abbrev pub BeginsNowhere : Description → List StatedEvent → Type 0
BeginsNowhere D events = (recording : List MaybeSighting) × AreToldAs events recording × (fresh_part D no_gaps recording ≡ None)

-- what is told of a part, the line after which it is judged, and what is judged of it: None, and nothing, where nothing begins afresh
abbrev pub IsJudgedLater : Description → List StatedEvent → Option ℕ → Option ToldAnswer → List MaybeSighting → Type 0
IsJudgedLater D events None told judged = (told ≡ None) × (judged ≡ []) × BeginsNowhere D events
IsJudgedLater D events (Some line) told judged = IsJudgedAfter D events line told judged

-- a part begins with so many stretches, in each of which the gaps that may have come leave room for more ways than are followed; the rest is behind them
abbrev pub IsBehindStretches : ℕ → List StatedEvent → List StatedEvent → Type 0
IsBehindStretches zero events rest = events ≡ rest
IsBehindStretches (suc n) events rest =
    (front : List StatedEvent) × (later : List StatedEvent) × (events ≡ front ++ later) × ((recording : List MaybeSighting) × AreToldAs front recording × HasManyWays recording)
    × IsBehindStretches n later rest

-- what is told of a part: of what is behind so many stretches
abbrev pub IsJudgedBehind : Description → ℕ → List StatedEvent → Option ℕ → Option ToldAnswer → List MaybeSighting → Type 0
IsJudgedBehind D n events after told judged = (rest : List StatedEvent) × IsBehindStretches n events rest × IsJudgedLater D rest after told judged

-- so it is from power-up, where the part begins with such a stretch; else of the whole part
abbrev pub IsJudgedAtFirst : Description → Description → ℕ → List StatedEvent → Option ToldAnswer → List MaybeSighting → Type 0
IsJudgedAtFirst P D zero events told judged = IsJudgedFirst P events told judged
IsJudgedAtFirst P D (suc n) events told judged = (after : Option ℕ) × IsJudgedBehind D (suc n) events after told judged

-- What is told of parts, one after the other: the first that is told of any, and the line after which the first of them is judged that is; judged
-- is what is judged of each, behind so many stretches in all.
abbrev pub AreJudgedLater : Description → List (List StatedEvent) → Option ℕ → Option ToldAnswer → ℕ → List MaybeSighting → Type 0
AreJudgedLater D [] after told stretches judged = (after ≡ None) × (told ≡ None) × (stretches ≡ 0) × (judged ≡ [])
AreJudgedLater D (events ∷ parts) after told stretches judged =
    (line : Option ℕ) × (lines : Option ℕ) × (one : Option ToldAnswer) × (others : Option ToldAnswer) × (n : ℕ) × (m : ℕ) × (seen : List MaybeSighting) × (more : List MaybeSighting)
    × IsJudgedBehind D n events line one seen × AreJudgedLater D parts lines others m more
    × (after ≡ first_some line lines) × (told ≡ first_some one others) × (stretches ≡ n + m) × (judged ≡ seen ++ more)

-- What is told of a script that states a recording, from power-up: of its first part, or else of the others, which are judged by what can be
-- reached. A warning says why what is judged shows nothing, where it does. So many words are stated, so many slots are in it in which the unit may
-- have been silent, and so many stretches in which too many ways are left.
pub record IsJudgedFrom (P D : Description) (script : List ℕ) (told : Option ToldAnswer) (warning : Option ScriptWarning) (answers silences stretches : ℕ) : Type 0 where
  pub events : List StatedEvent
  pub says : stated_through script ≡ Ok events
  pub front : List StatedEvent
  pub parts : List (List StatedEvent)
  pub split : split_parts events ≡ front ∷ parts
  pub first : Option ToldAnswer
  pub recording : List MaybeSighting
  pub in_first : ℕ
  pub judged_first : IsJudgedAtFirst P D in_first front first recording
  pub after : Option ℕ
  pub later : Option ToldAnswer
  pub in_others : ℕ
  pub judged : List MaybeSighting
  pub judged_later : AreJudgedLater D parts after later in_others judged
  pub is : told ≡ first_some first later
  pub warned : warning ≡ recorded_warning (recording ++ judged)
  pub stated : StateWords events answers
  pub counted : (silences ≡ length parts) × (stretches ≡ in_first + in_others)

-- What is told of a script that states a recording which began at any time: of all its parts, and the line after which the first of them is
-- judged that is.
pub record IsJudgedSince (D : Description) (script : List ℕ) (after : Option ℕ) (told : Option ToldAnswer) (warning : Option ScriptWarning) (answers silences stretches : ℕ) : Type 0 where
  pub events : List StatedEvent
  pub says : stated_through script ≡ Ok events
  pub judged : List MaybeSighting
  pub are_judged : AreJudgedLater D (split_parts events) after told stretches judged
  pub warned : warning ≡ recorded_warning judged
  pub stated : StateWords events answers
  pub counted : length (split_parts events) ≡ suc silences

-- no part of the recording of a script begins afresh after a pause
abbrev pub HasNoPart : Description → List ℕ → Type 0
HasNoPart D script = (recording : List MaybeSighting) × StatesRecording script recording × (fresh_part D no_gaps recording ≡ None)

-- one of the parts of a script is such that no behaviour of the subsystem explains what is behind stretches of it, whenever that began
pub record NothingExplains (P : Description) (script : List ℕ) : Type 0 where
  pub before : List (List StatedEvent)
  pub part : List StatedEvent
  pub behind : List (List StatedEvent)
  pub events : List StatedEvent
  pub says : stated_through script ≡ Ok events
  pub split : split_parts events ≡ before ++ part ∷ behind
  pub stretches : ℕ
  pub rest : List StatedEvent
  pub is_behind : IsBehindStretches stretches part rest
  pub recording : List MaybeSighting
  pub are_told : AreToldAs rest recording
  pub never : ExplainsReading (IsExplainedAnyTime P) recording → ⊥

-- Events that can come, of which just that is seen which came for certain, if some behaviour of the subsystem explains that. Gaps that may
-- have come are left out.
pub record PlaysCertain (P : Description) (script : List ℕ) (events : List Event) : Type 0 where
  pub proper : AreProper events
  pub recording : List MaybeSighting
  pub states : StatesRecording script recording
  pub plays : ExplainsSome (IsExplained P) (certain recording) → FitsMasked (certain recording) (sightings P events)

-- events that can come, of which just a reading of what the script states is seen, if some behaviour of the subsystem explains it
pub record IsWitness (P : Description) (script : List ℕ) (events : List Event) : Type 0 where
  pub proper : AreProper events
  pub recording : List MaybeSighting
  pub states : StatesRecording script recording
  pub reading : List MaskedSighting
  pub reads : IsReadingOf recording reading
  pub plays : ExplainsReading (IsExplained P) recording → FitsMasked reading (sightings P events)

-- Events that can come, of a recording that began at any time: they shut transmitters down, and after that just a reading of the part is seen
-- which begins afresh after a pause, if it is explained, whatever came before.
pub record IsLaterWitness (D : Description) (script : List ℕ) (events : List Event) : Type 0 where
  pub proper : AreProper events
  pub front : List MaybeSighting
  pub part : List MaybeSighting
  pub states : StatesRecording script (front ++ part)
  pub is_part : fresh_part D no_gaps (front ++ part) ≡ Some part
  pub reading : List MaskedSighting
  pub reads : IsReadingOf part reading
  pub shut : ShutDown
  pub behaviour : List Event
  pub begins : events ≡ shutting D shut ++ behaviour
  pub plays : ExplainsReading (IsExplainedLater D) part → FitsMasked reading (sightings_from D (shut_history D shut) behaviour)
