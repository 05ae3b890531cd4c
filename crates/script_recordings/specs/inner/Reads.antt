-- What is read of a recording, sighting by sighting.
use Rattle.std.specs.Prelude.{◌≡◌, ◌≢◌, ◌⊎◌, ℕ, true, false, Option, Some, None, List, [], ◌∷◌, ◌++◌, Result, Ok, Err}
use Rattle.terminal_recordings.specs.MaybeGaps.{MaybeSighting}
use Rattle.recorded_terminal.specs.declared.watch.Marked.{Marked}
use Rattle.recorded_terminal.specs.declared.watch.Unexplained.{Unexplained}
use Rattle.recorded_terminal.specs.declared.later.FreshPart.{FreshPart}
use Rattle.recorded_terminal.specs.SentWords.{word_shown}
use Rattle.recorded_terminal.specs.Marks.{masked, maybe}
use Rattle.recorded_terminal.specs.declared.watch.WatchFault.{WatchFault}
use Rattle.recorded_terminal.specs.declared.watch.WatchFault.TheVariants as watch
use Rattle.rt1553_verify.specs.declared.stated.StatedFault.{StatedFault}
use Rattle.rt1553_verify.specs.declared.stated.StatedFault.TheVariants.{Memory, Read}
use Rattle.rt1553_verify.specs.Stated.{StatedEvent, then_events}
use Rattle.rt1553_verify.specs.Verify.{told_answer}
use Rattle.script_recordings.specs.declared.explaining.UnexplainedLine.{UnexplainedLine}
use Rattle.script_recordings.specs.Explained.{told_at}
use Rattle.script_recordings.specs.declared.reading.RecordingFault.{RecordingFault}
use Rattle.script_recordings.specs.declared.reading.RecordingFault.TheVariants.{Script, TooManyWays}
use Rattle.script_recordings.specs.Parts.{is_silence}
use Rattle.script_recordings.specs.Seen.{IsToldAs, AreToldAs, IsUnseenAs}

abbrev pub Left : Type 0
Left = Option (Result (List StatedEvent) StatedFault)

-- a fault of a watch
abbrev pub watch_fault_of : WatchFault → RecordingFault
watch_fault_of watch.Memory = Script Memory
watch_fault_of watch.TooManyWays = TooManyWays

-- an event is told so, in this line
abbrev pub IsMarkedAs : StatedEvent → Marked → Type 0
IsMarkedAs s m = IsToldAs s (maybe m) × (m.line ≡ s.line)

-- event by event
abbrev pub AreMarkedAs : List StatedEvent → List Marked → Type 0
AreMarkedAs [] [] = Unit {0}
AreMarkedAs (s ∷ ss) (m ∷ ms) = IsMarkedAs s m × AreMarkedAs ss ms
AreMarkedAs _ _ = ⊥

-- what a watch gives, unless too many ways are left or memory runs out
abbrev pub IsUnlessMany : {T : Type 0} → Result T WatchFault → Option T → Type 0
IsUnlessMany (Ok it) (Some given) = given ≡ it
IsUnlessMany (Err watch.TooManyWays) None = Unit {0}
IsUnlessMany _ _ = ⊥

-- the fault says nothing of the script
abbrev pub SaysNothing : RecordingFault → Type 0
SaysNothing fault = (fault ≡ Script Memory) ⊎ (fault ≡ Script Read)

-- what is left is read for a fault of the script, and else this one is given
abbrev pub RefusesRest : Left → RecordingFault → RecordingFault → Type 0
RefusesRest None fault given = Unit {0}
RefusesRest (Some (Ok ss)) fault given = (given ≡ fault) ⊎ SaysNothing given
RefusesRest (Some (Err other)) fault given = (given ≡ Script other) ⊎ SaysNothing given

-- these events come next in what is left: up to one with which a part ends, in this line, or all that are left
abbrev pub ReadsPart : Left → Left → Option ℕ → List StatedEvent → Type 0
ReadsPart None new silence events = Unit {0}
ReadsPart (Some said) new None events = said ≡ Ok events
ReadsPart (Some said) new (Some line) events =
    (s : StatedEvent) × (later : Result (List StatedEvent) StatedFault) × (new ≡ Some later) × (said ≡ then_events (events ++ s ∷ []) later) × (is_silence s ≡ true) × (line ≡ s.line)

-- so they do, a sighting each, and this holds of them
abbrev pub ReadsThen : Left → Left → Option ℕ → (List StatedEvent → Type 0) → Type 0
ReadsThen None new silence Holds = Unit {0}
ReadsThen (Some said) new silence Holds =
    (events : List StatedEvent) × ReadsPart (Some said) new silence events × ((xs : List MaybeSighting) × AreToldAs events xs) × Holds events

-- a part ends here
abbrev pub EndsPart : Left → Left → Option ℕ → Type 0
EndsPart left new silence = ReadsPart left new silence []

-- the sighting that comes next is that of the first event that is left, or a fault is
abbrev pub NextSeen : Left → Left → Result (Option Marked) RecordingFault → Type 0
NextSeen None new result = Unit {0}
NextSeen (Some said) new (Ok None) = Unit {0}
NextSeen (Some said) new (Ok (Some m)) =
    (s : StatedEvent) × (later : Result (List StatedEvent) StatedFault) × (new ≡ Some later) × (said ≡ then_events (s ∷ []) later) × IsMarkedAs s m
NextSeen (Some said) new (Err (Script fault)) = fault ≢ Memory → fault ≢ Read → said ≡ Err fault
NextSeen (Some said) new (Err fault) = (s : StatedEvent) × (rest : List StatedEvent) × (said ≡ Ok (s ∷ rest)) × (is_silence s ≡ false) × IsUnseenAs s fault

-- what is told of the first sighting that nothing explains, where there is one
abbrev pub TellsUnexplained : Option Unexplained → Option UnexplainedLine → Type 0
TellsUnexplained None None = Unit {0}
TellsUnexplained (Some it) (Some line) = told_answer line.answer ≡ told_at it.marked.line (masked it.marked) (word_shown it.sent)
TellsUnexplained _ _ = ⊥

-- what is told of the part that is judged, where one is
abbrev pub TellsJudged : Option FreshPart → Option ℕ → Option UnexplainedLine → Type 0
TellsJudged None None None = Unit {0}
TellsJudged (Some it) (Some line) told = (line ≡ it.after) × TellsUnexplained it.first told
TellsJudged _ _ _ = ⊥
