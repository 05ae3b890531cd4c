-- The verdict on a script: it passes, or fails, or it is not judged; and the status of one that is refused.
use Rattle.std.specs.Prelude.{ℕ, zero, suc, ◌≤◌, ◌==◌, Option, Some, None, is_none, option_map, ◌≡◌, ◌⊎◌, Bool, true, false, not, if◌then◌else◌, List, [], ◌∷◌, map, filter, length, Result, Ok, Err}
use Rattle.bus_legal.specs.Description.{Description}
use Rattle.bus_legal.specs.Parts.{Parts, description_in}
use Rattle.bus_legal.specs.Reach.{reach}
use Rattle.terminal_rules.specs.declared.event.Event.{Event}
use Rattle.rt1553_verify.specs.Stated.{StatedEvent, seen_on_bus, stated_in, states_answer, stated_warning}
use Rattle.rt1553_verify.specs.Verify.{ToldAnswer, verified, verified_on_bus}
use Rattle.script_lines.specs.EventLine.{script_text}
use Rattle.script_recordings.specs.Explained.{IsJudgedFrom, IsJudgedSince, NothingExplains, IsWitness, IsLaterWitness, HasNoPart}
use Rattle.script_recordings.specs.declared.reading.RecordingFault.{RecordingFault}
use Rattle.script_recordings.specs.declared.reading.RecordingFault.TheVariants as recording
use Rattle.rt1553_verify.specs.declared.stated.ScriptWarning.{ScriptWarning}
use Rattle.rt1553_report.specs.Results.{outcome_answers, outcome_verdict}
use Rattle.rt1553_report.specs.Verdict.{verdict_of}
use Rattle.rt1553_report.specs.declared.result.ScriptOutcome.{ScriptOutcome}
use Rattle.rt1553_report.specs.declared.verdict.Unjudged.{Unjudged}
use Rattle.rt1553_report.specs.declared.verdict.Unjudged.TheVariants.{Unstated, NoPart, TooManyWays}
use Rattle.rt1553_report.specs.declared.verdict.ScriptVerdict.{ScriptVerdict}
use Rattle.rt1553_report.specs.declared.verdict.ScriptVerdict.TheVariants.{Failed}
use Rattle.rt1553_tool_args.specs.declared.command.ScriptKind.{ScriptKind}
use Rattle.rt1553_tool_args.specs.declared.command.ScriptKind.TheVariants.{Test, BusTest, Recording, LaterRecording}
use Rattle.tool_verify.specs.declared.compared.Compared.{Compared}
use Rattle.tool_verify.specs.declared.compared.ScriptFault.{ScriptFault}
use Rattle.tool_verify.specs.declared.compared.ScriptFault.TheVariants as script
use Rattle.rt1553_verify.specs.declared.stated.StatedFault.{StatedFault}
use Rattle.tool_verify.specs.declared.verify.PlayedTo.{PlayedTo}
use Rattle.tool_verify.specs.declared.verify.PlayedTo.TheVariants.{One, Folder}
use Rattle.tool_files.specs.declared.files.LoadedProfile.{LoadedProfile}
use Rattle.tool_files.specs.Loaded.{IsLoadedFile}
use Rattle.tool_files.specs.Status.{stated_status}

-- nothing is told
abbrev pub tells_nothing : Result (List ToldAnswer) StatedFault → Bool
tells_nothing (Ok []) = true
tells_nothing (Ok (told ∷ others)) = false
tells_nothing (Err fault) = false

-- the profile is the one that was given, or that of some file
abbrev pub IsPlayedTo : PlayedTo → LoadedProfile → Type 0
IsPlayedTo (One given) profile = profile ≡ given
IsPlayedTo (Folder folder) profile = IsLoadedFile profile

-- what is compared of what a script states: what the bus alone shows, or all
abbrev pub scoped : Bool → List StatedEvent → List StatedEvent
scoped on_bus stated = if on_bus then map seen_on_bus stated else stated

-- what is compared is what the bus alone shows, or all
abbrev pub test_kind : Bool → ScriptKind
test_kind on_bus = if on_bus then BusTest else Test

-- a recording is from power-up on, or began at any time
abbrev pub recording_kind : Bool → ScriptKind
recording_kind later = if later then LaterRecording else Recording

abbrev pub is_recording : ScriptKind → Bool
is_recording Recording = true
is_recording LaterRecording = true
is_recording _ = false

abbrev pub is_later : ScriptKind → Bool
is_later LaterRecording = true
is_later _ = false

-- why nothing of a script is judged, where nothing differs, by a warning of it
abbrev pub unjudged_by : Option ScriptWarning → Option Unjudged
unjudged_by warning = option_map Unstated warning

-- why nothing of a test is judged: it has no event, or states no answer
abbrev pub unjudged_test : Result (List StatedEvent) StatedFault → Option Unjudged
unjudged_test (Err fault) = None
unjudged_test (Ok events) = unjudged_by (stated_warning (not (length events == 0)) (length (filter states_answer events)))

-- a test states so many answers
abbrev pub TestStates : List ℕ → ℕ → Type 0
TestStates script answers = (events : List StatedEvent) × (stated_in script ≡ Ok events) × (answers ≡ length (filter states_answer events))

-- why a recording is not judged, or not all of it: in so many stretches of it too many ways are left, or that of a warning
abbrev pub unjudged_recorded : ℕ → Option ScriptWarning → Option Unjudged
unjudged_recorded zero warning = unjudged_by warning
unjudged_recorded (suc n) warning = Some TooManyWays

-- the same of one that began at any time: where no such stretch is in it, no part of it may begin afresh after a pause
abbrev pub unjudged_since : ℕ → Option ℕ → Option ScriptWarning → Option Unjudged
unjudged_since zero None warning = Some NoPart
unjudged_since zero (Some line) warning = unjudged_by warning
unjudged_since (suc n) after warning = Some TooManyWays

-- The verdict on a recording, for the terminal of P: it fails exactly if nothing explains one of its parts, as far as that is judged. What is explained
-- passes, if a word was sent in what is judged, and too many ways are left in no stretch of it; else it is not judged.
pub record SaysRecorded (P : Description) (script : List ℕ) (verdict : ScriptVerdict) (answers silences stretches : ℕ) : Type 0 where
  pub told : Option ToldAnswer
  pub warning : Option ScriptWarning
  pub judged : IsJudgedFrom P (reach P) script told warning answers silences stretches
  pub is : verdict ≡ verdict_of (is_none told) (unjudged_recorded stretches warning)

-- The verdict on a recording that began at any time, for the terminal of P, by what of P can be reached. It fails exactly if what is judged of one of
-- its parts is not explained, whatever came before; then nothing explains that, whenever it began. Without such a part, or a word
-- that was sent in it, and where too many ways are left in a stretch, it is not judged.
pub record SaysSince (P : Description) (script : List ℕ) (verdict : ScriptVerdict) (answers silences stretches : ℕ) (after : Option ℕ) : Type 0 where
  pub told : Option ToldAnswer
  pub warning : Option ScriptWarning
  pub judged : IsJudgedSince (reach P) script after told warning answers silences stretches
  pub is : verdict ≡ verdict_of (is_none told) (unjudged_since stretches after warning)
  pub never : verdict ≡ Failed → NothingExplains P script

-- It is the verdict for the terminal of P: on a test, by whether nothing is told of it, or of what the bus alone shows of it, and whether
-- it states an answer; and on a recording, by whether some behaviour of the subsystem explains it. So many answers are stated; in so many slots the unit
-- may have been silent, and in so many stretches too many ways are left; one that began at any time is judged after this line.
abbrev pub SaysBy : ScriptKind → Description → List ℕ → ScriptVerdict → ℕ → ℕ → ℕ → Option ℕ → Type 0
SaysBy Test P script verdict answers silences stretches after =
    (verdict ≡ verdict_of (tells_nothing (verified P script)) (unjudged_test (stated_in script))) × TestStates script answers × (silences ≡ 0) × (stretches ≡ 0) × (after ≡ None)
SaysBy BusTest P script verdict answers silences stretches after =
    (verdict ≡ verdict_of (tells_nothing (verified_on_bus P script)) (unjudged_test (stated_in script))) × TestStates script answers × (silences ≡ 0) × (stretches ≡ 0) × (after ≡ None)
SaysBy Recording P script verdict answers silences stretches after = SaysRecorded P script verdict answers silences stretches × (after ≡ None)
SaysBy LaterRecording P script verdict answers silences stretches after = SaysSince P script verdict answers silences stretches after

-- what was compared is the verdict for the terminal of which this can be reached
abbrev pub IsCompared : ScriptKind → Parts → List ℕ → Compared → Type 0
IsCompared kind value script it =
    (P : Description) → description_in value ≡ reach P → SaysBy kind P script (verdict_of (length it.wrong.items == 0) it.unjudged) it.answers it.silences it.stretches it.after

-- so is this verdict, without what is told of it on the standard error
abbrev pub SaysOf : ScriptKind → Parts → List ℕ → ScriptVerdict → ℕ → ℕ → Type 0
SaysOf kind value script verdict answers silences =
    (stretches : ℕ) × (after : Option ℕ) × ((P : Description) → description_in value ≡ reach P → SaysBy kind P script verdict answers silences stretches after)

-- an outcome has such a verdict, and tells so many answers
abbrev pub HasVerdict : ScriptKind → Parts → List ℕ → ScriptOutcome → Type 0
HasVerdict kind value script outcome =
    (verdict : ScriptVerdict) × (answers : ℕ) × (silences : ℕ) × (outcome_verdict outcome ≡ Some verdict) × (outcome_answers outcome ≡ Some answers)
    × SaysOf kind value script verdict answers silences

-- how much a status counts among those of several scripts: 3, that nothing was judged, more than 0 and less than 1
abbrev pub gravity : ℕ → ℕ
gravity status = if status == 3 then 1 else if status == 1 then 2 else if status == 2 then 3 else status

-- the status of two scripts together is that of one, and counts as much as either
pub record IsGraver (a b status : ℕ) : Type 0 where
  pub one : (status ≡ a) ⊎ (status ≡ b)
  pub first : gravity a ≤ gravity status
  pub second : gravity b ≤ gravity status

-- A text is the script of events that explain the recording which a script states, of the terminal of which this can be reached: just what
-- is stated is seen of them, if some behaviour of the subsystem explains it.
abbrev pub IsExplainingScript : Parts → List ℕ → List ℕ → Type 0
IsExplainingScript value script text =
    (events : List Event) × (text ≡ script_text events) × ((P : Description) → description_in value ≡ reach P → IsWitness P script events)

-- the same of a recording that began at any time
abbrev pub IsExplainingLater : Parts → List ℕ → List ℕ → Type 0
IsExplainingLater value script text = (events : List Event) × (text ≡ script_text events) × IsLaterWitness (description_in value) script events

-- the same of a recording of this kind; nothing where no part of it is judged
abbrev pub IsExplaining : ScriptKind → Parts → List ℕ → List ℕ → Type 0
IsExplaining LaterRecording value script text = IsExplainingLater value script text ⊎ (HasNoPart (description_in value) script × (text ≡ []))
IsExplaining _ value script text = IsExplainingScript value script text

-- the status of a script that is no recording, or is not read
abbrev pub recording_status : RecordingFault → ℕ
recording_status (recording.Script fault) = stated_status fault
recording_status _ = 2

-- the same of any
abbrev pub script_status : ScriptFault → ℕ
script_status (script.Stated fault) = stated_status fault
script_status (script.Recording fault) = recording_status fault
