-- What a run of a terminal over a script does, from power-up. `old` and `new` are the bytes that the sink tells
-- before and after it, `left` and `left'` those that the reader had.
use Rattle.std.specs.Prelude.{◌≡◌, ℕ, List, [], ◌∷◌, ◌++◌, length, Option, IfSome}
use Rattle.std.specs.Io.KnownBytes.{Appends, Consumes}
use Rattle.bus_legal.specs.Description.{Description}
use Rattle.terminal_rules.specs.Past.{history_after}
use Rattle.terminal_rules.specs.declared.event.Event.{Event}
use Rattle.bus_script.specs.declared.fault.RunFault.{RunFault}
use Rattle.script_lines.specs.Text.{lines_of, NoLineFeed, EndsLine}
use Rattle.bus_script.specs.Reading.{Reading, reading, adds, stops, nothing, ByFault}
use Rattle.script_lines.specs.Transcript.{transcript, text_at}
use Rattle.rt1553.specs.Load.{Of}
use Rattle.rt1553.specs.declared.fault.LoadFault.{LoadFault}
use Rattle.rt1553.specs.declared.fault.EngineFault.{EngineFault}
use Rattle.rt1553.specs.declared.fault.EngineFault.TheVariants.{Load, Script}

-- the text says these events and then r, and just their transcript was written
pub record Writes (P : Description) (text : List ℕ) (r : Reading) (old new : Option (List ℕ)) (es : List Event) : Type 0 where
  pub says : reading 0 (lines_of text) ≡ adds es r
  pub wrote : Appends old new (transcript (text_at P) [] es)

-- the script has no fault and n events, and just their transcript was written
abbrev pub Completes : Description → List ℕ → Option (List ℕ) → Option (List ℕ) → ℕ → Type 0
Completes P script old new n = (es : List Event) × (n ≡ length es) × Writes P script nothing old new es

-- the script has this fault, and none before it; just the transcript of the lines before it was written
abbrev pub StopsAt : Description → List ℕ → Option (List ℕ) → Option (List ℕ) → RunFault → Type 0
StopsAt P script old new f = (es : List Event) × Writes P script (stops f) old new es

-- Of what was read of a script, `left` before and `left'` after, the whole lines have no fault, and just
-- their transcript was written.
pub record StopsReading (P : Description) (left left' old new : Option (List ℕ)) : Type 0 where
  pub events : List Event
  pub whole : List ℕ
  pub part : List ℕ
  pub read : Consumes left left' (whole ++ part)
  pub ends : EndsLine whole
  pub unfinished : NoLineFeed part
  pub writes : Writes P whole nothing old new events

-- The script says these events, one more and then others; the transcript of the events before that one was
-- written, and of its own text a part from its front, which may be none of it or all.
pub record StopsWriting (P : Description) (script : List ℕ) (old new : Option (List ℕ)) : Type 0 where
  pub events : List Event
  pub event : Event
  pub others : Reading
  pub part : List ℕ
  pub more : List ℕ
  pub says : reading 0 (lines_of script) ≡ adds (events ++ event ∷ []) others
  pub splits : part ++ more ≡ text_at P (history_after events []) event
  pub wrote : Appends old new (transcript (text_at P) [] events ++ part)

-- what is known where a script is not run to its end
abbrev pub StopsBy : Description → List ℕ → Option (List ℕ) → Option (List ℕ) → Option (List ℕ) → Option (List ℕ) → RunFault → Type 0
StopsBy P script left left' old new f =
    ByFault f (StopsAt P script old new f) (StopsReading P left left' old new) (StopsWriting P script old new)

-- the profile text is accepted, and where the reader told the script it was run to its end: it has n events
abbrev pub RunCompletes : List ℕ → Option (List ℕ) → Option (List ℕ) → Option (List ℕ) → ℕ → Type 0
RunCompletes profile left old new n =
    (P : Description) × Of profile P × IfSome left (λ script. Completes P script old new n)

-- the profile text is accepted, and where the reader told the script it was not run to its end, for this fault
abbrev pub RunStops : List ℕ → Option (List ℕ) → Option (List ℕ) → Option (List ℕ) → Option (List ℕ) → RunFault → Type 0
RunStops profile left left' old new f =
    (P : Description) × Of profile P × IfSome left (λ script. StopsBy P script left left' old new f)

-- a fact where the profile was not loaded
abbrev pub OnLoad : EngineFault → (LoadFault → Type 0) → Type 0
OnLoad (Load f) P = P f
OnLoad (Script f) P = Unit {0}

-- a fact where the script was not run to its end
abbrev pub OnScript : EngineFault → (RunFault → Type 0) → Type 0
OnScript (Load f) P = Unit {0}
OnScript (Script f) P = P f
