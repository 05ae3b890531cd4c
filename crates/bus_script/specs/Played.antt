-- What a terminal and the sink of its transcript have done, and how a run ended. Both stand together as a pair: (terminal, sink),
-- `a` before and `b` after. `written` are the bytes that a sink tells; `text P h e` is what is written at the event e after the history h.
use Rattle.std.specs.Prelude.{ℕ, ◌≡◌, Bool, List, [], ◌∷◌, ◌++◌, length, Option, IfSome}
use Rattle.std.specs.Io.KnownBytes.{Appends, Consumes}
use Rattle.bus_word.specs.declared.cell.Cell.{Cell}
use Rattle.bus_legal.specs.Description.{Description}
use Rattle.terminal_rules.specs.Past.{history_after}
use Rattle.terminal_rules.specs.declared.event.Event.{Event}
use Rattle.bus_terminal.specs.declared.terminal.Terminal.{Terminal}
use Rattle.bus_terminal.specs.Stands.{StandsAt}
use Rattle.script_lines.specs.Text.{lines_of, NoLineFeed, EndsLine}
use Rattle.script_lines.specs.Transcript.{transcript, text_at}
use Rattle.bus_script.specs.declared.fault.RunFault.{RunFault}
use Rattle.bus_script.specs.Reading.{Reading, reading, adds, stops, nothing, ByFault}

-- what is written at each event
abbrev pub TextAt : Type 0
TextAt = Description → List Event → Event → List ℕ

-- the terminal took these events, and just their texts were written
pub record Played {L W : Type 0} (is_legal : L → Cell → Bool) (text : TextAt) (written : W → Option (List ℕ)) (a b : Terminal L × W) (es : List Event) : Type 0 where
  pub at : (P : Description) (h : List Event) → StandsAt is_legal P h a.0 → StandsAt is_legal P (history_after es h) b.0
  pub wrote : (P : Description) (h : List Event) → StandsAt is_legal P h a.0 → Appends (written a.1) (written b.1) (transcript (text P) h es)

-- the terminal took these events and one more, and of that one's text a part was written
pub record PlayedPart {L W : Type 0} (is_legal : L → Cell → Bool) (written : W → Option (List ℕ)) (a b : Terminal L × W) (es : List Event) (e : Event) : Type 0 where
  pub at : (P : Description) (h : List Event) → StandsAt is_legal P h a.0 → StandsAt is_legal P (e ∷ history_after es h) b.0
  pub wrote : (P : Description) (h : List Event) → StandsAt is_legal P h a.0 → (part : List ℕ) × (more : List ℕ) × (part ++ more ≡ text_at P (history_after es h) e)
      × Appends (written a.1) (written b.1) (transcript (text_at P) h es ++ part)

-- the text says these events and then r, and just these events were played
pub record Ran {L W : Type 0} (is_legal : L → Cell → Bool) (written : W → Option (List ℕ)) (a b : Terminal L × W) (text : List ℕ) (es : List Event) (r : Reading) : Type 0 where
  pub says : reading 0 (lines_of text) ≡ adds es r
  pub plays : Played is_legal text_at written a b es

-- the text says these events, one more and then r; of the last one's text a part was written
pub record Broke {L W : Type 0} (is_legal : L → Cell → Bool) (written : W → Option (List ℕ)) (a b : Terminal L × W) (text : List ℕ) (es : List Event) (e : Event) (r : Reading) : Type 0 where
  pub says : reading 0 (lines_of text) ≡ adds (es ++ e ∷ []) r
  pub plays : PlayedPart is_legal written a b es e

-- where a reader that told `left` told the script: it has no fault and n events, and just these were played
abbrev pub Completed : {L W : Type 0} → (L → Cell → Bool) → (W → Option (List ℕ)) → Option (List ℕ) → Terminal L × W → Terminal L × W → ℕ → Type 0
Completed is_legal written left a b n = IfSome left (λ script. (es : List Event) × (n ≡ length es) × Ran is_legal written a b script es nothing)

-- of what was read, `left` before and `left'` after, the whole lines have no fault, and just their events were played
abbrev pub StoppedReading : {L W : Type 0} → (L → Cell → Bool) → (W → Option (List ℕ)) → Option (List ℕ) → Option (List ℕ) → Terminal L × W → Terminal L × W → Type 0
StoppedReading is_legal written left left' a b = (es : List Event) × (whole : List ℕ) × (part : List ℕ)
    × Consumes left left' (whole ++ part) × EndsLine whole × NoLineFeed part × Ran is_legal written a b whole es nothing

-- the script says some events, one more and then others; of that one's text a part was written
abbrev pub StoppedWriting : {L W : Type 0} → (L → Cell → Bool) → (W → Option (List ℕ)) → List ℕ → Terminal L × W → Terminal L × W → Type 0
StoppedWriting is_legal written script a b = (es : List Event) × (e : Event) × (others : Reading) × Broke is_legal written a b script es e others

-- where a reader told the script, why it was not run to its end: its fault, or a read or a write that failed
abbrev pub Stopped : {L W : Type 0} → (L → Cell → Bool) → (W → Option (List ℕ)) → Option (List ℕ) → Option (List ℕ) → Terminal L × W → Terminal L × W → RunFault → Type 0
Stopped is_legal written left left' a b f = IfSome left (λ script. ByFault f
    ((es : List Event) × Ran is_legal written a b script es (stops f))
    (StoppedReading is_legal written left left' a b)
    (StoppedWriting is_legal written script a b))
