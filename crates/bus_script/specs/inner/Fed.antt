-- How far a script was played. `from` and `to` are the counts of lines and events before and after.
use Rattle.std.specs.Prelude.{ℕ, ◌+◌, ◌*◌, ◌≡◌, ◌≤◌, Bool, List, [], ◌∷◌, ◌++◌, length, take, drop, Option, IfSome}
use Rattle.bus_word.specs.declared.cell.Cell.{Cell}
use Rattle.terminal_rules.specs.declared.event.Event.{Event}
use Rattle.bus_terminal.specs.declared.terminal.Terminal.{Terminal}
use Rattle.script_lines.specs.Transcript.{text_at}
use Rattle.bus_script.specs.declared.fault.RunFault.{RunFault}
use Rattle.bus_script.specs.declared.piece.Counts.{Counts}
use Rattle.bus_script.specs.Reading.{stops, ByFault}
use Rattle.bus_script.specs.Played.{Played, PlayedPart, Ran, StoppedReading, StoppedWriting}
use Rattle.bus_script.specs.inner.Lines.{ReadsLines, Faults, IsRest}

-- there were not too many lines, and no more events than lines
pub record AreCounts (counts : Counts) : Type 0 where
  pub most : counts.lines ≤ 1048576
  pub few : counts.events ≤ counts.lines

-- whole lines at the front of a chunk were played, `done` bytes of it
pub record Fed {L W : Type 0} (is_legal : L → Cell → Bool) (written : W → Option (List ℕ)) (a b : Terminal L × W) (from to : Counts) (chunk : List ℕ) (done : ℕ) (es : List Event) : Type 0 where
  pub within : done ≤ length chunk
  pub reads : ReadsLines from.lines (take done chunk) es to.lines
  pub count : to.events ≡ from.events + length es
  pub long : done + 65 * from.lines ≤ 65 * to.lines
  pub counts : AreCounts to
  pub plays : Played is_legal text_at written a b es

-- all whole lines of a chunk were played, `done` bytes of it
abbrev pub FedAll : {L W : Type 0} → (L → Cell → Bool) → (W → Option (List ℕ)) → Terminal L × W → Terminal L × W → Counts → Counts → List ℕ → ℕ → Type 0
FedAll is_legal written a b from to chunk done = (es : List Event) × Fed is_legal written a b from to chunk done es × IsRest to.lines (drop done chunk)

-- the chunk has a fault, and the events before it were played
abbrev pub FedToFault : {L W : Type 0} → (L → Cell → Bool) → (W → Option (List ℕ)) → Terminal L × W → Terminal L × W → Counts → Counts → List ℕ → RunFault → Type 0
FedToFault is_legal written a b from to chunk f = (es : List Event) × (to.events ≡ from.events + length es) × Faults from.lines chunk es f × Played is_legal text_at written a b es

-- some events of the chunk were played, and of the text of the next one a part was written
abbrev pub FedPart : {L W : Type 0} → (L → Cell → Bool) → (W → Option (List ℕ)) → Terminal L × W → Terminal L × W → Counts → List ℕ → Type 0
FedPart is_legal written a b from chunk = (es : List Event) × (e : Event) × (whole : List ℕ) × (rest : List ℕ) × (m : ℕ) × (chunk ≡ whole ++ rest)
    × ReadsLines from.lines whole (es ++ e ∷ []) m × PlayedPart is_legal written a b es e

-- as `Stopped`, and n is the number of the events before a fault of the script
abbrev pub StoppedAfter : {L W : Type 0} → (L → Cell → Bool) → (W → Option (List ℕ)) → Option (List ℕ) → Option (List ℕ) → Terminal L × W → Terminal L × W → ℕ → RunFault → Type 0
StoppedAfter is_legal written left left' a b n f = IfSome left (λ script. ByFault f
    ((es : List Event) × (n ≡ length es) × Ran is_legal written a b script es (stops f))
    (StoppedReading is_legal written left left' a b)
    (StoppedWriting is_legal written script a b))
