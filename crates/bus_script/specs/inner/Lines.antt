-- Pieces of a script: whole lines, a line that stands first, and what has no line feed yet.
use Rattle.std.specs.Prelude.{ℕ, ◌+◌, ◌*◌, ◌≡◌, ◌<◌, ◌≤◌, List, [], ◌∷◌, ◌++◌, length, take, drop, Ok, None}
use Rattle.terminal_rules.specs.declared.event.Event.{Event}
use Rattle.script_lines.specs.Text.{lines_of, NoLineFeed, EndsLine}
use Rattle.script_lines.specs.Line.{meaning}
use Rattle.bus_script.specs.declared.fault.RunFault.{RunFault}
use Rattle.bus_script.specs.Reading.{Reading, adds, stops, then_reads, reading}

-- these whole lines, which follow n lines, say these events; m lines are done after them
pub record ReadsLines (n : ℕ) (whole : List ℕ) (es : List Event) (m : ℕ) : Type 0 where
  pub ends : EndsLine whole
  pub each : (rest : List ℕ) → reading n (lines_of (whole ++ rest)) ≡ adds es (reading m (lines_of rest))

-- these bytes, which follow n lines, say these events and then this fault, however they go on
pub record Faults (n : ℕ) (bytes : List ℕ) (es : List Event) (f : RunFault) : Type 0 where
  pub each : (rest : List ℕ) → reading n (lines_of (bytes ++ rest)) ≡ adds es (stops f)

-- a line says these events, after however many lines
abbrev pub Means : List ℕ → List Event → Type 0
Means line es = (n : ℕ) (r : Reading) → then_reads (meaning line) n r ≡ adds es r

-- a line after n lines has this fault
abbrev pub IsRefused : List ℕ → ℕ → RunFault → Type 0
IsRefused line n f = (r : Reading) → then_reads (meaning line) n r ≡ stops f

-- a line of i bytes stands first, with its line feed
pub record StartsLine (lines : ℕ) (bytes : List ℕ) (i : ℕ) : Type 0 where
  pub splits : bytes ≡ take i bytes ++ 10 ∷ drop (i + 1) bytes
  pub within : i < length bytes
  pub front : take (i + 1) bytes ≡ take i bytes ++ 10 ∷ []
  pub none : NoLineFeed (take i bytes)
  pub short : i ≤ 64
  pub room : lines < 1048576

-- k lines, i bytes in all, stand first, with their line feeds, and say these events
pub record LinesFirst (bytes : List ℕ) (i k : ℕ) (es : List Event) : Type 0 where
  pub within : i ≤ length bytes
  pub short : i ≤ 65 * k
  pub few : length es ≤ k
  pub reads : (n : ℕ) → n + k ≤ 1048576 → ReadsLines n (take i bytes) es (n + k)

-- nothing, or a line whose line feed is not there yet
pub record IsRest (lines : ℕ) (bytes : List ℕ) : Type 0 where
  pub none : NoLineFeed bytes
  pub short : length bytes ≤ 64
  pub room : 0 < length bytes → lines < 1048576

-- a comment of i bytes stands first, with its line feed
pub record IsComment (bytes : List ℕ) (i : ℕ) : Type 0 where
  pub starts : (lines : ℕ) → lines < 1048576 → StartsLine lines bytes i
  pub says : meaning (take i bytes) ≡ Ok None
