-- What readers of lines give.
use Rattle.std.specs.Prelude.{◌≡◌, ◌<◌, ℕ, Bool, Result, Ok, Err}
use Rattle.line_format.specs.declared.lines.Lines.{Lines}
use Rattle.line_format.specs.declared.lines.WrongLine.{WrongLine}
use Rattle.line_format.specs.Reading.{Spot}

-- where a reader stands
abbrev pub spot : Lines → Spot
spot l = record { number = l.number; rest = l.rest.now }

-- A reader gives what is found where the format is read: the value and where it ends, or the number of the wrong line.
abbrev pub Gives : {X Y : Type 0} → (X → Y) → (X → Lines) → Result X WrongLine → Result (Y × Spot) ℕ → Type 0
Gives view rest (Ok x) read = read ≡ Ok (view x, spot (rest x))
Gives view rest (Err e) read = read ≡ Err e.line

-- what a closure answers to the numbers below a limit is what the test says
abbrev pub IsTest : ℕ → (ℕ → Bool → Type 0) → (ℕ → Bool) → Type 0
IsTest limit answers test = (n : ℕ) (b : Bool) → n < limit → answers n b → b ≡ test n
