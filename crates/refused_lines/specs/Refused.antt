-- Which lines of a script are refused, and which comments look like stated answers.
use Rattle.std.specs.Prelude.{ℕ, ◌+◌, Bool, not, ◌&&◌, ◌||◌, is_ok, is_some, nat_lt, if◌then◌else◌, List, [], ◌∷◌, ◌++◌, length, codes, Option, Some, None}
use Rattle.line_format.specs.Front.{after}
use Rattle.script_lines.specs.Line.{meaning}
use Rattle.bus_script.specs.declared.fault.RunFault.{RunFault}
use Rattle.bus_script.specs.declared.fault.RunFault.TheVariants.{Line, LongLine, TooLong, Read, Write}

-- the line is too long, or says nothing that a line of a script can say
abbrev pub is_refused : List ℕ → Bool
is_refused line = nat_lt 64 (length line) || not (is_ok (meaning line))

-- this number, where the line is refused
abbrev pub refused_at : ℕ → List ℕ → List ℕ
refused_at n line = if is_refused line then n ∷ [] else []

-- the numbers of the lines that are refused, of which the first has number n; line 1,048,577 is one too many, and the last to be
-- looked at
unfoldable pub refused_from : ℕ → List (List ℕ) → List ℕ
refused_from n [] = []
refused_from n (line ∷ lines) = if nat_lt 1048576 n then n ∷ [] else refused_at n line ++ refused_from (n + 1) lines

-- the number of the line that a fault of a run is of
abbrev pub faulty_line : Option RunFault → List ℕ
faulty_line None = []
faulty_line (Some (Line n)) = n ∷ []
faulty_line (Some (LongLine n)) = n ∷ []
faulty_line (Some TooLong) = 1048577 ∷ []
faulty_line (Some Read) = []
faulty_line (Some Write) = []

-- the first of these numbers
abbrev pub first_of : List ℕ → List ℕ
first_of [] = []
first_of (n ∷ ns) = n ∷ []

-- the line begins like this
abbrev pub begins_with : List ℕ → List ℕ → Bool
begins_with front line = is_some (after front line)

-- the line begins with a mark, and not with the mark and its space
abbrev pub lacks_space : List ℕ → List ℕ → List ℕ → Bool
lacks_space mark spaced line = begins_with mark line && not (begins_with spaced line)

-- a comment looks like a stated answer and is none: the column of the first byte that doesn't fit
abbrev pub mistyped : List ℕ → Option ℕ
mistyped line =
    if begins_with (codes "# >") line || begins_with (codes "# ~") line then Some 2
    else if lacks_space (codes "#>") (codes "#> ") line || lacks_space (codes "#~") (codes "#~ ") line || lacks_space (codes "#+") (codes "#+ ") line then Some 3
    else None

-- this number, where the line is mistyped
abbrev pub mistyped_at : ℕ → List ℕ → List ℕ
mistyped_at n line = if is_some (mistyped line) then n ∷ [] else []

-- the numbers of the lines that are mistyped, of which the first has number n
unfoldable pub mistyped_from : ℕ → List (List ℕ) → List ℕ
mistyped_from n [] = []
mistyped_from n (line ∷ lines) = mistyped_at n line ++ mistyped_from (n + 1) lines
