-- Why bytes are refused as a canonical text.
use Rattle.std.specs.Prelude.{ℕ, List}
use Rattle.line_format.specs.Answers.{Trails, HasWrongLine}
use Rattle.bus_canon.specs.Canon.{is_read, canon}
use Rattle.bus_canon.specs.declared.fault.CanonFault.{CanonFault}
use Rattle.bus_canon.specs.declared.fault.CanonFault.TheVariants.{Line, Trailing}

-- `Line n`: the lines before line n begin a canonical text, of version 1 or 2, and with line n they begin none; and no
-- whole canonical text stands at the front. `Trailing`: a whole canonical text stands at the front, and a byte follows it.
abbrev pub IsNoText : List ℕ → CanonFault → Type 0
IsNoText bytes (Line n) = HasWrongLine (canon is_read) bytes n
IsNoText bytes Trailing = Trails (canon is_read) bytes
