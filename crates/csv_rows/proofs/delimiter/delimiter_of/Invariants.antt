use Rattle.std.proofs.Common.{◌≡◌, drop}
use Rattle.csv_rows.specs.Delimiter.{delimiter_from, delimiter_of}
use Rattle.csv_rows.proofs.delimiter.delimiter_of.Given as goal

abbrev pub invariant-loop-byte : goal.invariant-loop-byte
invariant-loop-byte l = delimiter_from l.within (drop l.byte-index l.text) ≡ delimiter_of l.text
