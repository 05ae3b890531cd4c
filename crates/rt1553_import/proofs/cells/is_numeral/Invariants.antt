use Rattle.std.proofs.Common.{◌≡◌, drop}
use Rattle.std.specs.Char.{is_digit}
use Rattle.std.specs.List.{list_all}
use Rattle.rt1553_import.proofs.cells.is_numeral.Given as goal

abbrev pub invariant-loop-byte : goal.invariant-loop-byte
invariant-loop-byte l = list_all (λ c. is_digit c l.radix) (drop l.byte-index l.text) ≡ list_all (λ c. is_digit c l.radix) l.text
