use Rattle.script_lines.proofs.DigitLaws.{none_known}
use Rattle.script_lines.proofs.known_digits.KnownDigits.none.Goals as goal

pub invariant_of-result : goal.invariant_of-result
invariant_of-result c = record { known = none_known }
