use Rattle.std.proofs.Common.{subst, sym}
use Rattle.ascii_json.specs.Ascii.{IsPlainText}
use Rattle.ascii_json.proofs.AsciiLaws.{all_plain}
use Rattle.ascii_json.proofs.ascii.in_ascii.Goals as goal

pub returns-clause-plain : goal.returns-clause-plain
returns-clause-plain c = subst IsPlainText (sym c.loop-c.invariant) (all_plain c.loop-c.yielded)
