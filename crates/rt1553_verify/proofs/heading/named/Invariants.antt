use Rattle.std.proofs.Common.{◌≡◌, length}
use Rattle.script_lines.specs.Text.{lines_of}
use Rattle.rt1553_verify.specs.Heading.{named}
use Rattle.rt1553_verify.proofs.heading.named.Given as goal

abbrev pub invariant-loop-rest : goal.invariant-loop-rest
invariant-loop-rest l = named l.key (lines_of l.script) ≡ named l.key (lines_of l.rest)

abbrev pub decreases-loop-rest : goal.decreases-loop-rest
decreases-loop-rest l = length l.rest
