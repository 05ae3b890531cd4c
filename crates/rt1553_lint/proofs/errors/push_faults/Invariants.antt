use Rattle.std.proofs.Common.{◌≡◌, ◌++◌, drop, map}
use Rattle.rt1553_lint.specs.Findings.{subjects, profile_error}
use Rattle.rt1553_lint.proofs.errors.push_faults.Given as goal

abbrev pub invariant-loop-fault : goal.invariant-loop-fault
invariant-loop-fault l = subjects l.findings.items ++ map profile_error (drop l.fault-index l.faults) ≡ subjects l.initial.findings.items ++ map profile_error l.faults
