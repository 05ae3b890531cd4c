-- The rules of findings.
use Rattle.std.specs.Prelude.{ℕ, List, Option, Some, None, codes}
use Rattle.rt1553_lint.specs.declared.finding.LintFault.{LintFault}
use Rattle.rt1553_lint.specs.Findings.{lint_fault_name}

-- the name of the fault, or that nothing has an effect
abbrev pub rule_of : Option LintFault → List ℕ
rule_of (Some fault) = lint_fault_name fault
rule_of None = codes "NoEffect"
