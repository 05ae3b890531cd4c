-- The verdict on a script.
use Rattle.std.specs.Prelude.{ℕ, Bool, true, false, Option, Some, None, List, codes}
use Rattle.rt1553_verify.specs.Stated.{warning_text}
use Rattle.rt1553_report.specs.declared.verdict.Unjudged.{Unjudged}
use Rattle.rt1553_report.specs.declared.verdict.Unjudged.TheVariants.{Unstated, NoPart, TooManyWays}
use Rattle.rt1553_report.specs.declared.verdict.ScriptVerdict.{ScriptVerdict}
use Rattle.rt1553_report.specs.declared.verdict.ScriptVerdict.TheVariants.{Passed, Failed, NotJudged}

-- By whether nothing differs, and why nothing is judged where nothing does: what differs fails, and only what was judged passes.
abbrev pub verdict_of : Bool → Option Unjudged → ScriptVerdict
verdict_of false why = Failed
verdict_of true None = Passed
verdict_of true (Some why) = NotJudged why

-- why nothing is judged, in words
abbrev pub unjudged_text : Unjudged → List ℕ
unjudged_text (Unstated warning) = warning_text warning
unjudged_text NoPart = codes "no part begins afresh after a pause"
unjudged_text TooManyWays = codes "gaps that may have come leave too many ways open"

-- of what was not played there is no verdict
abbrev pub verdict_passes : Option ScriptVerdict → Bool
verdict_passes (Some Passed) = true
verdict_passes _ = false

abbrev pub verdict_fails : Option ScriptVerdict → Bool
verdict_fails (Some Failed) = true
verdict_fails _ = false

abbrev pub is_unjudged : Option ScriptVerdict → Bool
is_unjudged (Some (NotJudged why)) = true
is_unjudged _ = false

-- a verdict in words
abbrev pub result_word : Option ScriptVerdict → List ℕ
result_word None = codes "not played"
result_word (Some Passed) = codes "passes"
result_word (Some Failed) = codes "differs"
result_word (Some (NotJudged why)) = codes "not judged"

-- the status that a verdict asks for
abbrev pub verdict_status : ScriptVerdict → ℕ
verdict_status Passed = 0
verdict_status Failed = 1
verdict_status (NotJudged why) = 3
