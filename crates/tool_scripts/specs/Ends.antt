-- The statuses of scripts, and of messages that are expanded.
use Rattle.std.specs.Prelude.{ℕ, ◌≡◌, List, [], ◌∷◌}
use Rattle.rt1553_expand.specs.declared.expanding.Expanded.{Expanded}
use Rattle.rt1553_expand.specs.declared.expanding.Expanded.TheVariants.{Script}
use Rattle.rt1553_expand.specs.declared.script_for.ScriptFor.{ScriptFor}
use Rattle.rt1553_expand.specs.Expansion.{IsExpansion}

-- the status of a script: 2 where a line is refused, 0 where none is
abbrev pub lines_status : List ℕ → ℕ
lines_status [] = 0
lines_status (n ∷ ns) = 2

-- 0 for a script, 2 where it can't be
abbrev pub expansion_status : Expanded → ℕ
expansion_status (Script script) = 0
expansion_status _ = 2

-- `expand` ends with the status of what a text is expanded to, for these terminals
abbrev pub EndsExpansion : ScriptFor → List ℕ → ℕ → Type 0
EndsExpansion own text status = (expanded : Expanded) × IsExpansion own text expanded × (status ≡ expansion_status expanded)
