-- How many scripts pass.
use Rattle.std.specs.Prelude.{◌≡◌, ◌&&◌, ◌==◌, List, [], ◌∷◌, ◌++◌, length, filter}
use Rattle.rt1553_report.specs.declared.clauses.TriedScript.{TriedScript}
use Rattle.rt1553_report.specs.declared.clauses.ScriptCount.{ScriptCount}
use Rattle.rt1553_report.specs.declared.clauses.ScopeRow.{ScopeRow}
use Rattle.rt1553_report.specs.declared.clauses.Scope.TheVariants.{All}
use Rattle.rt1553_report.specs.Verdict.{verdict_passes, is_unjudged}

-- how many scripts there are, how many of them pass, and of how many nothing was judged
abbrev pub count_all : List TriedScript → ScriptCount
count_all tried = record {
  scripts = length tried;
  passed = length (filter (λ t. verdict_passes t.verdict) tried);
  not_judged = length (filter (λ t. is_unjudged t.verdict) tried);
}

-- the same of those that name no clause
abbrev pub count_unnamed : List TriedScript → ScriptCount
count_unnamed tried = record {
  scripts = length (filter (λ t. length t.clauses.items == 0) tried);
  passed = length (filter (λ t. (length t.clauses.items == 0) && verdict_passes t.verdict) tried);
  not_judged = length (filter (λ t. (length t.clauses.items == 0) && is_unjudged t.verdict) tried);
}

-- the last row is of all scripts
abbrev pub EndsWithAll : List TriedScript → List ScopeRow → Type 0
EndsWithAll tried rows = (others : List ScopeRow) × (rows ≡ others ++ record { scope = All; count = count_all tried } ∷ [])
