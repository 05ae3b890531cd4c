-- What the results of a unit show, where the unit is the terminal of some profile.
use Rattle.std.specs.Prelude.{◌≡◌, ℕ, ◌+◌, ◌↔◌, Option, Some, List, [], ◌∷◌, map}
use Rattle.bus_legal.specs.Description.{Description}
use Rattle.bus_legal.specs.Parts.{Parts, description_in, IsNormal}
use Rattle.terminal_rules.specs.Same.{Same}
use Rattle.bus_complete_test.specs.CompleteTest.{tried}
use Rattle.rt1553_results.specs.declared.comparison.Comparison.{Comparison}
use Rattle.rt1553_results.specs.Rows.{Answered, rows_from}
use Rattle.rt1553_results.specs.Compare.{told_reply, numbers_in, Compares}

-- from this number on the results are the replies of these rows
abbrev pub AreGiven : (ℕ → Option (List ℕ)) → ℕ → List Answered → Type 0
AreGiven came n [] = Unit {0}
AreGiven came n (row ∷ rows) = (came n ≡ Some row.reply) × AreGiven came (n + 1) rows

-- the results are what the terminal of Q replies to the exchanges of the acceptance test of P, from power-up
abbrev pub AreResultsOf : Description → Description → (ℕ → Option (List ℕ)) → Type 0
AreResultsOf P Q came = AreGiven came 1 (rows_from Q [] (tried P))

-- nothing is told of the results, and none is missing
abbrev pub Passes : Comparison → Type 0
Passes c = (map told_reply c.wrong_replies.items ≡ []) × (numbers_in c.missing.items ≡ [])

-- Results of a unit that is the terminal of some profile, with whatever it replies, pass exactly if that is the terminal with
-- which they are compared.
abbrev pub UnitLaw : Type 0
UnitLaw =
    (v w : Parts) (came : ℕ → Option (List ℕ)) (c : Comparison) → IsNormal v → IsNormal w → AreResultsOf (description_in v) (description_in w) came → Compares (description_in v) came c
    → Passes c ↔ Same (description_in w) (description_in v)
