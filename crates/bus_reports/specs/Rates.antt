-- How often messages are sent, as comments tell it.
use Rattle.std.specs.Prelude.{ℕ, ◌≡◌, ◌≤◌, List, [], ◌∷◌, Option, Some, None}
use Rattle.std.specs.Str.Parse.{IsNumeral, digits_value}
use Rattle.bus_reports.specs.declared.rates.RateLine.{RateLine}
use Rattle.bus_reports.specs.declared.rates.RateLine.TheVariants.{Rate, Wrong, Other}

-- the digits write a number from 0 to 1000000
abbrev pub IsRate : List ℕ → Type 0
IsRate digits = IsNumeral 10 digits × (digits_value 10 digits ≤ 1000000)

abbrev pub StartsWithDigit : List ℕ → Type 0
StartsWithDigit [] = ⊥
StartsWithDigit (d ∷ digits) = (48 ≤ d) × (d ≤ 57)

-- what stands behind the mark of a rate is one, is meant as one, or is anything else
abbrev pub TellsBehind : List ℕ → RateLine → Type 0
TellsBehind digits (Rate rate) = IsRate digits × (digits_value 10 digits ≡ rate)
TellsBehind digits Wrong = StartsWithDigit digits × (IsRate digits → ⊥)
TellsBehind digits Other = (StartsWithDigit digits → ⊥) × (IsRate digits → ⊥)

-- the same of a line; one without the mark tells nothing
abbrev pub TellsRate : Option (List ℕ) → RateLine → Type 0
TellsRate None told = told ≡ Other
TellsRate (Some digits) told = TellsBehind digits told
