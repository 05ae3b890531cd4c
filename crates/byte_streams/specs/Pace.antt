-- Which of several calls fails.
use Rattle.std.specs.Prelude.{ℕ, ◌-◌, ◌==◌, Bool, false, Option, Some, None, option_map}

-- this call is the one that fails
abbrev pub is_failing : Option ℕ → Bool
is_failing (Some n) = n == 0
is_failing None = false

-- one call less is to come, down to the one that fails, after which each fails
abbrev pub counted_down : Option ℕ → Option ℕ
counted_down calls = option_map (λ n. n - 1) calls
