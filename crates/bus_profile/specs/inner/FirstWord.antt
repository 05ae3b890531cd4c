-- Where the words of an initial entry begin, as its reader knows it.
use Rattle.std.specs.Prelude.{◌≡◌, ℕ, ◌-◌, ◌+◌, ◌≤◌, nat_lt, Option}
use Rattle.toml.specs.Data.{Data, Items}
use Rattle.bus_profile.specs.Kinds.{count_items}
use Rattle.bus_profile.specs.Faults.{goes_beyond}

-- the number of the first word, where `at` has no fault
pub record IsFirstWord (first : ℕ) (at : Option Data) : Type 0 where
  pub low : 1 ≤ first
  pub high : first ≤ 32
  pub beyond : (ds : Items) → goes_beyond at ds ≡ nat_lt 32 (first - 1 + count_items ds)
