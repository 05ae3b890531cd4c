-- Places of data and mode codes in their order: what is tried from one of them on, and how many are left.
use Rattle.std.specs.Prelude.{ℕ, suc, ◌+◌, ◌-◌, ◌*◌, Option, Some, None, List, [], ◌++◌}
use Rattle.terminal_exchanges.specs.Exchanges.{Exchange}
use Rattle.bus_complete_test.specs.CompleteTest.{each_in}

-- the exchanges of a place of data and of all later ones: of the later word counts there, then of the later subaddresses
abbrev pub from_place : (ℕ → ℕ → List Exchange) → ℕ → ℕ → List Exchange
from_place f s n = each_in n (33 - n) (f s) ++ each_in (suc s) (30 - s) (λ t. each_in 1 32 (f t))

-- the same of a next place, where there is one
abbrev pub after_place : (ℕ → ℕ → List Exchange) → Option (ℕ × ℕ) → List Exchange
after_place f None = []
after_place f (Some p) = from_place f p.0 p.1

-- how many places are left, this one among them
abbrev pub places_left : Option (ℕ × ℕ) → ℕ
places_left None = 0
places_left (Some p) = (30 - p.0) * 32 + (33 - p.1)

-- the exchanges of a mode code and of all later ones
abbrev pub from_code : (ℕ → List Exchange) → ℕ → List Exchange
from_code f code = each_in code (32 - code) f

-- the same of a next code, where there is one
abbrev pub after_code : (ℕ → List Exchange) → Option ℕ → List Exchange
after_code f None = []
after_code f (Some code) = from_code f code

-- how many codes are left, this one among them
abbrev pub codes_left : Option ℕ → ℕ
codes_left None = 0
codes_left (Some code) = 32 - code
