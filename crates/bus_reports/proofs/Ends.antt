-- A text ends with what is written last.
use Rattle.std.proofs.Common.{ℕ, ◌≡◌, ◌++◌, List, if◌then◌else◌, is_ok, Result, Ok, Err, OnOk}
use Rattle.bus_reports.specs.Outcomes.{EndsWith}

pub ends : {T E : Type 0} (r : Result T E) (new old words : List ℕ) → new ≡ (if is_ok r then old ++ words else old) → OnOk r (EndsWith words new)
ends (Ok t) new old words is = (old, is)
ends (Err e) new old words is = tt
