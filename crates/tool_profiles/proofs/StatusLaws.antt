-- Laws of the statuses.
use Rattle.std.proofs.Common.{ℕ, ◌≡◌, ◌≤◌, List, Result, Ok, Err, IfOk, inl, subst}
use Rattle.std.specs.Prelude.{◌↔◌}
use Rattle.bus_legal.specs.Parts.{Parts}
use Rattle.tool_files.specs.declared.fault.ToolFault.{ToolFault}
use Rattle.rt1553.specs.Load.{Reaches}
use Rattle.rt1553_import.specs.Import.{IsImported}
use Rattle.tool_files.specs.Status.{IsLoaded}
use Rattle.tool_profiles.specs.Found.{EndsCheck}

-- the status tells of two terminals, each of some text, whether they are the same
pub of-loaded : (r : Result ℕ ToolFault) (p q : Parts) → IsLoaded p → IsLoaded q → IfOk r (λ status. (status ≡ 0) ↔ (p ≡ q))
    → IfOk r (λ status. (x : Parts) × (y : Parts) × IsLoaded x × IsLoaded y × ((status ≡ 0) ↔ (x ≡ y)))
of-loaded (Ok status) p q one other same = (p, q, one, other, same)
of-loaded (Err fault) p q one other same = tt

-- the same of a terminal and a table, of which this profile was made
pub of-checked : (r : Result ℕ ToolFault) (table text imported : List ℕ) (q : Parts) → IsLoaded q → IsImported table text → imported ≡ text
    → IfOk r (λ status. (p : Parts) × Reaches imported p × (status ≤ 1) × ((status ≡ 0) ↔ (p ≡ q)))
    → IfOk r (λ status. (x : List ℕ) × (y : Parts) × IsLoaded y × EndsCheck x y status)
of-checked (Ok status) table text imported q loaded made same x =
    (table, q, loaded, inl (text, x.0, made, subst (λ t. Reaches t x.0) same x.1, x.2, x.3))
of-checked (Err fault) table text imported q loaded made same x = tt
