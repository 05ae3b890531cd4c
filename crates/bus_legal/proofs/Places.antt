-- The mask of a subaddress, from 1, by its place in a table, from 0.
use Rattle.std.proofs.Common.{◌≡◌, ℕ, zero, suc, ◌-◌, ◌≤◌, List, get_or, ap, arith}
use Rattle.bus_legal.specs.Tables.{mask_at}

-- the mask of a subaddress by its place in a table
pub mask_from : (masks : List ℕ) (s : ℕ) → 1 ≤ s → get_or masks (s - 1) 0 ≡ mask_at masks s
mask_from masks zero low = absurd (omega arith)
mask_from masks (suc s) low = let at : suc s - 1 ≡ s = omega arith in ap (λ k. get_or masks k 0) at
