-- The place of a word that the subsystem holds ready.
use Rattle.std.specs.Prelude.{ℕ}

-- word `number` (1 to 32) of subaddress `subaddress` (1 to 30)
pub record Place : Type 0 where
  pub subaddress : ℕ
  pub number : ℕ
