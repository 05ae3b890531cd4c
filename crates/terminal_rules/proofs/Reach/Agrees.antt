-- Where two descriptions have to agree, so that terminals of one address and broadcast option answer alike.
use Rattle.std.proofs.Common.{◌≡◌, ℕ, ◌≤◌, ◌==◌, true}
use Rattle.bus_word.specs.declared.cell.Cell.{Cell}
use Rattle.bus_word.specs.declared.cell.Cell.TheVariants.{OwnMode}
use Rattle.bus_word.specs.Cell.{is_data_place, is_allowed}
use Rattle.bus_legal.specs.Description.{Description}
use Rattle.bus_legal.specs.Reach.{is_heard, transmits_at, receives_at}

-- The description `R` at the address and with the broadcast option of `P`.
abbrev pub addressed : Description → Description → Description
addressed P R = record R { address = P.address; broadcast = P.broadcast }

-- `R` agrees with `P`, address and option aside, wherever a bus controller can ask for it.
pub record Agrees (P R : Description) : Type 0 where
  pub legal : (cell : Cell) → is_heard P.broadcast cell ≡ true → is_allowed cell ≡ true → R.legal cell ≡ P.legal cell
  pub accept : P.legal (OwnMode 0) ≡ true → R.accept ≡ P.accept
  pub vector : P.legal (OwnMode 16) ≡ true → R.vector ≡ P.vector
  pub bit : P.legal (OwnMode 19) ≡ true → R.bit ≡ P.bit
  pub initial : (s n i : ℕ) → transmits_at P s n ≡ true → is_data_place s n ≡ true → 1 ≤ i → i ≤ n → R.initial s i ≡ P.initial s i
  pub wrap : (s m n : ℕ) → receives_at P s m ≡ true → is_data_place s m ≡ true → transmits_at P s n ≡ true → is_data_place s n ≡ true → (s == R.wrap) ≡ (s == P.wrap)
