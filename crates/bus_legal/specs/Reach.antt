-- What of a description any bus controller can reach.
use Rattle.std.specs.Prelude.{ℕ, zero, suc, Bool, true, false, ◌&&◌, ◌||◌, nat_le, if◌then◌else◌}
use Rattle.bus_word.specs.declared.cell.Cell.{Cell}
use Rattle.bus_word.specs.declared.cell.Cell.TheVariants.{OwnReceive, OwnTransmit, BroadReceive, OwnMode, BroadMode}
use Rattle.bus_word.specs.Mode.{dynamic_bus_control, vector_word, bit_word}
use Rattle.bus_legal.specs.Description.{Description}

-- the largest number from 1 to n that passes, or 0 where none does
abbrev pub largest_to : ℕ → (ℕ → Bool) → ℕ
largest_to zero p = 0
largest_to (suc n) p = if p (suc n) then suc n else largest_to n p

-- some number from 1 to n passes
abbrev pub any_to : ℕ → (ℕ → Bool) → Bool
any_to zero p = false
any_to (suc n) p = p (suc n) || any_to n p

-- the largest word count that passes, or 0 where none does
unfoldable pub largest_count : (ℕ → Bool) → ℕ
largest_count p = largest_to 32 p

-- some word count passes
unfoldable pub any_count : (ℕ → Bool) → Bool
any_count p = any_to 32 p

-- A cell of commands that a terminal takes as meant for it: by its own address, or by broadcast where
-- it has the broadcast option.
abbrev pub is_heard : Bool → Cell → Bool
is_heard broadcast (OwnReceive s n) = true
is_heard broadcast (OwnTransmit s n) = true
is_heard broadcast (OwnMode c) = true
is_heard broadcast (BroadReceive s n) = broadcast
is_heard broadcast (BroadMode c) = broadcast

-- the terminal can be made to transmit so many words of this subaddress
abbrev pub transmits_at : Description → ℕ → ℕ → Bool
transmits_at P subaddress count = P.legal (OwnTransmit subaddress count)

-- the terminal can be made to receive so many words at this subaddress
abbrev pub receives_at : Description → ℕ → ℕ → Bool
receives_at P subaddress count = P.legal (OwnReceive subaddress count) || (P.broadcast && P.legal (BroadReceive subaddress count))

-- words that were received at this subaddress can be transmitted from it
abbrev pub can_wrap : Description → ℕ → Bool
can_wrap P subaddress = any_count (receives_at P subaddress) && any_count (transmits_at P subaddress)

-- word number i of subaddress s is among those that some legal command makes the terminal transmit
abbrev pub can_transmit : Description → ℕ → ℕ → Bool
can_transmit P s i = nat_le 1 i && nat_le i (largest_count (transmits_at P s))

-- The part of a description that can be reached: the legal cells of commands that are meant for the terminal; acceptance,
-- the vector word and the BIT word where the own mode code that asks for it is legal; the initial words that some legal
-- command makes the terminal transmit; and the wraparound subaddress where words can be received at it and transmitted
-- from it. All else is false or 0.
abbrev pub reach : Description → Description
reach P = record P {
  wrap = if can_wrap P P.wrap then P.wrap else 0;
  accept = P.legal (OwnMode dynamic_bus_control) && P.accept;
  vector = if P.legal (OwnMode vector_word) then P.vector else 0;
  bit = if P.legal (OwnMode bit_word) then P.bit else 0;
  initial = λ s i. if can_transmit P s i then P.initial s i else 0;
  legal = λ cell. is_heard P.broadcast cell && P.legal cell;
}
