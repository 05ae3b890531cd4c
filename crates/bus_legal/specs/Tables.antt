-- What masks of legal cells mean.
use Rattle.std.specs.Prelude.{ℕ, zero, suc, ◌-◌, Bool, not, ◌&&◌, ◌||◌, ◌==◌, List, get_or, bit_and}
use Rattle.bus_word.specs.declared.cell.Cell.{Cell}
use Rattle.bus_word.specs.declared.cell.Cell.TheVariants.{OwnReceive, OwnTransmit, BroadReceive, OwnMode, BroadMode}
use Rattle.bus_word.specs.Cell.{is_allowed}
use Rattle.bus_word.specs.Mask.{has_bit}
use Rattle.bus_legal.specs.declared.tables.Tables.{Tables}
use Rattle.bus_legal.specs.declared.tables.TheConstants.{OWN_CODES, BROADCAST_CODES, REQUIRED_CODES}
use Rattle.bus_legal.specs.Reach.{largest_count, any_to}

-- the mask of a subaddress, from 1, has the bit of a word count, from 1
abbrev pub has_count : List ℕ → ℕ → ℕ → Bool
has_count masks subaddress count = has_bit (get_or masks (subaddress - 1) 0) (count - 1)

-- the tables have the bit of the cell
abbrev pub has_cell : Tables → Cell → Bool
has_cell t (OwnReceive s n) = has_count t.own_receive s n
has_cell t (OwnTransmit s n) = has_count t.own_transmit s n
has_cell t (BroadReceive s n) = has_count t.broadcast_receive s n
has_cell t (OwnMode c) = has_bit t.own_mode c
has_cell t (BroadMode c) = has_bit t.broadcast_mode c

-- the cell is legal by the tables: some command has it, and its bit is set
abbrev pub tables_say : Tables → Cell → Bool
tables_say t cell = is_allowed cell && has_cell t cell

-- a mask of own mode codes: no code that can't be legal, and all the required ones
abbrev pub is_own_mask : ℕ → Bool
is_own_mask mask = (bit_and mask OWN_CODES == mask) && (bit_and mask REQUIRED_CODES == REQUIRED_CODES)

-- a mask of broadcast mode codes: no code that can't be legal by broadcast
abbrev pub is_broadcast_mask : ℕ → Bool
is_broadcast_mask mask = bit_and mask BROADCAST_CODES == mask

-- the mask of a subaddress, from 1; at 0 there is none, and no word count is legal
abbrev pub mask_at : List ℕ → ℕ → ℕ
mask_at masks zero = 0
mask_at masks (suc s) = get_or masks s 0

-- the largest word count in a mask, or 0 where there is none
abbrev pub largest_in : ℕ → ℕ
largest_in mask = largest_count (λ count. has_bit mask (count - 1))

-- some word count is in the mask
abbrev pub has_any : ℕ → Bool
has_any mask = not (mask == 0)

-- by the masks, words can be received at this subaddress and transmitted from it
abbrev pub masks_wrap : Tables → ℕ → Bool
masks_wrap t subaddress = (has_any (mask_at t.own_receive subaddress) || has_any (mask_at t.broadcast_receive subaddress)) && has_any (mask_at t.own_transmit subaddress)

-- by the masks, some subaddress is such
unfoldable pub any_wraps : Tables → Bool
any_wraps t = any_to 30 (masks_wrap t)
