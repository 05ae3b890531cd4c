-- Status words (MIL-STD-1553B, 4.3.3.5.3).
use Rattle.std.specs.Prelude.{ℕ, ◌+◌, ◌*◌, Bool, true, false}
use Rattle.bus_word.specs.declared.status.StatusParts.{StatusParts}

-- the mask of a bit that is set, 0 of one that isn't
abbrev pub mask_if : Bool → ℕ → ℕ
mask_if true mask = mask
mask_if false mask = 0

-- The status word: the address in bits 15 to 11, and the masks of the bits that are set. The
-- instrumentation bit (0200) and the reserved bits (00e0) are always 0.
abbrev pub status_word : ℕ → StatusParts → ℕ
status_word address parts =
    address * 2048
    + mask_if parts.error 0x0400
    + mask_if parts.service 0x0100
    + mask_if parts.broadcast 0x0010
    + mask_if parts.busy 0x0008
    + mask_if parts.subsystem 0x0004
    + mask_if parts.accept 0x0002
    + mask_if parts.terminal 0x0001
