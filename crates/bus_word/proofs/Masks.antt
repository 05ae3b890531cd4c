-- A status word put together from its highest bit down.
use Rattle.std.proofs.Common.{◌≡◌, ℕ, ◌+◌, ◌*◌, Bool, true, false, arith}
use Rattle.std.specs.Int.{from_bool}
use Rattle.bus_word.specs.declared.status.StatusParts.{StatusParts}
use Rattle.bus_word.specs.Word.{bit_of}
use Rattle.bus_word.specs.Status.{mask_if, status_word}

pub mask_if-times : (is_set : Bool) (mask : ℕ) → mask_if is_set mask ≡ bit_of is_set * mask
mask_if-times true mask = omega arith
mask_if-times false mask = omega arith

from_bool-times : (is_set : Bool) (mask : ℕ) → mask_if is_set mask ≡ from_bool is_set * mask
from_bool-times true mask = omega arith
from_bool-times false mask = omega arith

-- a bit at a time, and the places between them
pub status-by_steps : (address : ℕ) (p : StatusParts) →
    ((((((address * 2 + from_bool p.error) * 4 + from_bool p.service) * 16 + from_bool p.broadcast) * 2 + from_bool p.busy) * 2 + from_bool p.subsystem) * 2 + from_bool p.accept) * 2 + from_bool p.terminal
    ≡ status_word address p
status-by_steps address p =
    let error : mask_if p.error 0x0400 ≡ from_bool p.error * 0x0400 = from_bool-times p.error 0x0400 in
    let service : mask_if p.service 0x0100 ≡ from_bool p.service * 0x0100 = from_bool-times p.service 0x0100 in
    let broadcast : mask_if p.broadcast 0x0010 ≡ from_bool p.broadcast * 0x0010 = from_bool-times p.broadcast 0x0010 in
    let busy : mask_if p.busy 0x0008 ≡ from_bool p.busy * 0x0008 = from_bool-times p.busy 0x0008 in
    let subsystem : mask_if p.subsystem 0x0004 ≡ from_bool p.subsystem * 0x0004 = from_bool-times p.subsystem 0x0004 in
    let accept : mask_if p.accept 0x0002 ≡ from_bool p.accept * 0x0002 = from_bool-times p.accept 0x0002 in
    let terminal : mask_if p.terminal 0x0001 ≡ from_bool p.terminal * 0x0001 = from_bool-times p.terminal 0x0001 in
    omega (arith, error, service, broadcast, busy, subsystem, accept, terminal)
