-- Laws of words: their parity, their fields, the bits of a status word.
use Rattle.std.proofs.Common.{◌≡◌, ℕ, ◌+◌, ◌*◌, ◌/◌, ◌%◌, ◌<◌, Bool, true, false, arith}
use Rattle.bus_word.specs.declared.status.StatusParts.{StatusParts}
use Rattle.bus_word.specs.Word.{bit_of}
use Rattle.bus_word.specs.Command.{command_bits}
use Rattle.bus_word.specs.Status.{status_word}
use Rattle.bus_word.specs.Laws.{FieldsAreUnique, StatusHasBits}
use Rattle.bus_word.proofs.Masks.{mask_if-times}

pub fields_are_unique : FieldsAreUnique
fields_are_unique f h =
    let address : command_bits f / 2048 ≡ f.address = omega arith in
    let tr : command_bits f / 1024 % 2 ≡ f.tr = omega arith in
    let subaddress : command_bits f / 32 % 32 ≡ f.subaddress = omega arith in
    let low : command_bits f % 32 ≡ f.low = omega arith in
    (omega arith, λ i. record { address = address i; tr = tr i; subaddress = subaddress i; low = low i })

pub bit_of-below : (b : Bool) → bit_of b < 2
bit_of-below true = omega arith
bit_of-below false = omega arith

-- the bits of a sum of an address and bits
bits_of_sum : (status a e s b y u c t : ℕ) →
    e < 2 → s < 2 → b < 2 → y < 2 → u < 2 → c < 2 → t < 2 →
    status ≡ a * 2048 + e * 0x0400 + s * 0x0100 + b * 0x0010 + y * 0x0008 + u * 0x0004 + c * 0x0002 + t →
    (status / 0x0800 ≡ a) × (status / 0x0400 % 2 ≡ e) × (status / 0x0200 % 2 ≡ 0) × (status / 0x0100 % 2 ≡ s) × (status / 0x0020 % 8 ≡ 0)
    × (status / 0x0010 % 2 ≡ b) × (status / 0x0008 % 2 ≡ y) × (status / 0x0004 % 2 ≡ u) × (status / 0x0002 % 2 ≡ c) × (status % 2 ≡ t)
bits_of_sum status a e s b y u c t he hs hb hy hu hc ht is =
    (omega arith, omega arith, omega arith, omega arith, omega arith, omega arith, omega arith, omega arith, omega arith, omega arith)

sum_of_bits : (address : ℕ) (p : StatusParts) → status_word address p ≡ address * 2048 + bit_of p.error * 0x0400 + bit_of p.service * 0x0100 + bit_of p.broadcast * 0x0010
    + bit_of p.busy * 0x0008 + bit_of p.subsystem * 0x0004 + bit_of p.accept * 0x0002 + bit_of p.terminal
sum_of_bits address p =
    omega (
      arith,
      mask_if-times p.error 0x0400,
      mask_if-times p.service 0x0100,
      mask_if-times p.broadcast 0x0010,
      mask_if-times p.busy 0x0008,
      mask_if-times p.subsystem 0x0004,
      mask_if-times p.accept 0x0002,
      mask_if-times p.terminal 0x0001,
    )

pub status_has_bits : StatusHasBits
status_has_bits address p =
    let h = bits_of_sum (status_word address p) address (bit_of p.error) (bit_of p.service) (bit_of p.broadcast) (bit_of p.busy) (bit_of p.subsystem) (bit_of p.accept) (bit_of p.terminal)
    (bit_of-below p.error) (bit_of-below p.service) (bit_of-below p.broadcast) (bit_of-below p.busy) (bit_of-below p.subsystem) (bit_of-below p.accept) (bit_of-below p.terminal)
    (sum_of_bits address p) in
    record {
      address_field = h.0;
      error = h.1;
      instrumentation = h.2;
      service = h.3;
      reserved = h.4;
      broadcast = h.5;
      busy = h.6;
      subsystem = h.7;
      accept = h.8;
      terminal = h.9;
    }
