use Rattle.std.proofs.Common.{◌≡◌, ◌≤◌, ◌+◌, ◌*◌, ◌++◌, take}
use Rattle.std.specs.List.{flat_map}
use Rattle.arrayvec.specs.ArrayString.{array_string_len}
use Rattle.message_rows.specs.StatusBits.{named_bits}
use Rattle.message_rows.specs.Texts.{bit_named}
use Rattle.message_rows.proofs.field.push_bits.Given as goal

abbrev pub invariant-loop-index : goal.invariant-loop-index
invariant-loop-index g l = record {
  room : array_string_len l.text ≤ array_string_len l.fn.text + 16 * l.index;
  text : l.text.bytes ≡ l.fn.text.bytes ++ flat_map (λ bit. bit_named l.is_behind l.word bit.0 bit.1) (take l.index named_bits);
}
