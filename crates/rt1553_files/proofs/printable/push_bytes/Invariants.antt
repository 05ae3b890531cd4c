use Rattle.std.proofs.Common.{◌≡◌, ◌++◌, string_bytes}
use Rattle.std.specs.List.{flat_map}
use Rattle.std.specs.Char.Escape.{escape_ascii}
use Rattle.std.specs.Char.Iter.{escape_byte_rest}
use Rattle.std.specs.Slice.Iter.{escape_ascii_rest, escape_ascii_current}
use Rattle.std.specs.Str.{encode_utf8_all}
use Rattle.rt1553_files.proofs.printable.push_bytes.Given as goal

-- what came, with the rest of the escape in hand and the escapes of the bytes that are left, are the escapes of all the bytes
abbrev pub invariant-loop-byte : goal.invariant-loop-byte
invariant-loop-byte l = record {
  written : string_bytes l.text ≡ string_bytes l.initial.text ++ encode_utf8_all l.yielded;
  shows : flat_map escape_ascii l.bytes
      ≡ l.yielded ++ (escape_byte_rest (escape_ascii_current l.byte-iterator) ++ flat_map escape_ascii (escape_ascii_rest l.byte-iterator));
}
