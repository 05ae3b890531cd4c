use Rattle.std.proofs.Common.{◌≡◌, ◌≤◌, ◌+◌, ◌*◌, ◌++◌, map, take}
use Rattle.arrayvec.specs.ArrayString.{array_string_len}
use Rattle.message_rows.specs.Texts.{field_told, comma_joined}
use Rattle.message_rows.proofs.line.push_fields.Given as goal

abbrev pub invariant-loop-index : goal.invariant-loop-index
invariant-loop-index l = record {
  room : array_string_len l.text ≤ array_string_len l.fn.text + 401 * l.index;
  text : l.text.bytes ≡ l.fn.text.bytes ++ comma_joined (map field_told (take l.index l.fields));
}
