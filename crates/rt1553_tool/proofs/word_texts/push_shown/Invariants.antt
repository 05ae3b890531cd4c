use Rattle.std.proofs.Common.{◌≡◌, ◌≤◌, ◌*◌, ◌++◌, take, flat_map}
use Rattle.arrayvec.specs.ArrayString.{array_string_len}
use Rattle.rt1553_tool.specs.WordTexts.{shown_byte}
use Rattle.rt1553_tool.proofs.word_texts.push_shown.Given as goal

abbrev pub invariant-loop-byte : goal.invariant-loop-byte
invariant-loop-byte l = record {
  bytes : l.text.bytes ≡ l.fn.text.bytes ++ flat_map shown_byte (take l.byte-index l.line);
  len : array_string_len l.text ≤ 4 * l.byte-index;
}
