use Rattle.std.proofs.Common.{◌≡◌, ◌+◌, ◌*◌, ◌++◌, take}
use Rattle.std.specs.List.{flat_map}
use Rattle.arrayvec.specs.ArrayString.{array_string_len}
use Rattle.script_lines.specs.Transcript.{word_field}
use Rattle.message_rows.proofs.field.push_behind.Given as goal

abbrev pub invariant-loop-word : goal.invariant-loop-word
invariant-loop-word g l = record {
  room : array_string_len l.text ≡ array_string_len l.fn.text + 5 * l.word-index;
  text : l.text.bytes ≡ l.fn.text.bytes ++ flat_map word_field (take l.word-index l.words);
}
