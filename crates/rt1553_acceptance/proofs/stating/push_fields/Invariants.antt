use Rattle.std.proofs.Common.{◌≡◌, ◌+◌, ◌*◌, ◌≤◌, ◌++◌, drop}
use Rattle.arrayvec.specs.ArrayString.{array_string_len}
use Rattle.rt1553_acceptance.specs.Text.{fields_stated}
use Rattle.rt1553_acceptance.proofs.stating.push_fields.Given as goal

-- what is written, and what is left to write, is all
abbrev pub invariant-loop-word : goal.invariant-loop-word
invariant-loop-word l = record {
  length : array_string_len l.text ≤ array_string_len l.fn.text + 8 * l.word-index;
  text : l.text.bytes ++ fields_stated l.room (drop l.word-index l.words) ≡ l.fn.text.bytes ++ fields_stated 7 l.words;
}
