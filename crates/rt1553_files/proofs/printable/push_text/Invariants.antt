use Rattle.std.proofs.Common.{ℕ, ◌≡◌, ◌++◌, List, string_bytes}
use Rattle.std.specs.Str.{chars, IsUtf8, encode_utf8_all}
use Rattle.std.specs.Str.Iter.{escapes_text, escapes_current, escapes_form, IsEscapeIn}
use Rattle.std.specs.Char.Escape.{IsEscapeDebug}
use Rattle.std.specs.Char.Iter.{escape_rest}
use Rattle.rt1553_files.specs.Printable.{ShowsChars}
use Rattle.rt1553_files.proofs.printable.push_text.Given as goal

-- what came, with the rest of the escape in hand and characters that show the text which is left, shows all the text
abbrev pub invariant-loop-c : goal.invariant-loop-c
invariant-loop-c l = record {
  written : string_bytes l.text ≡ string_bytes l.initial.text ++ encode_utf8_all l.yielded;
  form : (c : ℕ) (escape : List ℕ) → IsEscapeIn (escapes_form l.c-iterator) c escape → IsEscapeDebug c escape;
  utf8 : IsUtf8 (escapes_text l.c-iterator);
  shows : (tail : List ℕ) → ShowsChars (chars (escapes_text l.c-iterator)) tail
      → ShowsChars (chars l.part) (l.yielded ++ (escape_rest (escapes_current l.c-iterator) ++ tail));
}
