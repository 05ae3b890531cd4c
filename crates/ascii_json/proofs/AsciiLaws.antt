-- What is escaped for ASCII is printable.
use Rattle.std.proofs.Common.{ℕ, ◌≡◌, ◌∙◌, ◌<◌, ◌/◌, ◌%◌, Bool, true, false, List, [], ◌∷◌, arith, refl}
use Rattle.std.specs.Prelude.{◌&&◌, if◌then◌else◌}
use Rattle.std.specs.List.{flat_map}
use Rattle.std.specs.Char.Escape.{encode_utf16}
use Rattle.std.proofs.lemmas.Bool.Decides.{nat_tests}
use Rattle.std.proofs.lemmas.List.Folds.{list_all-append}
use Rattle.ascii_json.specs.Ascii.{is_printable, IsPlainText, digit_char, escaped_unit, ascii_char}

both : (a b : Bool) → a ≡ true → b ≡ true → (a && b) ≡ true
both true b is other = other
both false b is other = is

digit_plain : (n : ℕ) → n < 16 → is_printable (digit_char n) ≡ true
digit_plain n below = grind (arith, nat_tests)

unit_plain : (u : ℕ) → IsPlainText (escaped_unit u)
unit_plain u =
    both _ _ (digit_plain (u / 4096 % 16) (omega arith))
    (both _ _ (digit_plain (u / 256 % 16) (omega arith))
    (both _ _ (digit_plain (u / 16 % 16) (omega arith))
    (both _ _ (digit_plain (u % 16) (omega arith)) refl)))

units_plain : (us : List ℕ) → IsPlainText (flat_map escaped_unit us)
units_plain [] = refl
units_plain (u ∷ us) = list_all-append is_printable (escaped_unit u) (flat_map escaped_unit us) ∙ both _ _ (unit_plain u) (units_plain us)

char_plain : (c : ℕ) → IsPlainText (ascii_char c)
char_plain c = by_plain (is_printable c) refl
  where
    by_plain : (b : Bool) → is_printable c ≡ b → IsPlainText (if b then c ∷ [] else flat_map escaped_unit (encode_utf16 c))
    by_plain true is = both _ _ is refl
    by_plain false is = units_plain (encode_utf16 c)

-- what is written of a text has nothing else
pub all_plain : (cs : List ℕ) → IsPlainText (flat_map ascii_char cs)
all_plain [] = refl
all_plain (c ∷ cs) = list_all-append is_printable (ascii_char c) (flat_map ascii_char cs) ∙ both _ _ (char_plain c) (all_plain cs)
