-- What the texts of cells say: values of the profile, and words.
use Rattle.std.specs.Prelude.{ℕ, min, not, ◌||◌, ◌&&◌, nat_le, ◌==◌, Bool, true, false, if◌then◌else◌, pos, List, [], ◌∷◌, drop, length, Option, Some, None, codes}
use Rattle.std.specs.List.{slice_split, list_all}
use Rattle.std.specs.Char.{is_digit}
use Rattle.std.specs.Str.{str_eq_ignore_ascii_case}
use Rattle.std.specs.Str.Parse.{digits_value}
use Rattle.toml.specs.Data.{Data, string, integer, boolean}

-- the text is empty
abbrev pub has_no_text : List ℕ → Bool
has_no_text [] = true
has_no_text (b ∷ bs) = false

-- digits of this radix, one or more, and nothing else
abbrev pub is_numeral : ℕ → List ℕ → Bool
is_numeral radix text = not (has_no_text text) && list_all (λ c. is_digit c radix) text

-- the number that digits of this radix write, or 2 ^ 32 - 1 for all above, which no value of a profile reaches
abbrev pub number_in : ℕ → List ℕ → Option ℕ
number_in radix text = if is_numeral radix text then Some (min (digits_value radix text) 4294967295) else None

-- the text begins with `0x`
abbrev pub is_hexadecimal : List ℕ → Bool
is_hexadecimal (a ∷ b ∷ digits) = (a == 48) && (b == 120)
is_hexadecimal _ = false

-- a number: decimal digits, or hexadecimal digits behind `0x`
abbrev pub cell_number : List ℕ → Option ℕ
cell_number text = if is_hexadecimal text then number_in 16 (drop 2 text) else number_in 10 text

-- the truth value that a text names: true by `yes` or `true`, false by `no` or `false`, in any capitals
abbrev pub cell_truth : List ℕ → Option Bool
cell_truth text =
    if str_eq_ignore_ascii_case text (codes "yes") || str_eq_ignore_ascii_case text (codes "true") then Some true
    else if str_eq_ignore_ascii_case text (codes "no") || str_eq_ignore_ascii_case text (codes "false") then Some false
    else None

-- a word: 1 to 4 hexadecimal digits
abbrev pub cell_word : List ℕ → Option ℕ
cell_word text = if nat_le (length text) 4 then number_in 16 text else None

-- a word before others, if it is one and they are
abbrev pub word_before : Option ℕ → Option (List ℕ) → Option (List ℕ)
word_before (Some word) (Some words) = Some (word ∷ words)
word_before _ _ = None

-- the words that parts are, of which empty ones are passed over, if each other is a word
abbrev pub words_of_parts : List (List ℕ) → Option (List ℕ)
words_of_parts [] = Some []
words_of_parts (part ∷ parts) = if has_no_text part then words_of_parts parts else word_before (cell_word part) (words_of_parts parts)

-- words with spaces between them
abbrev pub cell_words : List ℕ → Option (List ℕ)
cell_words text = words_of_parts (slice_split (λ b. b == 32) text)

-- a boolean, or else the text itself
abbrev pub value_or : Option Bool → List ℕ → Data
value_or (Some b) text = boolean b
value_or None text = string text

-- a number, or else a boolean or the text itself
abbrev pub value_from : Option ℕ → List ℕ → Data
value_from (Some n) text = integer (pos n)
value_from None text = value_or (cell_truth text) text

-- the value of a text: a number, a truth value, or else the text
abbrev pub cell_value : List ℕ → Data
cell_value text = value_from (cell_number text) text
