-- What the cells of a monitor's table say: times, buses, syncs and words.
use Rattle.std.specs.Prelude.{ℕ, ◌≡◌, ◌+◌, ◌-◌, ◌*◌, ◌^◌, ◌<◌, Bool, true, false, ◌&&◌, ◌||◌, ◌==◌, nat_le, if◌then◌else◌, List, [], ◌∷◌, Option, Some, None, length, drop, codes, slice_index}
use Rattle.std.specs.Char.{is_ascii_digit}
use Rattle.std.specs.List.{list_all, position_or_len, before_first, slice_split}
use Rattle.std.specs.Str.{str_eq_ignore_ascii_case}
use Rattle.std.specs.Str.Parse.{IsNumeral, digits_value}
use Rattle.bus_word.specs.declared.word.Bus.{Bus}
use Rattle.bus_word.specs.declared.word.Bus.TheVariants.{A, B}
use Rattle.bus_word.specs.declared.word.Kind.{Kind}
use Rattle.bus_word.specs.declared.word.Kind.TheVariants.{Com, Dat}
use Rattle.script_lines.specs.Digits.{word_of}
use Rattle.monitor_cells.specs.declared.cells.WordSync.{WordSync}
use Rattle.monitor_cells.specs.declared.cells.WordSync.TheVariants.{Command, Data, Status}

-- there is text
abbrev pub is_some_text : List ℕ → Bool
is_some_text [] = false
is_some_text (b ∷ bs) = true

-- ---- times

-- the byte is a dot
abbrev pub is_dot : ℕ → Bool
is_dot b = b == 46

-- the byte is a decimal digit or a dot
abbrev pub is_time_byte : ℕ → Bool
is_time_byte b = is_ascii_digit b || is_dot b

-- a text of digits and dots, that has room in a comment of a script
abbrev pub is_time_text : List ℕ → Bool
is_time_text text = nat_le (length text) 60 && list_all is_time_byte text

-- a number of microseconds: decimal digits, below 10 ^ 16
abbrev pub IsMicros : List ℕ → Type 0
IsMicros digits = IsNumeral 10 digits × (digits_value 10 digits < 10 ^ 16)

-- what follows the digits of a number is nothing, or a dot and digits, one or more
abbrev pub is_fraction : List ℕ → Bool
is_fraction [] = true
is_fraction (d ∷ []) = false
is_fraction (d ∷ b ∷ bs) = list_all is_ascii_digit (b ∷ bs)

-- the text is a time: a number of microseconds, and perhaps a fraction behind a dot
pub record IsTime (text : List ℕ) : Type 0 where
  pub plain : is_time_text text ≡ true
  pub micros : IsMicros (before_first is_dot text)
  pub fraction : is_fraction (drop (position_or_len is_dot text) text) ≡ true

-- the thousandths that digits behind a dot write: the first three count, and one that is missing is a 0
abbrev pub thousandths : List ℕ → ℕ
thousandths digits = (slice_index digits 0 - 48) * 100 + (slice_index digits 1 - 48) * 10 + (slice_index digits 2 - 48)

-- the nanoseconds of a time
abbrev pub time_said : List ℕ → ℕ
time_said text = digits_value 10 (before_first is_dot text) * 1000 + thousandths (drop 1 (drop (position_or_len is_dot text) text))

-- the unit of a time's last digit, in nanoseconds, by what follows the digits of its number; digits behind nanoseconds do not count
abbrev pub unit_of : List ℕ → ℕ
unit_of (d ∷ a ∷ []) = 100
unit_of (d ∷ a ∷ b ∷ []) = 10
unit_of (d ∷ a ∷ b ∷ c ∷ more) = 1
unit_of _ = 1000

-- the unit of a time
abbrev pub unit_said : List ℕ → ℕ
unit_said text = unit_of (drop (position_or_len is_dot text) text)

-- ---- names

-- the text is this name, small or capital
abbrev pub is_headed : List ℕ → List ℕ → Bool
is_headed name text = str_eq_ignore_ascii_case text name

-- the bus: `A` or `B`, small or capital
abbrev pub bus_said : List ℕ → Option Bus
bus_said (b ∷ []) = if (b == 65) || (b == 97) then Some A else if (b == 66) || (b == 98) then Some B else None
bus_said _ = None

-- the sync: `c`, `d` or `s`, or the whole words, small or capital
abbrev pub sync_said : List ℕ → Option WordSync
sync_said text =
    if is_headed (codes "c") text || is_headed (codes "command") text then Some Command
    else if is_headed (codes "d") text || is_headed (codes "data") text then Some Data
    else if is_headed (codes "s") text || is_headed (codes "status") text then Some Status
    else None

-- the kind of a word of this sync
abbrev pub kind_of_sync : WordSync → Kind
kind_of_sync Command = Com
kind_of_sync Data = Dat
kind_of_sync Status = Com

-- ---- words

-- the word: four hexadecimal digits, small or capital, and perhaps `0x` or `0X` before them
abbrev pub word_said : List ℕ → Option ℕ
word_said (a ∷ b ∷ c ∷ d ∷ []) = word_of (a ∷ b ∷ c ∷ d ∷ [])
word_said (z ∷ x ∷ a ∷ b ∷ c ∷ d ∷ []) = if (z == 48) && ((x == 120) || (x == 88)) then word_of (a ∷ b ∷ c ∷ d ∷ []) else None
word_said _ = None

-- a word before others, if it is one and they are
abbrev pub word_ahead : Option ℕ → Option (List ℕ) → Option (List ℕ)
word_ahead (Some word) (Some words) = Some (word ∷ words)
word_ahead _ _ = None

-- the words that parts are, of which empty ones are passed over, if each other is a word
abbrev pub words_of : List (List ℕ) → Option (List ℕ)
words_of [] = Some []
words_of (part ∷ parts) = if is_some_text part then word_ahead (word_said part) (words_of parts) else words_of parts

-- words with spaces between them
abbrev pub words_listed : List ℕ → Option (List ℕ)
words_listed text = words_of (slice_split (λ b. b == 32) text)
