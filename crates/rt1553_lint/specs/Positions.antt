-- Lines and columns of a text.
use Rattle.std.specs.Prelude.{ℕ, ◌+◌, Bool, not, ◌||◌, ◌==◌, nat_lt, nat_le, List, take, reverse, take_while, count_by}
use Rattle.rt1553_lint.specs.declared.finding.Position.{Position}

-- the byte is a line feed
abbrev pub is_feed : ℕ → Bool
is_feed byte = byte == 10

-- a character begins with this byte: it is no continuation byte of UTF-8
abbrev pub begins_character : ℕ → Bool
begins_character byte = nat_lt byte 0x80 || nat_le 0xC0 byte

-- the bytes before a place, the nearest first, up to a line feed
abbrev pub back_to_feed : List ℕ → ℕ → List ℕ
back_to_feed text place = take_while (λ byte. not (is_feed byte)) (reverse (take place text))

-- the line of a place: one more than the line feeds before it
abbrev pub line_of_place : List ℕ → ℕ → ℕ
line_of_place text place = count_by is_feed (take place text) + 1

-- the column of a place: one more than the characters before it in its line
abbrev pub column_at : List ℕ → ℕ → ℕ
column_at text place = count_by begins_character (back_to_feed text place) + 1

-- the line and the column of a place
abbrev pub position_in : List ℕ → ℕ → Position
position_in text place = record { line = line_of_place text place; column = column_at text place }
