-- Dates with times, as XML Schema and JUnit write them.
use Rattle.std.specs.Prelude.{ℕ, ◌+◌, ◌-◌, ◌*◌, ◌%◌, nat_le, nat_eq, Bool, true, false, ◌&&◌, ◌||◌, not, if◌then◌else◌, List, [], ◌∷◌}

abbrev pub is_between : ℕ → ℕ → ℕ → Bool
is_between low high n = nat_le low n && nat_le n high

-- the number that two decimal digits write: 100 where they are none
abbrev pub digit_pair : ℕ → ℕ → ℕ
digit_pair tens ones = if is_between 48 57 tens && is_between 48 57 ones then (tens - 48) * 10 + (ones - 48) else 100

-- an offset, by its sign, its hours and its minutes: at most 14 hours
abbrev pub is_offset : ℕ → ℕ → ℕ → Bool
is_offset sign hours minutes = (nat_eq sign 43 || nat_eq sign 45) && (is_between 0 59 minutes && is_between 0 840 (hours * 60 + minutes))

-- nothing, Z, or an offset
abbrev pub is_zone : List ℕ → Bool
is_zone [] = true
is_zone (z ∷ []) = nat_eq z 90
is_zone (sign ∷ a ∷ b ∷ colon ∷ c ∷ d ∷ []) = nat_eq colon 58 && is_offset sign (digit_pair a b) (digit_pair c d)
is_zone _ = false

-- HH:MM:SS, and the zone
unfoldable pub is_time : List ℕ → Bool
is_time (a ∷ b ∷ colon ∷ c ∷ d ∷ other ∷ e ∷ f ∷ zone) =
    nat_eq colon 58 && (nat_eq other 58 && (is_between 0 23 (digit_pair a b) && (is_between 0 59 (digit_pair c d) && (is_between 0 59 (digit_pair e f) && is_zone zone))))
is_time _ = false

-- the Gregorian calendar
abbrev pub is_leap : ℕ → Bool
is_leap year = nat_eq (year % 4) 0 && (not (nat_eq (year % 100) 0) || nat_eq (year % 400) 0)

abbrev pub days_in : ℕ → ℕ → ℕ
days_in year month =
    if nat_eq month 2 then (if is_leap year then 29 else 28)
    else if nat_eq month 4 || (nat_eq month 6 || (nat_eq month 9 || nat_eq month 11)) then 30
    else 31

abbrev pub year_of : ℕ → ℕ → ℕ
year_of century rest = century * 100 + rest

-- a year, from 1 to 9999, a month of it, and a day of this
unfoldable pub is_day : ℕ → ℕ → ℕ → ℕ → Bool
is_day century rest month day =
    is_between 0 99 century && (is_between 0 99 rest && (is_between 1 9999 (year_of century rest)
    && (is_between 1 12 month && is_between 1 (days_in (year_of century rest) month) day)))

-- what stands between the numbers
unfoldable pub are_marks : ℕ → ℕ → ℕ → Bool
are_marks dash other t = nat_eq dash 45 && (nat_eq other 45 && nat_eq t 84)

-- YYYY-MM-DDTHH:MM:SS, and the zone
abbrev pub is_date : List ℕ → Bool
is_date (a ∷ b ∷ c ∷ d ∷ dash ∷ e ∷ f ∷ other ∷ g ∷ h ∷ t ∷ time) =
    are_marks dash other t && (is_day (digit_pair a b) (digit_pair c d) (digit_pair e f) (digit_pair g h) && is_time time)
is_date _ = false
