-- What stands between the fields of a text.
use Rattle.std.specs.Prelude.{ℕ, ◌==◌, ◌||◌, ◌&&◌, not, Bool, false, if◌then◌else◌, List, [], ◌∷◌}

-- a comma, a semicolon or a tab
abbrev pub is_delimiter : ℕ → Bool
is_delimiter b = (b == 44) || ((b == 59) || (b == 9))

-- the first delimiter outside quotes, from a place on that is within quotes or not; a comma without one
abbrev pub delimiter_from : Bool → List ℕ → ℕ
delimiter_from within [] = 44
delimiter_from within (b ∷ bs) = if b == 34 then delimiter_from (not within) bs else if not within && is_delimiter b then b else delimiter_from within bs

-- the first delimiter of a text outside quotes, or a comma
abbrev pub delimiter_of : List ℕ → ℕ
delimiter_of text = delimiter_from false text
