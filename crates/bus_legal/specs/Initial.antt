-- The words that a profile sets up at power-up.
use Rattle.std.specs.Prelude.{ℕ, ◌+◌, ◌-◌, Bool, ◌&&◌, ◌==◌, nat_le, nat_lt, List, Option, Some, None, get_or}
use Rattle.bus_legal.specs.declared.entries.InitialWords.{InitialWords}
use Rattle.bus_legal.specs.Last.{last_of}

-- the entry gives a word of this number
abbrev pub gives_number : ℕ → InitialWords → Bool
gives_number number e = nat_le e.first number && nat_lt number (e.first + e.len)

-- the entry gives the word of this number of this subaddress
abbrev pub gives : ℕ → ℕ → InitialWords → Bool
gives subaddress number e = (subaddress == e.subaddress) && gives_number number e

-- the word of this number that the entry gives, or a default where there is no entry
abbrev pub word_given : ℕ → ℕ → Option InitialWords → ℕ
word_given default number None = default
word_given default number (Some e) = get_or e.words (number - e.first) 0

-- The word that a subaddress holds at power-up: that of the last initial entry that gives it, or 0.
abbrev pub initial_word : List InitialWords → ℕ → ℕ → ℕ
initial_word entries subaddress number = word_given 0 number (last_of (gives subaddress number) entries)
