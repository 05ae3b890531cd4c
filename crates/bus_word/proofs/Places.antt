-- What holds of a subaddress of data, 1 to 30, and a word count or the number of a word, 1 to 32.
use Rattle.std.proofs.Common.{◌≡◌, ℕ, ◌-◌, ◌<◌, ◌≤◌, true, arith}
use Rattle.std.proofs.lemmas.Bool.Decides.{nat_tests}
use Rattle.bus_word.specs.Cell.{is_data_place}

pub place_above : (s n : ℕ) → is_data_place s n ≡ true → 1 ≤ s
place_above s n e = grind (arith, nat_tests)

pub place_from : (s n : ℕ) → is_data_place s n ≡ true → 1 ≤ n
place_from s n e = grind (arith, nat_tests)

pub place_count : (s n : ℕ) → is_data_place s n ≡ true → n ≤ 32
place_count s n e = grind (arith, nat_tests)

-- in tables they are counted from 0
pub place_low : (s n : ℕ) → is_data_place s n ≡ true → s - 1 < 30
place_low s n e = grind (arith, nat_tests)

pub place_high : (s n : ℕ) → is_data_place s n ≡ true → n - 1 < 32
place_high s n e = grind (arith, nat_tests)
