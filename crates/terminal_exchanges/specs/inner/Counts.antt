-- Word counts in masks, in which bit n - 1 stands for a word count of n.
use Rattle.std.specs.Prelude.{ℕ, ◌-◌}
use Rattle.bus_word.specs.Mask.{has_bit}
use Rattle.terminal_exchanges.specs.Distinguish.{least_count}

-- the least word count in a mask, or 0 where there is none
abbrev pub least_in : ℕ → ℕ
least_in mask = least_count (λ count. has_bit mask (count - 1))
