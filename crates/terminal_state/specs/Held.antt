-- The words held ready, as the terminal keeps them: a block that was changed since power-up or the latest
-- reset is its own, and any other is that of power-up.
use Rattle.std.specs.Prelude.{ℕ, Bool, ◌-◌, false, if◌then◌else◌, List, [], get_or}
use Rattle.bus_legal.specs.Description.{word_at}
use Rattle.terminal_rules.specs.History.{Ending}
use Rattle.terminal_rules.specs.SinceReset.{wrapped}
use Rattle.terminal_rules.specs.Steps.{unless_reset}
use Rattle.terminal_state.specs.declared.held.HeldWords.{HeldWords}

-- the words of subaddress s
abbrev pub block_in : HeldWords → ℕ → List ℕ
block_in held s = if get_or held.changed (s - 1) false then get_or held.blocks (s - 1) [] else get_or held.initial (s - 1) []

-- word i of subaddress s
abbrev pub word_in : HeldWords → ℕ → ℕ → ℕ
word_in held s i = get_or (block_in held s) (i - 1) 0

-- word i of subaddress s after a gap ended a message so, with a reset or without
abbrev pub held_after : HeldWords → ℕ → ℕ → ℕ → Bool → Ending → ℕ
held_after held wrap s i resets x = unless_reset resets (word_at held.initial s i) (wrapped wrap s i x) (word_in held s i)
