use Rattle.std.proofs.Common.{◌≡◌, ◌<◌, ◌+◌, ◌-◌, ℕ, true, get_or}
use Rattle.spare_entries.specs.inner.Words.{is_held}
use Rattle.spare_entries.proofs.initials.is_spare.Given as goal

-- the words so far that are held are those of the row
abbrev pub invariant-loop-word : goal.invariant-loop-word
invariant-loop-word l = (w : ℕ) → w < l.word → is_held l.entry l.last l.largest w ≡ true → get_or l.entry.words w 0 ≡ get_or l.row (l.entry.first - 1 + w) 0
