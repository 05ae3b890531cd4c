use Rattle.std.proofs.Common.{◌≡◌, ◌<◌, ◌≤◌, ◌↔◌, ℕ, true, get_or, IsTrue}
use Rattle.bus_word.specs.Mask.{has_bit}
use Rattle.spare_entries.specs.inner.Words.{is_held}
use Rattle.spare_entries.proofs.initials.spare_words.Given as goal

-- the bits of the words so far are made, and the others are set
abbrev pub invariant-loop-word : goal.invariant-loop-word
invariant-loop-word l = record {
  made : (w : ℕ) → w < l.word → IsTrue (has_bit l.spare w) ↔ (is_held l.entry l.last l.largest w ≡ true → get_or l.entry.words w 0 ≡ 0);
  left : (w : ℕ) → l.word ≤ w → w < 32 → has_bit l.spare w ≡ true;
}
