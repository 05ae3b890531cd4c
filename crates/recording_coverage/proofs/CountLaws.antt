-- One more message is counted.
use Rattle.std.proofs.Common.{◌≡◌, ◌≢◌, ℕ, ◌+◌, ◌<◌, Bool, true, false, ◌&&◌, cond, ◌==◌, nat_lt, count_by, List, [], ◌∷◌, ◌++◌, length, get_or, set, refl, ap, sym, subst, ◌∙◌, arith}
use Rattle.std.proofs.lemmas.Bool.{eqb-true}
use Rattle.std.proofs.lemmas.Bool.Decides.{nat_tests}
use Rattle.std.proofs.lemmas.List.{get_or-set_same, get_or-set_other}
use Rattle.std.proofs.lemmas.List.Sums.{sum_by_push, sum_by-cons}
use Rattle.std.proofs.Math.ListN.{length-set}
use Rattle.recording_coverage.specs.declared.coverage.Coverage.{Coverage}
use Rattle.recording_coverage.specs.declared.outcome.MessageEnd.{MessageEnd}
use Rattle.terminal_messages.specs.declared.ending.MessageEnding.{MessageEnding}
use Rattle.terminal_messages.specs.declared.ending.MessageEnding.TheVariants.{Other, Open, Ignored, Superseded, InError, Illegal, Busy, Done}
use Rattle.terminal_messages.specs.Laws.{says_error, says_illegal, says_busy, says_done}
use Rattle.recording_coverage.specs.declared.outcome.OutcomeCounts.{OutcomeCounts}
use Rattle.recording_coverage.specs.Endings.{says_superseded, says_open, times, saturated, counts_of}
use Rattle.recording_coverage.specs.Messages.{message_number}
use Rattle.recording_coverage.specs.Covers.{Covers, no_counts}
use Rattle.recording_coverage.specs.inner.Counted.{with_one, with_one_at}

counted_more : (n : ℕ) → saturated (n + 1) ≡ saturated (saturated n + 1)
counted_more n = omega arith

-- the counts with one message more
abbrev more : (ℕ → Bool) → MessageEnd → OutcomeCounts → OutcomeCounts
more p m c = cond (p m.command) (with_one m.ending c) c

abbrev one : Bool → ℕ
one b = cond b 1 0

-- the counts of six numbers
abbrev six : ℕ → ℕ → ℕ → ℕ → ℕ → ℕ → OutcomeCounts
six a b c d e f = record { in_error = saturated a; illegal = saturated b; blocked = saturated c; done = saturated d; superseded = saturated e; left_open = saturated f }

zero_more : (n : ℕ) → n + 0 ≡ n
zero_more n = omega arith

more_six : (t : Bool) (o : MessageEnding) (a b c d e f : ℕ) →
    six (a + one (t && says_error o)) (b + one (t && says_illegal o)) (c + one (t && says_busy o)) (d + one (t && says_done o)) (e + one (t && says_superseded o)) (f + one (t && says_open o)) ≡ cond t (with_one o (six a b c d e f)) (six a b c d e f)
more_six false o a b c d e f = λ j. six (zero_more a j) (zero_more b j) (zero_more c j) (zero_more d j) (zero_more e j) (zero_more f j)
more_six true (InError cause) a b c d e f = λ j. record { in_error = counted_more a j; illegal = saturated (zero_more b j); blocked = saturated (zero_more c j); done = saturated (zero_more d j); superseded = saturated (zero_more e j); left_open = saturated (zero_more f j) }
more_six true Illegal a b c d e f = λ j. record { in_error = saturated (zero_more a j); illegal = counted_more b j; blocked = saturated (zero_more c j); done = saturated (zero_more d j); superseded = saturated (zero_more e j); left_open = saturated (zero_more f j) }
more_six true Busy a b c d e f = λ j. record { in_error = saturated (zero_more a j); illegal = saturated (zero_more b j); blocked = counted_more c j; done = saturated (zero_more d j); superseded = saturated (zero_more e j); left_open = saturated (zero_more f j) }
more_six true Done a b c d e f = λ j. record { in_error = saturated (zero_more a j); illegal = saturated (zero_more b j); blocked = saturated (zero_more c j); done = counted_more d j; superseded = saturated (zero_more e j); left_open = saturated (zero_more f j) }
more_six true Superseded a b c d e f = λ j. record { in_error = saturated (zero_more a j); illegal = saturated (zero_more b j); blocked = saturated (zero_more c j); done = saturated (zero_more d j); superseded = counted_more e j; left_open = saturated (zero_more f j) }
more_six true Open a b c d e f = λ j. record { in_error = saturated (zero_more a j); illegal = saturated (zero_more b j); blocked = saturated (zero_more c j); done = saturated (zero_more d j); superseded = saturated (zero_more e j); left_open = counted_more f j }
more_six true Other a b c d e f = λ j. six (zero_more a j) (zero_more b j) (zero_more c j) (zero_more d j) (zero_more e j) (zero_more f j)
more_six true (Ignored cause) a b c d e f = λ j. six (zero_more a j) (zero_more b j) (zero_more c j) (zero_more d j) (zero_more e j) (zero_more f j)

times_more : (p : ℕ → Bool) (says : MessageEnding → Bool) (ends : List MessageEnd) (m : MessageEnd) → times p says (ends ++ m ∷ []) ≡ times p says ends + one (p m.command && says m.ending)
times_more p says ends m = sum_by_push (λ x. one (p x.command && says x.ending)) ends m

counts_more : (p : ℕ → Bool) (ends : List MessageEnd) (m : MessageEnd) → counts_of p (ends ++ m ∷ []) ≡ more p m (counts_of p ends)
counts_more p ends m =
    (λ j. six (times_more p says_error ends m j) (times_more p says_illegal ends m j) (times_more p says_busy ends m j) (times_more p says_done ends m j) (times_more p says_superseded ends m j) (times_more p says_open ends m j))
    ∙ more_six (p m.command) m.ending (times p says_error ends) (times p says_illegal ends) (times p says_busy ends) (times p says_done ends) (times p says_superseded ends) (times p says_open ends)

-- the table after one more
table_at : (n k : ℕ) (o : MessageEnding) (table : List OutcomeCounts) → n < length table → get_or (with_one_at n o table) k no_counts ≡ cond (n == k) (with_one o (get_or table k no_counts)) (get_or table k no_counts)
table_at n k o table l = ap (λ b. get_or (cond b (set table n (with_one o (get_or table n no_counts))) table) k no_counts) within ∙ by_same (n == k) refl
  where
    within : nat_lt n (length table) ≡ true
    within = grind (arith, nat_tests)

    by_same : (b : Bool) → (n == k) ≡ b → get_or (set table n (with_one o (get_or table n no_counts))) k no_counts ≡ cond b (with_one o (get_or table k no_counts)) (get_or table k no_counts)
    by_same true e =
        let at : n ≡ k = eqb-true n k e in
        subst (λ i. get_or (set table n (with_one o (get_or table n no_counts))) i no_counts ≡ with_one o (get_or table i no_counts)) at (get_or-set_same table n (with_one o (get_or table n no_counts)) no_counts l)
    by_same false e =
        let other : k ≢ n = λ same. absurd (grind (arith, nat_tests)) in
        get_or-set_other table n k (with_one o (get_or table n no_counts)) no_counts other

long_still : (n : ℕ) (o : MessageEnding) (table : List OutcomeCounts) → length (with_one_at n o table) ≡ length table
long_still n o table = by_within (nat_lt n (length table))
  where
    by_within : (b : Bool) → length (cond b (set table n (with_one o (get_or table n no_counts))) table) ≡ length table
    by_within true = length-set table n (with_one o (get_or table n no_counts))
    by_within false = refl

-- this message more
pub covers_one : (ends : List MessageEnd) (m : MessageEnd) (n : ℕ) (old new : Coverage) → n ≡ message_number m.command → n < 4096
    → new.counts.items ≡ with_one_at n m.ending old.counts.items → Covers ends old → Covers (ends ++ m ∷ []) new
covers_one ends m n old new at few is covers = record {
  room = ap (λ t. length t) is ∙ (long_still n m.ending old.counts.items ∙ covers.room);
  each = λ k l.
      let p : ℕ → Bool = λ d. message_number d == k in
      let within : n < length old.counts.items = subst (λ r. n < r) (sym covers.room) few in
      ap (λ t. get_or t k no_counts) is
      ∙ (table_at n k m.ending old.counts.items within
      ∙ (ap (λ c. cond (n == k) (with_one m.ending c) c) (covers.each k l)
      ∙ (ap (λ i. cond (i == k) (with_one m.ending (counts_of p ends)) (counts_of p ends)) at
      ∙ sym (counts_more p ends m))));
}

-- the counts of a message are those at its number
pub counts_at : (ends : List MessageEnd) (c : Coverage) (n : ℕ) (found : OutcomeCounts) → n < 4096 → found ≡ get_or c.counts.items n no_counts → Covers ends c → found ≡ counts_of (λ d. message_number d == n) ends
counts_at ends c n found few is covers = is ∙ covers.each n few

pub counts_in : (ends : List MessageEnd) (c : Coverage) (command n : ℕ) (found : OutcomeCounts) → n ≡ message_number command → n < 4096 → found ≡ get_or c.counts.items n no_counts → Covers ends c
    → found ≡ counts_of (λ d. message_number d == message_number command) ends
counts_in ends c command n found at few is covers = counts_at ends c n found few is covers ∙ ap (λ k. counts_of (λ d. message_number d == k) ends) at

-- of commands of which none passes, nothing is counted
no_times : (ends : List MessageEnd) → count_by (λ (m : MessageEnd). false) ends ≡ 0
no_times [] = refl
no_times (m ∷ ends) = let rest = no_times ends in sum_by-cons (λ (x : MessageEnd). cond false 1 0) m ends ∙ omega (arith, rest)

none_times : (p : ℕ → Bool) → ((d : ℕ) → p d ≡ false) → (says : MessageEnding → Bool) (ends : List MessageEnd) → times p says ends ≡ 0
none_times p none says ends = (λ j. count_by (λ m. none m.command j && says m.ending) ends) ∙ no_times ends

pub counts_none : (p : ℕ → Bool) → ((d : ℕ) → p d ≡ false) → (ends : List MessageEnd) → no_counts ≡ counts_of p ends
counts_none p none ends = λ j. six (sym (none_times p none says_error ends) j) (sym (none_times p none says_illegal ends) j) (sym (none_times p none says_busy ends) j) (sym (none_times p none says_done ends) j) (sym (none_times p none says_superseded ends) j) (sym (none_times p none says_open ends) j)
