-- The reply in progress after so many of its words were sent, by the number of the next one.
use Rattle.std.proofs.Common.{◌≡◌, ℕ, zero, suc, ◌+◌, ◌-◌, Bool, true, false, nat_le, if◌then◌else◌, Option, Some, None, refl, ◌∙◌, arith}
use Rattle.std.proofs.lemmas.Bool.Decides.{nat_tests}
use Rattle.terminal_rules.specs.History.{Replying}
use Rattle.terminal_rules.specs.Reply.{words_after_status}
use Rattle.terminal_state.specs.Replies.{sent_many}

pub sent_none : (k : ℕ) → (let none : Option Replying = None in sent_many k none ≡ none)
sent_none zero = refl
sent_none (suc k) = sent_none k

-- with m words sent, of w after the status
abbrev later : Replying → ℕ → ℕ → Option Replying
later r k w = if nat_le k (w - r.number) then Some (record r { number = r.number + k }) else None

pub sent_law : (k : ℕ) (r : Replying) → sent_many k (Some r) ≡ later r k (words_after_status r.cell)
sent_law zero r = grind (arith, nat_tests)
sent_law (suc k) r = by_test (sent_law k (record r { number = suc r.number })) (nat_le (suc r.number) (words_after_status r.cell)) refl
  where
    by_test : sent_many k (Some (record r { number = suc r.number })) ≡ later (record r { number = suc r.number }) k (words_after_status r.cell) →
        (t : Bool) → nat_le (suc r.number) (words_after_status r.cell) ≡ t →
        sent_many k (if t then Some (record r { number = suc r.number }) else None) ≡ later r (suc k) (words_after_status r.cell)
    by_test law true e = law ∙ grind (arith, nat_tests)
    by_test law false e = sent_none k ∙ grind (arith, nat_tests)
