-- Of what no exchange says anything, exchanges alone say nothing.
use Rattle.std.proofs.Common.{◌≡◌, ℕ, zero, suc, Bool, true, false, ◌&&◌, if◌then◌else◌, Option, Some, None, List, [], ◌∷◌, refl, ap, ◌∙◌}
use Rattle.std.proofs.lemmas.Bool.{and_parts}
use Rattle.bus_legal.specs.Description.{Description}
use Rattle.terminal_rules.specs.LookBack.{latest, since}
use Rattle.terminal_rules.specs.History.{Noted}
use Rattle.terminal_rules.specs.SinceReset.{is_reset, since_reset}
use Rattle.terminal_exchanges.specs.Exchanges.{Exchange}
use Rattle.terminal_exchanges.specs.ExchangeLaws.{ending_of_exchange}
use Rattle.terminal_exchanges.proofs.Notes.{word_note, command_note, gap_note, slot_note, slot_notes, notes_at_gap, exchange_notes}
use Rattle.terminal_exchanges.proofs.Distinguish.Quiet.{notes_at, exchange_back}

-- each of some exchanges passes
abbrev pub all_pass : (Exchange → Bool) → List Exchange → Bool
all_pass ok [] = true
all_pass ok (x ∷ xs) = ok x && all_pass ok xs

-- whatever they are
pub any : Exchange → Bool
any x = true

pub all_any : (xs : List Exchange) → all_pass any xs ≡ true
unfolding any
all_any [] = refl
all_any (x ∷ xs) = all_any xs

module _ {Y : Type 0} (P : Description) (f : Noted → Option Y) (words : (d : ℕ) → f (word_note d) ≡ None) (commands : (c : ℕ) → f (command_note P c) ≡ None)
    (slots : (k : List Noted) → f (slot_note k) ≡ None) where
  one_more : (p : Noted) (h : List Noted) → f p ≡ None → latest f (since_reset h) ≡ None → latest f (since_reset (p ∷ h)) ≡ None
  one_more p h silent before = by_reset (is_reset p)
    where
      by_reset : (r : Bool) → latest f (if r then [] else p ∷ since is_reset h) ≡ None
      by_reset true = refl
      by_reset false = ap (λ o. elim o as (λ o. Option Y) [ None ↦ latest f (since is_reset h) | Some y ↦ Some y ]) silent ∙ before

  slots_more : (n : ℕ) (h : List Noted) → latest f (since_reset h) ≡ None → latest f (since_reset (slot_notes n h)) ≡ None
  slots_more zero h before = before
  slots_more (suc n) h before = slots_more n (slot_note h ∷ h) (one_more (slot_note h) h (slots h) before)

  pub nothing_said : (ok : Exchange → Bool) → ((x : Exchange) (k : List Noted) → ok x ≡ true → f (gap_note k (ending_of_exchange P x)) ≡ None) →
      (xs : List Exchange) → all_pass ok xs ≡ true → latest f (since_reset (exchange_notes P xs)) ≡ None
  nothing_said ok gaps [] passed = refl
  nothing_said ok gaps (x ∷ xs) passed =
      let both : (ok x ≡ true) × (all_pass ok xs ≡ true) = and_parts (ok x) (all_pass ok xs) passed in
      let k : List Noted = notes_at P xs x in
      slots_more x.slots (notes_at_gap P x (exchange_notes P xs))
      (one_more (gap_note k (ending_of_exchange P x)) k (gaps x k both.0)
      (exchange_back P f x (exchange_notes P xs) words (commands x.command) ∙ nothing_said ok gaps xs both.1))
