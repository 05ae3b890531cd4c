-- Words can come back where the masks of a `Normal` say so.
use Rattle.std.proofs.Common.{◌≡◌, ℕ, ◌≤◌, Bool, true, false, ◌&&◌, ◌||◌, nat_le, if◌then◌else◌, [], ◌∷◌, map, refl, ap, sym, ◌∙◌, arith}
use Rattle.std.proofs.lemmas.Bool.Decides.{nat_tests}
use Rattle.bus_word.specs.declared.cell.Cell.TheVariants.{OwnReceive, OwnTransmit, BroadReceive}
use Rattle.bus_legal.specs.Description.{Description}
use Rattle.bus_legal.specs.Reach.{any_count, can_wrap}
use Rattle.bus_legal.specs.Tables.{masks_wrap, tables_say}
use Rattle.bus_legal.specs.Parts.{Parts, description_in, IsNormal}
use Rattle.bus_legal.proofs.TablesReach.{masks_wrap-said}
use Rattle.terminal_exchanges.specs.declared.exchange.Exchange.{Exchange as Value}
use Rattle.terminal_exchanges.specs.Distinguish.{shortest_receive, shortest_transmit, sent_back}
use Rattle.terminal_exchanges.specs.Values.{exchange_in}
use Rattle.terminal_exchanges.proofs.Distinguish.Reached.{normal-reached, legal_heard}
use Rattle.bus_complete_test.specs.CompleteTest.{wraparound_tried}

inside : (s : ℕ) → 1 ≤ s → s ≤ 30 → nat_le 1 s && nat_le s 30 ≡ true
inside s low high = grind (arith, nat_tests)

pub wraps_said : (v : Parts) (s : ℕ) → IsNormal v → 1 ≤ s → s ≤ 30 → can_wrap (description_in v) s ≡ masks_wrap v.tables s
wraps_said v s normal low high =
    (λ j. any_count (λ n. tables_say v.tables (OwnReceive s n) || heard n j) && any_count (λ n. tables_say v.tables (OwnTransmit s n)))
    ∙ masks_wrap-said v.tables s (inside s low high) normal.own_receive normal.own_transmit normal.broadcast_receive
  where
    heard : (n : ℕ) → v.broadcast && tables_say v.tables (BroadReceive s n) ≡ tables_say v.tables (BroadReceive s n)
    heard n = by_legal (tables_say v.tables (BroadReceive s n)) refl
      where
        and_false : (b : Bool) → b && false ≡ false
        and_false true = refl
        and_false false = refl

        by_legal : (l : Bool) → tables_say v.tables (BroadReceive s n) ≡ l → v.broadcast && l ≡ l
        by_legal true e = ap (λ b. b && true) (legal_heard (description_in v) (BroadReceive s n) (normal-reached v normal) e)
        by_legal false e = and_false v.broadcast

-- the two exchanges, or none
pub tried_back : (P : Description) (s : ℕ) (a b : Value) → can_wrap P s ≡ true → exchange_in a ≡ shortest_receive P s → exchange_in b ≡ shortest_transmit P s → map exchange_in (a ∷ b ∷ []) ≡ wraparound_tried P s
tried_back P s a b wraps e f = (λ j. e j ∷ f j ∷ []) ∙ ap (λ b. if b then sent_back P s else []) (sym wraps)

pub tried_none : (P : Description) (s : ℕ) → can_wrap P s ≡ false → [] ≡ wraparound_tried P s
tried_none P s wraps = ap (λ b. if b then sent_back P s else []) (sym wraps)
