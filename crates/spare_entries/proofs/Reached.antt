-- When terminals that differ in their legal cells alone, or in their initial words alone, are the same.
use Rattle.std.proofs.Common.{◌≡◌, ◌≤◌, ◌↔◌, ℕ, Bool, true, ◌&&◌, ◌||◌, cond, nat_le, refl, ap, arith}
use Rattle.bus_word.specs.declared.cell.Cell.{Cell}
use Rattle.bus_word.specs.declared.cell.Cell.TheVariants.{OwnReceive, OwnTransmit, BroadReceive, OwnMode}
use Rattle.bus_word.specs.Cell.{is_allowed}
use Rattle.bus_legal.specs.Description.{Description}
use Rattle.bus_legal.specs.Reach.{any_count, largest_count, is_heard, can_wrap, can_transmit, reach}
use Rattle.bus_legal.proofs.Bools.{right_of}
use Rattle.bus_legal.proofs.Descriptions.{same_description, reach-reach}
use Rattle.terminal_rules.specs.Same.{Same}
use Rattle.terminal_rules.proofs.Reach.Same.{same_where_reached, outs_from-reach}
use Rattle.terminal_exchanges.proofs.Distinguish.Reached.{IsReached}
use Rattle.bus_canon.proofs.SameLaws.{same_in_all}

-- a description of which the tests of `bus_canon` tell all that is in reach: transmit status word is legal
pub record IsAsked (P : Description) : Type 0 where
  pub low : P.address ≤ 30
  pub asks : P.legal (OwnMode 2) ≡ true
  pub allowed : (cell : Cell) → P.legal cell ≡ true → is_allowed cell ≡ true

reached : (P : Description) → IsAsked P → IsReached (reach P)
reached P is = search (arith, reach-reach, right_of)

-- terminals are the same exactly if they have the same in reach
pub same_in_reach : (P Q : Description) → IsAsked P → IsAsked Q → Same P Q ↔ (reach P ≡ reach Q)
same_in_reach P Q p q = search (arith, same_in_all, reached, outs_from-reach, same_where_reached)

-- with other legal cells the same is in reach exactly if the same cells are legal of those that are meant for the terminal
pub same_cells : (P : Description) (legal : Cell → Bool) → (reach P ≡ reach (record P { legal = legal })) ↔ ((cell : Cell) → (is_heard P.broadcast cell && P.legal cell) ≡ (is_heard P.broadcast cell && legal cell))
same_cells P legal = ((λ e cell. ap (λ (D : Description). D.legal cell) e), made)
  where
    made : ((cell : Cell) → (is_heard P.broadcast cell && P.legal cell) ≡ (is_heard P.broadcast cell && legal cell)) → reach P ≡ reach (record P { legal = legal })
    made same =
        let wraps : can_wrap P P.wrap ≡ can_wrap (record P { legal = legal }) P.wrap =
        (λ j. any_count (λ n. same (OwnReceive P.wrap n) j || same (BroadReceive P.wrap n) j) && any_count (λ n. same (OwnTransmit P.wrap n) j)) in
        let sends : (s i : ℕ) → can_transmit P s i ≡ can_transmit (record P { legal = legal }) s i =
        (λ s i j. nat_le 1 i && nat_le i (largest_count (λ n. same (OwnTransmit s n) j))) in
        same_description (reach P) (reach (record P { legal = legal })) refl refl
        (ap (λ b. cond b P.wrap 0) wraps)
        (ap (λ b. b && P.accept) (same (OwnMode 0)))
        (ap (λ b. cond b P.vector 0) (same (OwnMode 16)))
        (ap (λ b. cond b P.bit 0) (same (OwnMode 19)))
        (λ s i. ap (λ b. cond b (P.initial s i) 0) (sends s i))
        same

kept_alike : (t : Bool) (a b : ℕ) → (cond t a 0 ≡ cond t b 0) ↔ (t ≡ true → a ≡ b)
kept_alike t a b = search arith

-- with other initial words the same is in reach exactly if those are the same that some legal command makes the terminal transmit
pub same_words : (P : Description) (initial : ℕ → ℕ → ℕ) → (reach P ≡ reach (record P { initial = initial })) ↔ ((s i : ℕ) → can_transmit P s i ≡ true → P.initial s i ≡ initial s i)
same_words P initial = (
  (λ e s i. (kept_alike (can_transmit P s i) (P.initial s i) (initial s i)).0 (ap (λ (D : Description). D.initial s i) e)),
  (λ same. same_description (reach P) (reach (record P { initial = initial })) refl refl refl refl refl refl (λ s i. (kept_alike (can_transmit P s i) (P.initial s i) (initial s i)).1 (same s i)) (λ cell. refl)),
)
