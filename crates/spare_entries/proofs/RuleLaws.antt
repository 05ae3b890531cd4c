-- A rule has no effect exactly if the tables of the cells that the terminal hears are the same without it.
use Rattle.std.proofs.Common.{◌≡◌, ◌<◌, ◌↔◌, ◌==◌, ℕ, ◌+◌, ◌-◌, Bool, true, false, ◌&&◌, cond, List, map, length, get_or, Option, IsTrue, refl, ap, sym, ◌∙◌, arith}
use Rattle.std.proofs.lemmas.Bool.Decides.{nat_tests}
use Rattle.std.proofs.lemmas.Nat.Bits.{bit_at_ones}
use Rattle.std.proofs.lemmas.List.{length-map}
use Rattle.bus_word.specs.declared.cell.Cell.{Cell}
use Rattle.bus_word.specs.declared.cell.Cell.TheVariants as cell
use Rattle.bus_word.specs.Cell.{is_data_place}
use Rattle.bus_word.specs.Mask.{has_bit}
use Rattle.bus_word.proofs.Places.{place_low, place_high}
use Rattle.bus_legal.specs.declared.entries.Rule.{Rule}
use Rattle.bus_legal.specs.declared.profile.Profile.{Profile}
use Rattle.bus_legal.specs.Legal.{is_legal, rule_says}
use Rattle.bus_legal.specs.Meaning.{description_of}
use Rattle.bus_legal.specs.Reach.{is_heard}
use Rattle.bus_legal.specs.inner.Masks.{bit_said}
use Rattle.bus_legal.proofs.Bools.{guarded}
use Rattle.bus_legal.proofs.LegalLaws.{legal_allowed, own_codes, required_codes}
use Rattle.bus_legal.proofs.TopBit.{zero-bit}
use Rattle.terminal_rules.specs.Same.{Same}
use Rattle.spare_entries.specs.declared.rules.Table.{Table}
use Rattle.spare_entries.specs.declared.rules.Table.TheVariants.{OwnReceive, OwnTransmit, BroadcastReceive}
use Rattle.spare_entries.specs.Without.{without, without_rule}
use Rattle.spare_entries.specs.inner.Says.{what_is_said, bit_after, SameBits, concerns, counts_said, SameMask, SameTable, SameTables}
use Rattle.spare_entries.proofs.LastOf.{over, last_of-map, without-map}
use Rattle.spare_entries.proofs.Tests.{behind}
use Rattle.spare_entries.proofs.Reached.{IsAsked, same_in_reach, same_cells}

-- ---- one table, at one subaddress

said_over : (table : Table) (s : ℕ) (o : Option Rule) → what_is_said false (over (counts_said table s) o) ≡ rule_says o
said_over table s o = search arith

speaks : (a b : Bool) (mask i : ℕ) → has_bit (cond (a && b) mask 0) i ≡ (a && (b && has_bit mask i))
speaks a b mask i = search (arith, zero-bit)

-- the bit that the masks of the rules make is the one that the rules say
bit_after-rules : (table : Table) (rules : List Rule) (s i : ℕ) → bit_after (has_bit 0 i) (map (counts_said table s) rules) i ≡ bit_said (concerns table) rules s i
bit_after-rules table rules s i = search (arith, zero-bit, last_of-map, said_over, speaks)

pub same_mask-said : (table : Table) (rules : List Rule) (k s : ℕ) → SameBits 0 0xffffffff (map (counts_said table s) rules) k ↔ SameMask table rules k s
same_mask-said table rules k s =
    let all : (i : ℕ) → bit_after (has_bit 0 i) (map (counts_said table s) rules) i ≡ bit_said (concerns table) rules s i = bit_after-rules table rules s in
    let less : (i : ℕ) → bit_after (has_bit 0 i) (without k (map (counts_said table s) rules)) i ≡ bit_said (concerns table) (without k rules) s i =
    (λ i. ap (λ said. bit_after (has_bit 0 i) said i) (without-map (counts_said table s) k rules) ∙ bit_after-rules table (without k rules) s i) in (
      λ same i l. sym (all i) ∙ (same i l (ap (λ b. b == 1) (bit_at_ones 32 i l)) ∙ less i),
      λ same i l _. all i ∙ (same i l ∙ sym (less i)),
    )

-- ---- the tables and the legal cells

data_place : (s i : ℕ) → s < 30 → i < 32 → is_data_place (s + 1) (i + 1) ≡ true
data_place s i l k = grind (arith, nat_tests)

-- what is said at each place of data, and of each bit of a table
abbrev SaidAlike : Table → List Rule → List Rule → Type 0
SaidAlike table rules less = (s n : ℕ) → (is_data_place s n && bit_said (concerns table) rules (s - 1) (n - 1)) ≡ (is_data_place s n && bit_said (concerns table) less (s - 1) (n - 1))

same_places : (table : Table) (rules : List Rule) (k : ℕ) → SameTable table rules k → SaidAlike table rules (without k rules)
same_places table rules k same = λ s n. guarded (is_data_place s n) _ _ (λ place. same (s - 1) (place_low s n place) (n - 1) (place_high s n place))

same_table : (table : Table) (rules : List Rule) (k : ℕ) → SaidAlike table rules (without k rules) → SameTable table rules k
same_table table rules k alike s l i m = search (arith, data_place, data_place s i l m)

abbrev heard_alike : Profile → ℕ → Cell → Type 0
heard_alike p k c = (is_heard p.broadcast c && is_legal p.rules p.modes c) ≡ (is_heard p.broadcast c && is_legal (without k p.rules) p.modes c)

cells_alike : (p : Profile) (k : ℕ) → SameTables p k → (c : Cell) → heard_alike p k c
unfolding is_legal
cells_alike p k same (cell.OwnReceive s n) = same_places OwnReceive p.rules k same.0 s n
cells_alike p k same (cell.OwnTransmit s n) = same_places OwnTransmit p.rules k same.1 s n
cells_alike p k same (cell.BroadReceive s n) = guarded p.broadcast _ _ (λ hears. same_places BroadcastReceive p.rules k (same.2 hears) s n)
cells_alike p k same (cell.OwnMode c) = refl
cells_alike p k same (cell.BroadMode c) = refl

tables_alike : (p : Profile) (k : ℕ) → ((c : Cell) → heard_alike p k c) → SameTables p k
unfolding is_legal
tables_alike p k alike = (
  same_table OwnReceive p.rules k (λ s n. alike (cell.OwnReceive s n)),
  same_table OwnTransmit p.rules k (λ s n. alike (cell.OwnTransmit s n)),
  (λ hears. same_table BroadcastReceive p.rules k (λ s n. (behind p.broadcast _ _).1 (alike (cell.BroadReceive s n)) hears)),
)

-- ---- the terminal

pub asked : (p : Profile) → IsAsked (description_of p)
asked p = record { low = p.own_address; asks = required_codes p 2 refl; allowed = legal_allowed p.rules p.modes }

asked_without : (p : Profile) (k : ℕ) → IsAsked (without_rule p k)
asked_without p k = search (arith, own_codes, required_codes, legal_allowed)

pub spare_rule : (p : Profile) (k : ℕ) → SameTables p k ↔ Same (description_of p) (without_rule p k)
spare_rule p k =
    let cells = same_cells (description_of p) (is_legal (without k p.rules) p.modes) in
    let same = same_in_reach (description_of p) (without_rule p k) (asked p) (asked_without p k) in
    (λ tables. same.1 (cells.1 (cells_alike p k tables)), λ alike. tables_alike p k (cells.0 (same.0 alike)))

pub length-said : (table : Table) (s : ℕ) (rules : List Rule) → length (map (counts_said table s) rules) ≡ length rules
length-said table s rules = length-map rules (counts_said table s)
