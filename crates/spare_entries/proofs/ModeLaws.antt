-- A mode entry has no effect exactly if the tables of the codes that the terminal hears are the same without it.
use Rattle.std.proofs.Common.{◌≡◌, ◌<◌, ◌↔◌, ℕ, Bool, true, false, ◌&&◌, cond, List, map, length, get_or, Option, IsTrue, refl, ap, subst, sym, ◌∙◌, arith}
use Rattle.std.proofs.lemmas.List.{length-map}
use Rattle.bus_word.specs.declared.cell.Cell.{Cell}
use Rattle.bus_word.specs.declared.cell.Cell.TheVariants as cell
use Rattle.bus_word.specs.Mask.{has_bit}
use Rattle.bus_legal.specs.declared.entries.ModeRule.{ModeRule}
use Rattle.bus_legal.specs.declared.profile.Profile.{Profile}
use Rattle.bus_legal.specs.Last.{last_of}
use Rattle.bus_legal.specs.OwnCodes.{mode_says, is_own_code_legal, has_required_codes}
use Rattle.bus_legal.specs.Legal.{is_legal}
use Rattle.bus_legal.specs.Meaning.{description_of}
use Rattle.bus_legal.specs.Reach.{is_heard}
use Rattle.bus_legal.proofs.LegalLaws.{legal_allowed, own_codes}
use Rattle.bus_legal.proofs.ModeMasks.{each_required}
use Rattle.bus_legal.proofs.TableSteps.{row_below, broadcast_row_below}
use Rattle.bus_legal.proofs.TopBit.{zero-bit}
use Rattle.spare_entries.specs.declared.modes.CodeTable.{CodeTable}
use Rattle.spare_entries.specs.declared.modes.CodeTable.TheVariants.{Own, Broadcast}
use Rattle.spare_entries.specs.Without.{without, without_mode, IsSpareMode}
use Rattle.spare_entries.specs.inner.Says.{what_is_said, bit_after, SameBits}
use Rattle.spare_entries.specs.inner.Codes.{addresses, codes_said, is_first_legal, may_be_legal, is_code_legal, SameCodes, SameModes}
use Rattle.spare_entries.proofs.LastOf.{over, last_of-map, without-map}
use Rattle.spare_entries.proofs.Marks.{two}
use Rattle.spare_entries.proofs.Reached.{IsAsked, same_in_reach, same_cells}
use Rattle.spare_entries.proofs.RuleLaws.{asked}
use Rattle.spare_entries.proofs.Tests.{behind}

-- ---- one table

said_over : (table : CodeTable) (default : Bool) (o : Option ModeRule) → what_is_said default (over (codes_said table) o) ≡ mode_says default o
said_over table default o = search arith

speaks : (a : Bool) (mask i : ℕ) → has_bit (cond a mask 0) i ≡ (a && has_bit mask i)
speaks a mask i = search (arith, zero-bit)

-- the bit that the masks of the entries make is what the entries say
bit_after-modes : (table : CodeTable) (modes : List ModeRule) (start c : ℕ) → has_bit start c ≡ is_first_legal table c →
    bit_after (has_bit start c) (map (codes_said table) modes) c ≡ mode_says (is_first_legal table c) (last_of (λ m. addresses table m && has_bit m.codes c) modes)
bit_after-modes table modes start c first = search (arith, last_of-map, said_over, speaks)

pub same_codes-said : (table : CodeTable) (modes : List ModeRule) (k start codes : ℕ) →
    ((c : ℕ) → c < 32 → has_bit start c ≡ is_first_legal table c) → ((c : ℕ) → c < 32 → has_bit codes c ≡ may_be_legal table c) →
    SameBits start codes (map (codes_said table) modes) k ↔ SameCodes table modes k
same_codes-said table modes k start codes first may = search (arith, bit_after-modes, without-map, behind)

pub length-said : (table : CodeTable) (modes : List ModeRule) → length (map (codes_said table) modes) ≡ length modes
length-said table modes = length-map modes (codes_said table)

-- ---- the tables and the legal cells

abbrev heard_alike : Profile → ℕ → Cell → Type 0
heard_alike p k c = (is_heard p.broadcast c && is_legal p.rules p.modes c) ≡ (is_heard p.broadcast c && is_legal p.rules (without k p.modes) c)

below : (table : CodeTable) (c : ℕ) → may_be_legal table c ≡ true → c < 32
below table c h = search (arith, row_below, broadcast_row_below)

-- a code past the table is not legal
every_code : (table : CodeTable) (modes : List ModeRule) (k : ℕ) → SameCodes table modes k → (c : ℕ) → is_code_legal table modes c ≡ is_code_legal table (without k modes) c
every_code table modes k same c = search (arith, behind, below)

cells_alike : (p : Profile) (k : ℕ) → SameModes p k → (c : Cell) → heard_alike p k c
unfolding is_legal
cells_alike p k same (cell.OwnReceive s n) = refl
cells_alike p k same (cell.OwnTransmit s n) = refl
cells_alike p k same (cell.BroadReceive s n) = refl
cells_alike p k same (cell.OwnMode c) = every_code Own p.modes k same.0 c
cells_alike p k same (cell.BroadMode c) = (behind p.broadcast _ _).0 (λ hears. every_code Broadcast p.modes k (same.1 hears) c)

tables_alike : (p : Profile) (k : ℕ) → ((c : Cell) → heard_alike p k c) → SameModes p k
unfolding is_legal
tables_alike p k alike = (
  (λ c l. alike (cell.OwnMode c)),
  (λ hears c l. (behind p.broadcast _ _).1 (alike (cell.BroadMode c)) hears),
)

-- ---- the terminal

asked_without : (p : Profile) (k : ℕ) → IsTrue (has_required_codes (without k p.modes)) → IsAsked (without_mode p k)
asked_without p k required = search (arith, own_codes, each_required, legal_allowed)

-- where the own codes are the same without the entry, those are legal that must be
still_required : (p : Profile) (k : ℕ) → SameCodes Own p.modes k → IsTrue (has_required_codes (without k p.modes))
still_required p k same =
    let two : is_own_code_legal p.modes 2 ≡ is_own_code_legal (without k p.modes) 2 = same 2 (omega arith) in
    let four : is_own_code_legal p.modes 4 ≡ is_own_code_legal (without k p.modes) 4 = same 4 (omega arith) in
    let five : is_own_code_legal p.modes 5 ≡ is_own_code_legal (without k p.modes) 5 = same 5 (omega arith) in
    let eight : is_own_code_legal p.modes 8 ≡ is_own_code_legal (without k p.modes) 8 = same 8 (omega arith) in
    let all : has_required_codes p.modes ≡ has_required_codes (without k p.modes) = (λ j. two j && (four j && (five j && (eight j && true)))) in
    sym all ∙ p.required_codes

pub spare_mode : (p : Profile) (k : ℕ) → SameModes p k ↔ IsSpareMode p k
spare_mode p k =
    let cells = same_cells (description_of p) (is_legal p.rules (without k p.modes)) in
    let same = λ (required : IsTrue (has_required_codes (without k p.modes))). same_in_reach (description_of p) (without_mode p k) (asked p) (asked_without p k required) in (
      λ tables. (let required = still_required p k tables.0 in (required, (same required).1 (cells.1 (cells_alike p k tables)))),
      λ spare. tables_alike p k (cells.0 ((same spare.0).0 spare.1)),
    )
