use Rattle.std.proofs.Common.{◌≡◌, ◌<◌, ◌↔◌, ℕ, false, IsTrue, length, map, get_or, subst, ◌∙◌, arith}
use Rattle.spare_entries.specs.inner.Codes.{codes_said}
use Rattle.spare_entries.specs.inner.Says.{SameBits}
use Rattle.spare_entries.proofs.Marks.{by_law}
use Rattle.spare_entries.proofs.ModeLaws.{same_codes-said, length-said}
use Rattle.spare_entries.proofs.modes.unmark_modes.Goals as goal

pub returns : goal.returns
returns c =
    let modes = c.args.modes.now in
    let table = c.args.table in
    let said = map (codes_said table) modes in
    let is : c.deref.result.now ≡ said = c.deref.ensures.value ∙ c.in_ok-said.ensures in
    let start = c.first_codes.result in
    let codes = c.codes_of.result in
    let made : (k : ℕ) → k < length said → IsTrue (get_or c.unmark.new.spares k false) ↔ (IsTrue (get_or c.args.spares.now k false) × SameBits start codes said k) =
    subst (λ entries. (k : ℕ) → k < length entries → IsTrue (get_or c.unmark.new.spares k false) ↔ (IsTrue (get_or c.args.spares.now k false) × SameBits start codes entries k)) is c.in_ok-unmark.ensures in
    λ k l. by_law _ (get_or c.args.spares.now k false) (SameBits start codes said k) _ (made k (omega (arith, length-said table modes))) (same_codes-said table modes k start codes c.first_codes.ensures c.codes_of.ensures)
